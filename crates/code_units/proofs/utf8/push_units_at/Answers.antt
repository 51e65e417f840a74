use Rattle.std.proofs.Common.{◌∙◌}
use Rattle.std.proofs.lemmas.Result.{IfOk-weaker}
use Rattle.code_units.proofs.AsciiRuns.{units_pushed, utf8_behind}
use Rattle.code_units.proofs.utf8.push_units_at.Goals as goal

pub push_chars-requires-clause-place : goal.push_chars-requires-clause-place
push_chars-requires-clause-place c =
    utf8_behind c.args.text.now c.args.at c.ascii_len.result (rw c.as_bytes-bytes.ensures.value at c.ascii_len.ensures.len) c.requires.place

pub returns-clause-units : goal.returns-clause-units
returns-clause-units c =
    let ascii = units_pushed c.as_bytes-bytes.result.now c.args.at c.ascii_len.result c.ascii_len.ensures.len c.args.units.now.items c.push_ascii.new.units.items c.in_ok-push_ascii.ensures in
    IfOk-weaker c.push_chars.result _ _ (λ _ more. more ∙ (rw c.as_bytes-bytes.ensures.value at ascii)) c.push_chars.ensures.units
