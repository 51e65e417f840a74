use Rattle.std.proofs.Common.{◌∙◌}
use Rattle.std.proofs.lemmas.Result.{IfOk-weaker}
use Rattle.code_units.proofs.AsciiRuns.{bytes_pushed, fits}
use Rattle.code_units.proofs.utf8.push_encoded_at.Goals as goal

pub push_bytes-requires : goal.push_bytes-requires
push_bytes-requires c = fits c.args.units.now c.args.at c.run.result c.run.ensures.len

pub returns-clause-ok : goal.returns-clause-ok
returns-clause-ok c =
    let ascii = bytes_pushed c.args.units.now c.args.at c.run.result c.run.ensures.len c.args.out.now.items c.push_bytes.new.bytes.items c.in_ok-push_bytes.ensures.ok in
    IfOk-weaker c.push_code_points.result _ _ (λ _ more. more ∙ ascii) c.push_code_points.ensures.ok
