use Rattle.std.proofs.Common.{◌∙◌, ap, length, sym}
use Rattle.js_tokens.proofs.Cursors.{boundary, past, none_left}
use Rattle.js_tokens.proofs.cursor.wide_char.Goals as goal

pub range_from-requires : goal.range_from-requires
range_from-requires c = λ _. boundary _ _ c.requires

pub returns-in_err-c : goal.returns-in_err-c
returns-in_err-c c =
    rw c.from_residual.ensures (none_left c.args.text.now c.args.at (ap length (sym (c.chars.ensures.rest ∙ c.range_from.ensures.value)) ∙ c.in_err-c.ensures.steps.0.0))

pub returns : goal.returns
returns c =
    rw c.len_utf8.ensures.value (past _ _ _ _ c.requires (sym (c.chars.ensures.rest ∙ c.range_from.ensures.value) ∙ c.in_ok-c.ensures.steps.0))
