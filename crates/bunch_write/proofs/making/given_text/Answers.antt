use Rattle.std.proofs.Common.{ap, sym, ◌∙◌, ◌∷◌, []}
use Rattle.bunch_write.proofs.Made.{given_none, given_some}
use Rattle.bunch_write.proofs.making.given_text.Goals as goal

pub returns-then-is_undefined : goal.returns-then-is_undefined
returns-then-is_undefined c = λ w cells. sym (given_none w cells c.args.value.now (sym c.is_undefined.ensures ∙ c.if-is_undefined.true))

pub returns : goal.returns
returns c = λ w cells. sym (given_some w cells c.args.value.now (sym c.is_undefined.ensures ∙ c.if-is_undefined.false) ∙ ap (λ t. t ∷ []) (sym (c.in_ok-read_text.ensures w cells)))
