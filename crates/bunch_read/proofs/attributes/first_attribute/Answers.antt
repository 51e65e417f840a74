use Rattle.std.proofs.Common.{[], ap, ◌∙◌}
use Rattle.std.specs.Prelude.{unwrap_or}
use Rattle.std.proofs.lemmas.Result.{IfOk-weaker}
use Rattle.bunch_read.proofs.attributes.first_attribute.Goals as goal

pub returns : goal.returns
returns c = λ s there. IfOk-weaker c.text_or_empty.result _ _ (λ t e. e ∙ ap (λ o. unwrap_or o []) (c.first_found.ensures s there)) c.text_or_empty.ensures
