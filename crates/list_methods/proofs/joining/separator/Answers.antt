use Rattle.std.proofs.Common.{◌∙◌, sym}
use Rattle.std.proofs.lemmas.Result.{IfOk-weaker}
use Rattle.list_methods.proofs.Joins.{separator_is}
use Rattle.list_methods.proofs.joining.separator.Goals as goal

pub returns-in_default : goal.returns-in_default
returns-in_default c = IfOk-weaker c.read_text.result _ _ (λ t h. λ w cells. h w cells ∙ sym (separator_is w cells c.args.between.now c.in_default.not-Undefined)) c.read_text.ensures
