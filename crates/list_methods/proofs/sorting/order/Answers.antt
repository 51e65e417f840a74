use Rattle.std.proofs.Common.{◌∙◌, sym}
use Rattle.widget_meaning.specs.ListChanges.{is_key_before}
use Rattle.list_methods.proofs.Sorts.{before_is}
use Rattle.list_methods.proofs.sorting.order.Goals as goal

pub returns-in-Some-Some : goal.returns-in-Some-Some
returns-in-Some-Some c = before_is c.in-Some-Some.t c.in-Some-Some.u c.cmp.result c.cmp.ensures ∙ (λ j. is_key_before (sym c.in-Some-Some.is-0 j) (sym c.in-Some-Some.is-1 j))
