use Rattle.std.proofs.Common.{sym, subst}
use Rattle.std.specs.Prelude.{IfOk}
use Rattle.js_tree.specs.Trees.{trees}
use Rattle.page_load.specs.Opening.{IsHanded}
use Rattle.page_load.proofs.Handing.{none_of_arguments, two_arguments}
use Rattle.page_load.proofs.opening.handed_by_arguments.Goals as goal

pub returns-then-args-ne2 : goal.returns-then-args-ne2
returns-then-args-ne2 c = none_of_arguments (trees c.args.tree.now) c.args.args.now c.if-args-ne2.true

pub returns : goal.returns
returns c = subst (λ p. IfOk c.handed_by.result (IsHanded (trees c.args.tree.now) p)) (sym (two_arguments (trees c.args.tree.now) c.args.args.now _ _ c.if-args-ne2.false)) c.handed_by.ensures
