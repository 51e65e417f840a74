use Rattle.std.proofs.Common.{sym, subst, ◌∙◌}
use Rattle.std.specs.Prelude.{IfSome}
use Rattle.std.proofs.lemmas.Result.{IfOk-weaker}
use Rattle.js_tree.specs.Forest.{IsFun}
use Rattle.js_tree.specs.Trees.{trees}
use Rattle.page_load.proofs.codes.code_of.Goals as goal

pub new-requires : goal.new-requires
new-requires c = subst (λ t. IfSome c.fun-fun.result (IsFun (trees t))) (sym c.into_tree.ensures) c.fun-fun.ensures.inside

pub returns : goal.returns
returns c = IfOk-weaker c.new.result _ _ (λ code e. e ∙ c.into_tree.ensures) c.new.ensures.same
