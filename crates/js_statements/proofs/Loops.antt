-- After the body of a loop comes its last part, and then its test.
use Rattle.std.proofs.Common.{◌≡◌, refl}
use Rattle.js_tree.specs.Plain as tree
use Rattle.js_tree.specs.Plain.{Stmt}
use Rattle.widget_meaning.specs.OwnState.{State}
use Rattle.widget_meaning.specs.Values.{Continue, Normal}
use Rattle.widget_meaning.specs.Plan.{DoLoop, ForInLoop, ForLoop, Loop, Place, WhileLoop, and_then}
use Rattle.widget_meaning.specs.Statements.{expressions}
use Rattle.js_flow.specs.Parts.{last_of, loop_of}
use Rattle.js_flow.specs.Statements.{loop_again, loop_next}

pub next_is : (i : Stmt) (p : Place) (s : State) → and_then (expressions (last_of i) p s) (loop_again (loop_of i) p) ≡ loop_next (loop_of i) p Normal s
next_is (tree.StmtAt at names (tree.Var ds)) p s = refl
next_is (tree.StmtAt at names (tree.Only e)) p s = refl
next_is (tree.StmtAt at names (tree.If e a b)) p s = refl
next_is (tree.StmtAt at names (tree.While e b)) p s = refl
next_is (tree.StmtAt at names (tree.DoWhile e b)) p s = refl
next_is (tree.StmtAt at names (tree.For first test next b)) p s = refl
next_is (tree.StmtAt at names (tree.ForIn is_declared x e b)) p s = refl
next_is (tree.StmtAt at names (tree.Continue x)) p s = refl
next_is (tree.StmtAt at names (tree.Break x)) p s = refl
next_is (tree.StmtAt at names (tree.Return e)) p s = refl
next_is (tree.StmtAt at names (tree.Throw e)) p s = refl
next_is (tree.StmtAt at names (tree.With e b)) p s = refl
next_is (tree.StmtAt at names (tree.Switch e cs)) p s = refl
next_is (tree.StmtAt at names (tree.Try a c b)) p s = refl
next_is (tree.StmtAt at names (tree.Label x i)) p s = refl

pub continued : (l : Loop) (p : Place) (s : State) → loop_next l p Normal s ≡ loop_next l p Continue s
continued (WhileLoop e b) p s = refl
continued (DoLoop b e) p s = refl
continued (ForLoop test next b) p s = refl
continued (ForInLoop v x y ys b) p s = refl
