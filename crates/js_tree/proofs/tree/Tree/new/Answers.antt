use Rattle.std.proofs.Common.{refl}
use Rattle.js_tree.specs.Arena.{forest}
use Rattle.js_tree.proofs.tree.Tree.new.Goals as goal

pub returns-clause-nodes : goal.returns-clause-nodes
unfolding forest
returns-clause-nodes c = rw c.new-4.ensures.items refl
