-- What callers see of an accepted text.
use Rattle.std.specs.Prelude.{◌≡◌, ℕ, List, Option}
use Rattle.js_tree.specs.declared.nodes.FunId.{FunId}
use Rattle.js_tree.specs.declared.tree.Tree.{Tree}
use Rattle.adsafe_rules.specs.declared.accepted.Accepted.{Accepted}
use Rattle.adsafe_rules.specs.declared.scope.Scope.{Scope}
use Rattle.adsafe_rules.specs.Accepting.{IsJudged}

-- the tree, its position, the function that its call hands over, and the name of a library
abbrev pub tree_of : Accepted → Tree
tree_of a = a.tree

abbrev pub scope_of : Accepted → Scope
scope_of a = a.scope

abbrev pub fun_of : Accepted → Option FunId
fun_of a = a.fun

abbrev pub lib_name_of : Accepted → Option (List ℕ)
lib_name_of a = a.lib_name

-- at its position the tree breaks no rule, and the function and the name are those of its call
abbrev pub BreaksNone : Accepted → Type 0
BreaksNone a = ∥ IsJudged (tree_of a) (scope_of a) (fun_of a) (lib_name_of a) ∥₁

-- what was accepted holds the tree, and what the position asks for
pub record Accepts (tree : Tree) (scope : Scope) (a : Accepted) : Type 0 where
  pub holds : tree_of a ≡ tree
  pub positioned : scope_of a ≡ scope
  pub judged : IsJudged tree scope (fun_of a) (lib_name_of a)
