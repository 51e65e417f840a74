-- What a check answers.
use Rattle.std.specs.Prelude.{◌≡◌, ℕ, List, Option, map, option_to_list, IfSome}
use Rattle.js_tree.specs.declared.nodes.FunId.{FunId}
use Rattle.js_tree.specs.declared.tree.Tree.{Tree}
use Rattle.js_tree.specs.Plain.{Stmts}
use Rattle.js_tree.specs.Forest.{IsFun, fun_at}
use Rattle.js_tree.specs.Parts.{AFun, stmts_spots}
use Rattle.js_tree.specs.Trees.{trees, program_of}
use Rattle.adsafe_rules.specs.declared.scope.Scope.{Scope}
use Rattle.adsafe_rules.specs.declared.scope.CheckFault.{CheckFault}
use Rattle.adsafe_rules.specs.declared.scope.CheckFault.TheVariants as fault
use Rattle.adsafe_rules.specs.Program.{First, IsClean, opened_functions, lib_names}

-- At the position the tree breaks no rule; fun is the function that its call hands over, and name that of a library.
pub record IsJudged (tree : Tree) (scope : Scope) (fun : Option FunId) (name : Option (List ℕ)) : Type 0 where
  pub clean : IsClean (program_of tree) scope
  pub handed : opened_functions (stmts_spots (program_of tree)) ≡ map (λ g. AFun (fun_at (trees tree) g)) (option_to_list fun)
  pub inside : IfSome fun (IsFun (trees tree))
  pub named : map (λ n. n.text) (lib_names scope (stmts_spots (program_of tree))) ≡ option_to_list name

-- the fault is the first broken rule, or memory ran out
abbrev pub IsFault : Stmts → Scope → CheckFault → Type 0
IsFault program scope (fault.Broken rule at) = First program scope rule at
IsFault program scope fault.Memory = Unit {0}
