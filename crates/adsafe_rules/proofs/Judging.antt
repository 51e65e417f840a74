-- What is read of an accepted tree.
use Rattle.std.proofs.Common.{◌≡◌, ℕ, List, sym, ap, ◌∙◌, subst, Option}
use Rattle.std.specs.Prelude.{map, option_to_list, IfSome}
use Rattle.js_tree.specs.declared.nodes.FunId.{FunId}
use Rattle.js_tree.specs.declared.nodes.StmtId.{StmtId}
use Rattle.js_tree.specs.declared.tree.Tree.{Tree}
use Rattle.js_tree.specs.Trees.{trees, program_of}
use Rattle.js_tree.specs.Forest.{IsFun, fun_at, stmts_at}
use Rattle.js_tree.specs.Parts.{AFun, stmts_spots}
use Rattle.adsafe_rules.specs.declared.scope.Scope.{Scope}
use Rattle.node_rules.specs.Hoisting.{stmt_spot}
use Rattle.adsafe_rules.specs.Program.{IsClean, opened_functions, lib_names}
use Rattle.adsafe_rules.specs.Accepting.{IsJudged}
use Rattle.node_rules.proofs.Hoisting.{stmts_spots_at}

program_spots : (tree : Tree) (list : List StmtId) → stmts_at (trees tree) list ≡ program_of tree → map (stmt_spot (trees tree)) list ≡ stmts_spots (program_of tree)
program_spots tree list e = sym (stmts_spots_at (trees tree) list) ∙ ap stmts_spots e

pub judged : (tree : Tree) (scope : Scope) (a b : List StmtId) (fun : Option FunId) (name : Option (List ℕ)) → IsClean (program_of tree) scope → stmts_at (trees tree) a ≡ program_of tree → stmts_at (trees tree) b ≡ program_of tree → opened_functions (map (stmt_spot (trees tree)) a) ≡ map (λ g. AFun (fun_at (trees tree) g)) (option_to_list fun) → IfSome fun (IsFun (trees tree)) → map (λ n. n.text) (lib_names scope (map (stmt_spot (trees tree)) b)) ≡ option_to_list name → IsJudged tree scope fun name
judged tree scope a b fun name clean ea eb handed inside named = record {
  clean = clean;
  handed = subst (λ l. opened_functions l ≡ map (λ g. AFun (fun_at (trees tree) g)) (option_to_list fun)) (program_spots tree a ea) handed;
  inside = inside;
  named = subst (λ l. map (λ n. n.text) (lib_names scope l) ≡ option_to_list name) (program_spots tree b eb) named;
}
