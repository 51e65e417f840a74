-- What is promised of the tidied text of a script that breaks no rule.
use Rattle.std.specs.Prelude.{◌≡◌}
use Rattle.js_grammar.specs.Unplaced.{unplaced_stmts}
use Rattle.js_print.specs.Tidy.{tidy}
use Rattle.js_tree.specs.Plain.{Stmts}
use Rattle.adsafe_rules.specs.declared.scope.Scope.{Scope}
use Rattle.script_check.specs.Script.{IsScript}

-- The tidied text breaks no rule at the position; its program is the same, apart from places; and tidied once more it stays as it is.
pub record StaysClean (scope : Scope) (p : Stmts) : Type 0 where
  pub program : Stmts
  pub script : IsScript (tidy p) scope program
  pub same : unplaced_stmts program ≡ unplaced_stmts p
  pub again : tidy program ≡ tidy p
