-- What is written of a library.
use Rattle.std.specs.Prelude.{ℕ, List, Bool, true, false}
use Rattle.code_units.specs.Places.{place_at}
use Rattle.js_tree.specs.Plain.{Stmts}
use Rattle.js_print.specs.Tidy.{tidy}
use Rattle.adsafe_rules.specs.declared.scope.Scope.TheVariants as scope
use Rattle.trace_text.specs.declared.line.Rule.TheVariants as rule
use Rattle.trace_text.specs.Report.{lib_accepted, lib_refused}
use Rattle.script_check.specs.Script.{LibFirst, IsScript}

-- the line of a library under its name, and whether it names a broken rule
pub data IsLine (name file : List ℕ) : Bool → List ℕ → Type 0 where
  accepted : {program : Stmts} → IsScript file scope.Lib program → IsLine name file false (lib_accepted name)
  refused : {number at : ℕ} → LibFirst file number at → IsLine name file true (lib_refused name (rule.A number) (place_at file at))

-- the tidied text of a library, or else its line; and whether that names a broken rule
pub data IsTidied (name file : List ℕ) : Bool → List ℕ → Type 0 where
  tidied : {program : Stmts} → IsScript file scope.Lib program → IsTidied name file false (tidy program)
  not_tidied : {number at : ℕ} → LibFirst file number at → IsTidied name file true (lib_refused name (rule.A number) (place_at file at))
