-- The tidied text of a script that breaks no rule breaks none.
use Rattle.std.proofs.Common.{ℕ, List}
use Rattle.js_print.specs.Tidy.{tidy}
use Rattle.js_tree.specs.Plain.{Stmts}
use Rattle.adsafe_rules.specs.declared.scope.Scope.{Scope}
use Rattle.script_check.specs.Script.{ScriptFirst, IsScript}
use Rattle.script_check.proofs.Verdicts.{not_clean}
use Rattle.tidy_laws.proofs.Join.{tidied_again}
use Rattle.tidy_rules.specs.Stays.{StaysClean}
use Rattle.tidy_rules.proofs.Accepted.{script_tidied}
use Rattle.tidy_rules.proofs.Clean.{clean_too}

pub stays_clean : (bytes : List ℕ) (scope : Scope) (p : Stmts) → IsScript bytes scope p → StaysClean scope p
stays_clean bytes scope p s =
    let t = script_tidied bytes scope p s in
    record { program = t.tree; script = record { tokens = t.lexed; reads = record { lexes = t.lexes; spells = t.parsed }; clean = clean_too p t.tree scope t.same s.clean }; same = t.same; again = tidied_again 200 p t }

pub breaks_none : (bytes : List ℕ) (scope : Scope) (p : Stmts) (rule at : ℕ) → IsScript bytes scope p → ScriptFirst (tidy p) scope rule at → ⊥
breaks_none bytes scope p rule at s f =
    let c = stays_clean bytes scope p s in
    not_clean (tidy p) scope rule at f (record { program = c.program; script = c.script })
