-- What is written of a library.
use Rattle.std.proofs.Common.{◌≡◌, ℕ, List, Bool, sym, subst, true, false, Result, Ok, Err, IfOk}
use Rattle.js_tree.specs.Trees.{program_of}
use Rattle.js_print.specs.Tidy.{tidy}
use Rattle.adsafe_rules.specs.declared.accepted.Accepted.{Accepted}
use Rattle.adsafe_rules.specs.Accepts.{tree_of}
use Rattle.adsafe_rules.specs.declared.scope.Scope.{Scope}
use Rattle.adsafe_rules.specs.declared.scope.Scope.TheVariants as scope
use Rattle.trace_text.specs.declared.line.Rule.TheVariants as rule
use Rattle.trace_text.specs.Report.{lib_accepted, lib_refused}
use Rattle.script_check.specs.Script.{Reads, IsScript, LibFirst}
use Rattle.code_units.specs.Places.{place_at}
use Rattle.code_units.specs.declared.memory.Memory.{Memory}
use Rattle.first_breach.specs.declared.Breach.{Breach}
use Rattle.script_check.specs.declared.lines.JudgedText.{JudgedText}
use Rattle.script_check.specs.declared.fault.ScriptFault.{ScriptFault}
use Rattle.script_check.specs.declared.fault.ScriptFault.TheVariants as fault
use Rattle.script_check.specs.Verdict.{IsAccepted, IsScriptFault}
use Rattle.script_check.specs.Line.{IsLine, IsTidied, accepted, refused, tidied, not_tidied}

-- the program that was accepted is that of the bytes
pub script_of : (file : List ℕ) (position : Scope) (a : Accepted) → IsAccepted file position a → IsScript file position (program_of (tree_of a))
script_of file position a is = record { tokens = is.has.tokens; reads = subst (λ p. Reads file is.has.tokens p) (sym is.holds.same) is.has.reads; clean = is.holds.judged.clean }

pub clean_line : (name file bytes : List ℕ) (clean : Bool) (a : Accepted) → IsAccepted file scope.Lib a → bytes ≡ lib_accepted name → clean ≡ false → IsLine name file clean bytes
clean_line name file bytes clean a is line same = subst (λ b. IsLine name file b bytes) (sym same) (subst (IsLine name file false) (sym line) (accepted (script_of file scope.Lib a is)))

pub broken_line : (name file bytes : List ℕ) (clean : Bool) (number at : ℕ) → LibFirst file number at → bytes ≡ lib_refused name (rule.A number) (place_at file at) → clean ≡ true → IsLine name file clean bytes
broken_line name file bytes clean number at first line same = subst (λ b. IsLine name file b bytes) (sym same) (subst (IsLine name file true) (sym line) (refused first))

pub clean_text : (name file bytes : List ℕ) (clean : Bool) (a : Accepted) → IsAccepted file scope.Lib a → bytes ≡ tidy (program_of (tree_of a)) → clean ≡ false → IsTidied name file clean bytes
clean_text name file bytes clean a is text same = subst (λ b. IsTidied name file b bytes) (sym same) (subst (IsTidied name file false) (sym text) (tidied (script_of file scope.Lib a is)))

pub broken_text : (name file bytes : List ℕ) (clean : Bool) (number at : ℕ) → LibFirst file number at → bytes ≡ lib_refused name (rule.A number) (place_at file at) → clean ≡ true → IsTidied name file clean bytes
broken_text name file bytes clean number at first line same = subst (λ b. IsTidied name file b bytes) (sym same) (subst (IsTidied name file true) (sym line) (not_tidied first))

pub clean_lines : (name file : List ℕ) (a : Accepted) (r : Result JudgedText Memory) → IsAccepted file scope.Lib a → IfOk r (λ t. t.bytes.items ≡ lib_accepted name) → IfOk r (λ t. t.refused ≡ false) → IfOk r (λ t. IsLine name file t.refused t.bytes.items)
clean_lines name file a (Ok t) is line named = clean_line name file t.bytes.items t.refused a is line named
clean_lines name file a (Err x) is line named = tt

pub clean_texts : (name file : List ℕ) (a : Accepted) (r : Result JudgedText Memory) → IsAccepted file scope.Lib a → IfOk r (λ t. t.bytes.items ≡ tidy (program_of (tree_of a))) → IfOk r (λ t. t.refused ≡ false) → IfOk r (λ t. IsTidied name file t.refused t.bytes.items)
clean_texts name file a (Ok t) is text named = clean_text name file t.bytes.items t.refused a is text named
clean_texts name file a (Err x) is text named = tt

module _ (name file : List ℕ) (e : ScriptFault) (b : Breach) (is : IsScriptFault file scope.Lib e) (same : e ≡ fault.Broken b) where
  first : LibFirst file b.rule b.at
  first = subst (IsScriptFault file scope.Lib) same is

  pub broken_lines : (r : Result JudgedText Memory) → IfOk r (λ t. t.bytes.items ≡ lib_refused name (rule.A b.rule) (place_at file b.at)) → IfOk r (λ t. t.refused ≡ true) → IfOk r (λ t. IsLine name file t.refused t.bytes.items)
  broken_lines (Ok t) line named = broken_line name file t.bytes.items t.refused b.rule b.at first line named
  broken_lines (Err x) line named = tt

  pub broken_texts : (r : Result JudgedText Memory) → IfOk r (λ t. t.bytes.items ≡ lib_refused name (rule.A b.rule) (place_at file b.at)) → IfOk r (λ t. t.refused ≡ true) → IfOk r (λ t. IsTidied name file t.refused t.bytes.items)
  broken_texts (Ok t) line named = broken_text name file t.bytes.items t.refused b.rule b.at first line named
  broken_texts (Err x) line named = tt
