-- What breaks no rule.
use Rattle.std.proofs.Common.{◌≡◌, ℕ, List, sym, subst, Some, Option}
use Rattle.js_tree.specs.Trees.{program_of}
use Rattle.plain_tree.specs.Trees.{Trees}
use Rattle.plain_tree.specs.Plains.{Places}
use Rattle.adsafe_rules.specs.declared.scope.Scope.{Scope}
use Rattle.adsafe_rules.specs.declared.scope.Scope.TheVariants as scope
use Rattle.adsafe_rules.specs.declared.accepted.Accepted.{Accepted}
use Rattle.adsafe_rules.specs.Accepts.{tree_of}
use Rattle.widget_form.specs.declared.form.Form.{Form}
use Rattle.widget_form.specs.declared.form.Span.{Span}
use Rattle.widget_form.specs.Rows.{IsGood}
use Rattle.widget_form.specs.Forms.{IsForm}
use Rattle.script_check.specs.Script.{IsScript, IsCleanScript}
use Rattle.script_check.specs.Verdict.{IsAccepted}
use Rattle.script_check.proofs.Written.{script_of}
use Rattle.slot_check.specs.declared.verdict.Widget.{Widget}
use Rattle.slot_check.specs.Sources.{Slot, keys_of, script_text}
use Rattle.slot_check.specs.Slots.{IsSlot}
use Rattle.slot_check.specs.Slot.{IsFile, IsIdClean, AreClean}
use Rattle.slot_check.specs.Verdicts.{AreNamedClean, IsAcceptedWidget}

-- an accepted script is clean
pub clean_script : (bytes : List ℕ) (position : Scope) (a : Accepted) → IsAccepted bytes position a → IsCleanScript bytes position
clean_script bytes position a is = record { program = program_of (tree_of a); script = script_of bytes position a is }

-- the `ADSAFE.id` script that is there
pub clean_id : (name key bytes : List ℕ) (script : Option Span) (span : Span) (a : Accepted) → script ≡ Some span → key ≡ name → IsAccepted (script_text bytes span) (scope.Id key) a → IsIdClean name bytes script
clean_id name key bytes script span a there same is =
    subst (IsIdClean name bytes) (sym there) (clean_script (script_text bytes span) (scope.Id name) a (subst (λ n. IsAccepted (script_text bytes span) (scope.Id n) a) same is))

-- the file of a slot that has a form
pub file_of : (slot : Slot) (keys : List (List ℕ)) (form : Form) → keys ≡ keys_of slot.libs → (h : IsSlot slot.name keys slot.file.bytes form) → IsFile slot h.file
file_of slot keys form keyed h = record { spelled = h.spelled; good = subst (λ k. IsGood slot.name k h.file) keyed h.good }

-- the widget of a slot that breaks no rule
pub widget_is : (slot : Slot) (file : Trees Places) (w : Widget) (key : List ℕ) → IsFile slot file → IsForm slot.name file w.form → IsIdClean slot.name slot.file.bytes w.form.id_script → AreNamedClean slot.libs w.form.libs.items w.libs.items → key ≡ slot.name → IsAccepted (script_text slot.file.bytes w.form.script) (scope.Go key) w.script → IsAcceptedWidget slot w
widget_is slot file w key has form id named name is = record {
  file = file;
  programs = named.programs;
  form = form;
  is = record {
    has = has;
    id = subst (IsIdClean slot.name slot.file.bytes) form.id_script id;
    libs = subst (λ ns. AreClean slot.libs ns w.libs.items named.programs) form.libs named.clean;
    span = w.form.script;
    there = sym form.script;
    last = subst (λ n. IsScript (script_text slot.file.bytes w.form.script) (scope.Go n) (program_of (tree_of w.script))) name (script_of (script_text slot.file.bytes w.form.script) (scope.Go key) w.script is);
  };
}
