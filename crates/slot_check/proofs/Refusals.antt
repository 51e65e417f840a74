-- From a broken part to the refusal of the slot.
use Rattle.std.proofs.Common.{◌≡◌, ℕ, ◌<◌, ◌+◌, ◌-◌, ◌^◌, min, List, length, get_or, Some, Option, All, Result, Ok, Err, IfErr, sym, subst, ◌∙◌}
use Rattle.std.specs.Result.{IsErrAnd}
use Rattle.std.proofs.lemmas.List.Elements.{All-get_or}
use Rattle.first_breach.specs.declared.Breach.{Breach}
use Rattle.adsafe_rules.specs.declared.scope.Scope.{Scope}
use Rattle.adsafe_rules.specs.declared.scope.Scope.TheVariants as scope
use Rattle.plain_tree.specs.Trees.{Trees}
use Rattle.plain_tree.specs.Plains.{Places}
use Rattle.widget_form.specs.declared.form.Span.{Span}
use Rattle.script_check.specs.declared.fault.ScriptFault.{ScriptFault}
use Rattle.script_check.specs.declared.fault.ScriptFault.TheVariants as script
use Rattle.script_check.specs.Script.{ScriptFirst}
use Rattle.script_check.specs.Verdict.{IsScriptFault}
use Rattle.trace_text.specs.declared.line.Rule.TheVariants as rule
use Rattle.slot_check.specs.declared.sources.SourceFile.{SourceFile}
use Rattle.slot_check.specs.declared.markup.CheckMarkupFault.{CheckMarkupFault}
use Rattle.slot_check.specs.declared.markup.CheckMarkupFault.TheVariants as markup_fault
use Rattle.slot_check.specs.declared.fault.Refusal.{Refusal}
use Rattle.slot_check.specs.declared.fault.SlotFault.{SlotFault}
use Rattle.slot_check.specs.declared.fault.SlotFault.TheVariants as fault
use Rattle.slot_check.specs.Slots.{FirstOfSlot, IsSlotFault}
use Rattle.slot_check.specs.Sources.{Slot, keys_of, script_text}
use Rattle.slot_check.specs.Slot.{IsFile, id_span, named_libs, last_span, IsIdClean, AreClean, LibrariesFirst, markup, id_script, library, go_script}
use Rattle.slot_check.specs.Verdicts.{source_of, sources_of, IsSmall, IsRefusalAt, Refuses, IsMarkupRefusal, IsSpanRefusal, IsIdRefusal, IsLibraryRefusal, IsNamedRefusal, IsRefused, IsVerdictAt, AreNamedClean}
use Rattle.slot_check.proofs.Judging.{there_at}
use Rattle.slot_check.proofs.Spans.{place_far}

pub small_at : (libs : List SourceFile) (i : ℕ) (file : SourceFile) → All IsSmall libs → i < length libs → file ≡ get_or libs i file → IsSmall file
small_at libs i file small within is = subst IsSmall (sym is) (All-get_or IsSmall libs i file within small)

-- a fault of which one thing is known has another
weaker : (P Q : Refusal → Type 0) (f : SlotFault) → ((r : Refusal) → P r → Q r) → Refuses P f → Refuses Q f
weaker P Q (fault.Broken r) so is = so r is
weaker P Q fault.Memory so is = tt

-- what `?` hands on
pub pass : {X : Type 0} (P Q : Refusal → Type 0) (r : Result X SlotFault) (f : SlotFault) → IsErrAnd r (λ e. e ≡ f) → Refuses P f → ((x : Refusal) → P x → Q x) → IfErr r (Refuses Q)
pass P Q (Ok x) f same is so = absurd same
pass P Q (Err e) f same is so = subst (Refuses Q) (sym same) (weaker P Q f so is)

-- the markup is broken
pub markup_refused : (name : List ℕ) (keys : List (List ℕ)) (file : SourceFile) (shown : List ℕ) (e : CheckMarkupFault) (number at : ℕ) (f : SlotFault) → shown ≡ file.bytes.items → IsSlotFault name keys shown e → e ≡ markup_fault.Broken number at → Refuses (IsRefusalAt (source_of file) (rule.M number) at) f → Refuses (IsMarkupRefusal name keys (source_of file)) f
markup_refused name keys file shown e number at f same broken is refused =
    let here : FirstOfSlot name keys shown number at = subst (IsSlotFault name keys shown) is broken in
    weaker (IsRefusalAt (source_of file) (rule.M number) at) (IsMarkupRefusal name keys (source_of file)) f
    (λ r h. record { number = number; at = at; first = subst (λ b. FirstOfSlot name keys b number at) same here; is = h }) refused

-- a script is broken
pub span_refused : (file : SourceFile) (span : Span) (scope : Scope) (shown : List ℕ) (e : ScriptFault) (b : Breach) (k : ℕ) (f : SlotFault) → IsSmall file → shown ≡ script_text file.bytes.items span → IsScriptFault shown scope e → e ≡ script.Broken b → k ≡ min (span.from + b.at) (2 ^ 64 - 1) → Refuses (IsRefusalAt (source_of file) (rule.A b.rule) k) f → Refuses (IsSpanRefusal (source_of file) span scope) f
span_refused file span scope shown e b k f small same broken is far refused =
    let here : ScriptFirst shown scope b.rule b.at = subst (IsScriptFault shown scope) is broken in
    weaker (IsRefusalAt (source_of file) (rule.A b.rule) k) (IsSpanRefusal (source_of file) span scope) f
    (λ r h. record {
      number = b.rule;
      behind = b.at;
      first = subst (λ t. ScriptFirst t scope b.rule b.at) same here;
      is = record { same = h.same; named = h.named; placed = place_far file.bytes.items (span.from + b.at) k r.at small far h.placed };
    }) refused

pub id_refused : {X : Type 0} (name key : List ℕ) (file : SourceFile) (script : Option Span) (span : Span) (r : Result X SlotFault) (f : SlotFault) → script ≡ Some span → key ≡ name → IsErrAnd r (λ e. e ≡ f) → Refuses (IsSpanRefusal (source_of file) span (scope.Id key)) f → IfErr r (Refuses (IsIdRefusal name (source_of file) script))
id_refused name key file script span r f there same is refused =
    pass (IsSpanRefusal (source_of file) span (scope.Id key)) (IsIdRefusal name (source_of file) script) r f is refused
    (λ x h. record { span = span; there = there; broken = subst (λ n. IsSpanRefusal (source_of file) span (scope.Id n) x) same h })

-- a library is broken
pub library_refused : (libs : List SourceFile) (place : ℕ) (file : SourceFile) (b : Breach) (f : SlotFault) → IsVerdictAt (sources_of libs) place (Some b) → place < length libs → file ≡ get_or libs place file → Refuses (IsRefusalAt (source_of file) (rule.A b.rule) b.at) f → Refuses (IsLibraryRefusal (sources_of libs) place) f
library_refused libs place file b f v within is refused =
    let both : Some (source_of file) ≡ Some v.lib = sym (there_at libs place file within is) ∙ v.there in
    let same : source_of file ≡ v.lib = cc in
    weaker (IsRefusalAt (source_of file) (rule.A b.rule) b.at) (IsLibraryRefusal (sources_of libs) place) f
    (λ r h. record { lib = v.lib; there = v.there; number = b.rule; byte = b.at; first = v.is; is = subst (λ s. IsRefusalAt s (rule.A b.rule) b.at r) same h }) refused

-- ## The slot

module _ (slot : Slot) where
  pub slot_markup : {X : Type 0} (keys : List (List ℕ)) (r : Result X SlotFault) (f : SlotFault) → keys ≡ keys_of slot.libs → IsErrAnd r (λ e. e ≡ f) → Refuses (IsMarkupRefusal slot.name keys slot.file) f → IfErr r (Refuses (IsRefused slot))
  slot_markup keys r f keyed is refused =
      pass (IsMarkupRefusal slot.name keys slot.file) (IsRefused slot) r f is refused
      (λ x h. record { rule = rule.M h.number; source = slot.file; byte = h.at; first = markup (subst (λ k. FirstOfSlot slot.name k slot.file.bytes h.number h.at) keyed h.first); is = h.is })

  module _ (file : Trees Places) (has : IsFile slot file) where
    pub slot_id : {X : Type 0} (script : Option Span) (r : Result X SlotFault) (f : SlotFault) → script ≡ id_span file → IsErrAnd r (λ e. e ≡ f) → Refuses (IsIdRefusal slot.name slot.file script) f → IfErr r (Refuses (IsRefused slot))
    slot_id script r f same is refused =
        pass (IsIdRefusal slot.name slot.file script) (IsRefused slot) r f is refused
        (λ x h. record { rule = rule.A h.broken.number; source = slot.file; byte = h.span.from + h.broken.behind; first = id_script has (sym same ∙ h.there) h.broken.first; is = h.broken.is })

    module _ (clean : IsIdClean slot.name slot.file.bytes (id_span file)) where
      pub slot_named : {X : Type 0} (names : List (List ℕ)) (r : Result X SlotFault) (f : SlotFault) → names ≡ named_libs file → IsErrAnd r (λ e. e ≡ f) → Refuses (IsNamedRefusal slot.libs names) f → IfErr r (Refuses (IsRefused slot))
      slot_named names r f same is refused =
          pass (IsNamedRefusal slot.libs names) (IsRefused slot) r f is refused
          (λ x h. record { rule = rule.A h.number; source = h.lib; byte = h.byte; first = library has clean (subst (λ ns. LibrariesFirst slot.libs ns h.number h.lib h.byte) same h.first); is = h.is })

      pub slot_last : {X : Type 0} (names : List (List ℕ)) (places : List ℕ) (span : Span) (key : List ℕ) (r : Result X SlotFault) (f : SlotFault) → names ≡ named_libs file → AreNamedClean slot.libs names places → Some span ≡ last_span file → key ≡ slot.name → IsErrAnd r (λ e. e ≡ f) → Refuses (IsSpanRefusal slot.file span (scope.Go key)) f → IfErr r (Refuses (IsRefused slot))
      slot_last names places span key r f same named there name is refused =
          let libs = subst (λ ns. AreClean slot.libs ns places named.programs) same named.clean in
          pass (IsSpanRefusal slot.file span (scope.Go key)) (IsRefused slot) r f is refused
          (λ x h. record { rule = rule.A h.number; source = slot.file; byte = span.from + h.behind; first = go_script has clean libs (sym there) (subst (λ n. ScriptFirst (script_text slot.file.bytes span) (scope.Go n) h.number h.behind) name h.first); is = h.is })
