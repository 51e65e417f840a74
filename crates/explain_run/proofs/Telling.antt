-- What is told of slots and of a library.
use Rattle.std.proofs.Common.{◌≡◌, ℕ, ◌<◌, ◌≤◌, ◌+◌, List, [], ◌∷◌, ◌++◌, length, take, get_or, refl, sym, ap, subst, ◌∙◌, arith, append_assoc, append-nil, Bool, true, false, ◌||◌, length-take}
use Rattle.std.specs.Prelude.{string_bytes}
use Rattle.std.proofs.lemmas.List.{length-map, map-append, take_more, take_all}
use Rattle.first_breach.specs.declared.Breach.{Breach}
use Rattle.js_tree.specs.Trees.{program_of}
use Rattle.code_units.specs.declared.place.Place.{Place}
use Rattle.code_units.specs.Places.{place_at}
use Rattle.adsafe_rules.specs.Accepts.{tree_of}
use Rattle.adsafe_rules.specs.declared.accepted.Accepted.{Accepted}
use Rattle.adsafe_rules.specs.declared.scope.Scope.TheVariants as scope
use Rattle.script_check.specs.declared.fault.ScriptFault.{ScriptFault}
use Rattle.script_check.specs.declared.fault.ScriptFault.TheVariants as script
use Rattle.script_check.specs.Verdict.{IsAccepted, IsScriptFault}
use Rattle.script_check.proofs.Written.{script_of}
use Rattle.trace_text.specs.declared.line.Rule.{Rule}
use Rattle.trace_text.specs.declared.line.Rule.TheVariants as rule
use Rattle.slot_check.specs.declared.sources.SourceFile.{SourceFile}
use Rattle.slot_check.specs.declared.fault.Refusal.{Refusal}
use Rattle.slot_check.specs.declared.fault.SlotFault.{SlotFault}
use Rattle.slot_check.specs.declared.fault.SlotFault.TheVariants as fault
use Rattle.slot_check.specs.declared.verdict.Widget.{Widget}
use Rattle.slot_check.specs.Sources.{Source, Slot}
use Rattle.slot_check.specs.Verdicts.{source_of, sources_of, IsAcceptedWidget, IsRefused, Refuses}
use Rattle.slot_check.specs.Line.{slots_over}
use Rattle.explain_run.specs.Text.{IsRefusalText, IsSlotText, clean, broken, AreSlotTexts, none, more, clean_library, broken_library, AppendsRefusal, AppendsSlot, AppendsLibrary}

-- a piece behind another
pub behind : (old mid new a b : List ℕ) → mid ≡ old ++ a → new ≡ mid ++ b → new ≡ old ++ (a ++ b)
behind old mid new a b first next = next ∙ ap (λ m. m ++ b) first ∙ append_assoc old a b

-- ## One slot

pub clean_slot : (slot : Slot) (widget : Widget) (out : List ℕ) → IsAcceptedWidget slot widget → AppendsSlot slot false out out
clean_slot slot widget out is = record {
  text = [];
  is = clean (record { file = is.file; places = widget.libs.items; programs = is.programs; script = program_of (tree_of widget.script); widget = is.is });
  whole = sym (append-nil out);
}

refusal_as : (f g : List ℕ) (r q : Rule) (a b : Place) (text : List ℕ) → f ≡ g → r ≡ q → a ≡ b → IsRefusalText f r a text → IsRefusalText g q b text
refusal_as f g r q a b text same_file same_rule same_place is =
    subst (λ x. IsRefusalText x q b text) same_file (subst (λ x. IsRefusalText f x b text) same_rule (subst (λ x. IsRefusalText f r x text) same_place is))

pub refused_slot : (slot : Slot) (refusal : Refusal) (file old new : List ℕ) → file ≡ string_bytes refusal.file → IsRefused slot refusal → AppendsRefusal file refusal.rule refusal.at old new → AppendsSlot slot true old new
refused_slot slot refusal file old new named is appended = record {
  text = appended.text;
  is = broken is.first (refusal_as file is.source.name refusal.rule is.rule refusal.at (place_at is.source.bytes is.byte) appended.text (named ∙ is.is.named) is.is.same is.is.placed appended.is);
  whole = appended.whole;
}

pub refused_by : (slot : Slot) (f : SlotFault) (refusal : Refusal) (file old new : List ℕ) → file ≡ string_bytes refusal.file → Refuses (IsRefused slot) f → f ≡ fault.Broken refusal → AppendsRefusal file refusal.rule refusal.at old new → AppendsSlot slot true old new
refused_by slot f refusal file old new named refuses same appended = refused_slot slot refusal file old new named (subst (Refuses (IsRefused slot)) same refuses) appended

-- ## A library

pub clean_library_text : (name library : List ℕ) (accepted : Accepted) (out : List ℕ) → IsAccepted library scope.Lib accepted → AppendsLibrary name library false out out
clean_library_text name library accepted out is = record {
  text = [];
  is = clean_library (record { program = program_of (tree_of accepted); script = script_of library scope.Lib accepted is });
  whole = sym (append-nil out);
}

pub broken_library_text : (name library : List ℕ) (e : ScriptFault) (b : Breach) (at : Place) (old new : List ℕ) → IsScriptFault library scope.Lib e → e ≡ script.Broken b → at ≡ place_at library b.at → AppendsRefusal name (rule.A b.rule) at old new → AppendsLibrary name library true old new
broken_library_text name library e b at old new is same placed appended = record {
  text = appended.text;
  is = broken_library (subst (IsScriptFault library scope.Lib) same is) (subst (λ p. IsRefusalText name (rule.A b.rule) p appended.text) placed appended.is);
  whole = appended.whole;
}

-- ## Slots in order

or_assoc : (a b c : Bool) → (a || (b || c)) ≡ ((a || b) || c)
or_assoc true b c = refl
or_assoc false b c = refl

or_false : (a : Bool) → (a || false) ≡ a
or_false true = refl
or_false false = refl

push_text : (ss : List Slot) (s : Slot) (r q : Bool) (b c : List ℕ) → AreSlotTexts ss r b → IsSlotText s q c → AreSlotTexts (ss ++ s ∷ []) (r || q) (b ++ c)
push_text slots s r q b c none is = subst (λ x. AreSlotTexts (s ∷ []) x c) (or_false q) (subst (AreSlotTexts (s ∷ []) (q || false)) (append-nil c) (more is none))
push_text slots s r q b c (more {slot = t} {r = r1} {text = l1} {slots = ts} {q = q1} {rest = k1} has rest) is =
    subst (λ x. AreSlotTexts (t ∷ (ts ++ s ∷ [])) x ((l1 ++ k1) ++ c)) (or_assoc r1 q1 q)
    (subst (AreSlotTexts (t ∷ (ts ++ s ∷ [])) (r1 || (q1 || q))) (sym (append_assoc l1 k1 c)) (more has (push_text ts s q1 q k1 c rest is)))

slots_push : (libs : List Source) (names : List (List ℕ)) (files : List Source) (name : List ℕ) (file : Source) → length names ≡ length files → slots_over libs (names ++ name ∷ []) (files ++ file ∷ []) ≡ slots_over libs names files ++ record { name = name; file = file; libs = libs } ∷ []
slots_push libs [] [] name file same = refl
slots_push libs [] (f ∷ fs) name file same = absurd (omega arith)
slots_push libs (n ∷ ns) [] name file same = absurd (omega arith)
slots_push libs (n ∷ ns) (f ∷ fs) name file same = ap (λ ss. record { name = n; file = f; libs = libs } ∷ ss) (slots_push libs ns fs name file (omega arith))

module _ (libs : List Source) (names : List (List ℕ)) (files : List SourceFile) (same : length names ≡ length files) where
  abbrev Front : ℕ → Bool → List ℕ → Type 0
  Front i r b = AreSlotTexts (slots_over libs (take i names) (sources_of (take i files))) r b

  slots_more : (i : ℕ) (name : List ℕ) (file : SourceFile) → i < length names → name ≡ get_or names i name → file ≡ get_or files i file → slots_over libs (take (i + 1) names) (sources_of (take (i + 1) files)) ≡ slots_over libs (take i names) (sources_of (take i files)) ++ record { name = name; file = source_of file; libs = libs } ∷ []
  slots_more i name file within is also =
      let here : i < length files = omega arith in
      let ns : take (i + 1) names ≡ take i names ++ name ∷ [] = take_more names i name within ∙ ap (λ n. take i names ++ n ∷ []) (sym is) in
      let fs : sources_of (take (i + 1) files) ≡ sources_of (take i files) ++ source_of file ∷ [] =
      ap sources_of (take_more files i file here) ∙ map-append source_of (take i files) (get_or files i file ∷ []) ∙ ap (λ f. sources_of (take i files) ++ source_of f ∷ []) (sym also) in
      let even : length (take i names) ≡ length (sources_of (take i files)) = omega (arith, length-take i names, length-map (take i files) source_of, length-take i files) in
      ap (λ n. slots_over libs n (sources_of (take (i + 1) files))) ns ∙ ap (slots_over libs (take i names ++ name ∷ [])) fs ∙ slots_push libs (take i names) (sources_of (take i files)) name (source_of file) even

  pub texts_next : (i : ℕ) (name : List ℕ) (file : SourceFile) (r q p : Bool) (b d : List ℕ) → i < length names → name ≡ get_or names i name → file ≡ get_or files i file → Front i r b → AppendsSlot (record { name = name; file = source_of file; libs = libs }) q b d → p ≡ (r || q) → Front (i + 1) p d
  texts_next i name file r q p b d within is also before this flag =
      let whole = push_text (slots_over libs (take i names) (sources_of (take i files))) (record { name = name; file = source_of file; libs = libs }) r q b this.text before this.is in
      let all = subst (λ ss. AreSlotTexts ss (r || q) (b ++ this.text)) (sym (slots_more i name file within is also)) whole in
      subst (λ x. Front (i + 1) x d) (sym flag) (subst (Front (i + 1) (r || q)) (sym this.whole) all)

  pub texts_all : (i : ℕ) (r : Bool) (b : List ℕ) → length names ≤ i → Front i r b → AreSlotTexts (slots_over libs names (sources_of files)) r b
  texts_all i r b past written =
      subst (λ f. AreSlotTexts (slots_over libs names (sources_of f)) r b) (take_all i files (omega arith))
      (subst (λ n. AreSlotTexts (slots_over libs n (sources_of (take i files))) r b) (take_all i names past) written)

pub no_texts : (bytes : List ℕ) → bytes ≡ [] → AreSlotTexts [] false bytes
no_texts bytes is = subst (AreSlotTexts [] false) (sym is) none
