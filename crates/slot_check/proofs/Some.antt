-- A slot has a verdict.
use Rattle.std.proofs.Common.{◌≡◌, ℕ, suc, ◌+◌, List, [], ◌∷◌, refl, arith, inl, inr, Bool, true, All, Option, Some, None}
use Rattle.std.specs.Prelude.{option_map, position}
use Rattle.std.specs.List.{list_any, last_or}
use Rattle.std.specs.Str.{bytes_eq}
use Rattle.first_breach.proofs.Least.{no_first}
use Rattle.js_tree.specs.Plain.{Stmts}
use Rattle.plain_tree.specs.Trees.{Trees}
use Rattle.plain_tree.specs.Plains.{Places}
use Rattle.markup_grammar.specs.Judge.{Judged, Read, Bad, judged}
use Rattle.markup_grammar.specs.Markup.{MarkupSpells}
use Rattle.markup_grammar.proofs.Places.{Of, text_judged}
use Rattle.markup_grammar.proofs.Broken.{broken_judged}
use Rattle.adsafe_rules.specs.declared.scope.Scope.TheVariants as scope
use Rattle.widget_form.specs.declared.form.Span.{Span}
use Rattle.widget_form.specs.Elements.{Element}
use Rattle.widget_form.specs.Rows.{Breaks, IsGood}
use Rattle.widget_form.specs.Forms.{root_scripts, span_of}
use Rattle.widget_form.proofs.Body.{good_scripts}
use Rattle.script_check.proofs.Some.{utf8_or_not, some_verdict}
use Rattle.trace_text.specs.declared.line.Rule.{Rule}
use Rattle.trace_text.specs.declared.line.Rule.TheVariants as rule
use Rattle.slot_check.specs.Slots.{M01, of_file}
use Rattle.slot_check.specs.Sources.{Source, Slot, keys_of, script_text}
use Rattle.slot_check.specs.Slot.{IsFile, id_span, named_libs, IsIdClean, AreClean, none, more, LibrariesFirst, here, later, SlotFirst, markup, id_script, library, go_script, IsCleanSlot}
use Rattle.slot_check.specs.Line.{IsSlotLine, accepted, refused}
use Rattle.slot_check.proofs.Named.{place_none, found}
use Rattle.slot_check.proofs.Sourced.{listed_names}

-- ## Libraries

-- the libraries of these names break no rule
record HasClean (libs : List Source) (names : List (List ℕ)) : Type 0 where
  places : List ℕ
  programs : List Stmts
  clean : AreClean libs names places programs

libs_step : (libs : List Source) (name : List ℕ) (names : List (List ℕ)) → list_any (bytes_eq name) (keys_of libs) ≡ true → ((n x : ℕ) (a : Source) → LibrariesFirst libs (name ∷ names) n a x → ⊥) → (((n x : ℕ) (a : Source) → LibrariesFirst libs names n a x → ⊥) → HasClean libs names) → (o : Option ℕ) → position (bytes_eq name) (keys_of libs) ≡ o → HasClean libs (name ∷ names)
libs_step libs name names listed unbroken others None e = absurd (place_none name (keys_of libs) listed e)
libs_step libs name names listed unbroken others (Some place) e =
    let f = found libs (keys_of libs) name place refl e in
    let clean = some_verdict f.lib.bytes scope.Lib (λ n x first. unbroken n x f.lib (here f.is first)) in
    let rest = others (λ n x a first. unbroken n x a (later f.is clean first)) in
    record { places = place ∷ rest.places; programs = clean.program ∷ rest.programs; clean = more f.is clean.script rest.clean }

some_libs : (libs : List Source) (names : List (List ℕ)) → All (λ n. list_any (bytes_eq n) (keys_of libs) ≡ true) names → ((n x : ℕ) (a : Source) → LibrariesFirst libs names n a x → ⊥) → HasClean libs names
some_libs libs [] listed unbroken = record { places = []; programs = []; clean = none }
some_libs libs (name ∷ names) listed unbroken = libs_step libs name names (listed 0 [] (omega arith)) unbroken (some_libs libs names (λ k d lt. listed (suc k) d (omega (arith, lt)))) (position (bytes_eq name) (keys_of libs)) refl

-- ## The last script

last_of : (x : Element) (xs : List Element) → (span : Span) × (option_map span_of (last_or (Some x) xs) ≡ Some span)
last_of x [] = (span_of x, refl)
last_of x (y ∷ ys) = last_of y ys

last_some : (xs : List Element) → (xs ≡ [] → ⊥) → (span : Span) × (option_map span_of (last_or None xs) ≡ Some span)
last_some [] some = absurd (some refl)
last_some (x ∷ xs) some = last_of x xs

-- ## Slots

module _ (slot : Slot) (unbroken : (r : Rule) (a : Source) (x : ℕ) → SlotFirst slot r a x → ⊥) where
  id_clean : (file : Trees Places) → IsFile slot file → (o : Option Span) → id_span file ≡ o → IsIdClean slot.name slot.file.bytes o
  id_clean file has None e = tt
  id_clean file has (Some span) e = some_verdict (script_text slot.file.bytes span) (scope.Id slot.name) (λ n x f. unbroken (rule.A n) slot.file (span.from + x) (id_script has e f))

  clean_file : (file : Trees Places) → MarkupSpells slot.file.bytes file → IsCleanSlot slot
  clean_file file spelled =
      let keys = keys_of slot.libs in
      let good : IsGood slot.name keys file = no_first (Breaks slot.name keys file) (λ n x f. unbroken (rule.M n) slot.file x (markup (of_file spelled f))) in
      let has : IsFile slot file = record { spelled = spelled; good = good } in
      let id = id_clean file has (id_span file) refl in
      let libs = some_libs slot.libs (named_libs file) (listed_names slot.name keys file good) (λ n x a f. unbroken (rule.A n) a x (library has id f)) in
      let last = last_some (root_scripts file) (good_scripts slot.name keys file good) in
      let script = some_verdict (script_text slot.file.bytes last.0) (scope.Go slot.name) (λ n x f. unbroken (rule.A n) slot.file (last.0.from + x) (go_script has id libs.clean last.1 f)) in
      record {
        file = file;
        places = libs.places;
        programs = libs.programs;
        script = script.program;
        widget = record { has = has; id = id; libs = libs.clean; span = last.0; there = last.1; last = script.script };
      }

  judged_so : (j : Judged) → Of slot.file.bytes j → IsCleanSlot slot
  judged_so (Read file) spelled = clean_file file spelled
  judged_so (Bad at) bad = absurd (unbroken (rule.M 1) slot.file at (markup (M01 bad)))

  -- a slot without a first broken rule is clean
  pub some_slot : IsCleanSlot slot
  some_slot = elim (utf8_or_not slot.file.bytes) [
    | inl u ↦ judged_so (judged slot.file.bytes) (text_judged slot.file.bytes u (judged slot.file.bytes) refl)
    | inr v ↦ judged_so (judged slot.file.bytes) (broken_judged slot.file.bytes v.0 v.1 (judged slot.file.bytes) refl)
  ]

-- a slot has a line
pub some_slot_line : (slot : Slot) → ((r : Bool) (b : List ℕ) → IsSlotLine slot r b → ⊥) → ⊥
some_slot_line slot unwritten =
    let clean = some_slot slot (λ r a x f. unwritten _ _ (refused f)) in
    unwritten _ _ (accepted clean)
