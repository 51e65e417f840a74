-- The slots of a page, one by one.
use Rattle.std.proofs.Common.{◌≡◌, ℕ, ◌<◌, ◌≤◌, ◌+◌, ◌^◌, List, [], ◌∷◌, ◌++◌, length, length-append, take, map, get_or, All, Option, Some, None, zero, suc, refl, sym, ap, subst, ◌∙◌, arith}
use Rattle.std.specs.Prelude.{slice_get}
use Rattle.std.proofs.lemmas.List.{length-map, map-append, take_more, take_all, flat_map_more}
use Rattle.std.proofs.lemmas.List.Elements.{All-push}
use Rattle.js_tree.specs.Trees.{program_of}
use Rattle.plain_tree.specs.Plains.{placed}
use Rattle.tree_ops.specs.Trees.{numbered}
use Rattle.adsafe_rules.specs.declared.accepted.Accepted.{Accepted}
use Rattle.adsafe_rules.specs.Accepts.{tree_of}
use Rattle.manifest_reader.specs.declared.entry.Entry.{Entry}
use Rattle.manifest_reader.specs.Page.{part_of}
use Rattle.slot_check.specs.declared.fault.Refusal.{Refusal}
use Rattle.slot_check.specs.declared.fault.SlotFault.{SlotFault}
use Rattle.slot_check.specs.declared.fault.SlotFault.TheVariants as fault
use Rattle.slot_check.specs.declared.sources.SourceFile.{SourceFile}
use Rattle.slot_check.specs.declared.verdict.Widget.{Widget}
use Rattle.slot_check.specs.Sources.{Source, Slot, keys_of}
use Rattle.slot_check.specs.Slot.{named_libs}
use Rattle.slot_check.specs.Verdicts.{source_of, sources_of, slot_of, IsAcceptedWidget, IsRefused, Refuses}
use Rattle.slot_check.proofs.Judging.{there_at}
use Rattle.page_plan.specs.declared.SlotContent.{SlotContent}
use Rattle.page_plan.specs.declared.SlotContent.TheVariants as slot
use Rattle.page_plan.specs.declared.SlotSpec.{SlotSpec}
use Rattle.page_plan.specs.Contents.{program_at, content_of}
use Rattle.page_plan.specs.Loadable.{IsLoadableWidget, IsSwapLoadable}
use Rattle.page_check.specs.declared.contents.JudgedContent.{JudgedContent}
use Rattle.page_check.specs.Runs.{SlotRun, named, slots_named, runs_over}
use Rattle.page_check.specs.Widgets.{widget, HasWidget}
use Rattle.page_check.specs.Judged.{KeepsLibraries, name_of, content_in, IsJudged, accepted, refused, IsJudgedSlot, AreJudgedSlots, none, more}
use Rattle.page_check.proofs.Heights.{widget_low, widget_few}
use Rattle.page_check.proofs.Libs.{as_many, programs_kept, places_kept, clean_within}

-- ## Names

pub named_more : (es : List Entry) (i : ℕ) (e : Entry) (old new : List (List ℕ × ℕ)) → i < length es → e ≡ get_or es i e → old ≡ slots_named (map part_of (take i es)) → new ≡ old ++ named (part_of e) → new ≡ slots_named (map part_of (take (i + 1) es))
named_more es i e old new within is before after =
    let whole : take (i + 1) es ≡ take i es ++ e ∷ [] = take_more es i e within ∙ ap (λ x. take i es ++ x ∷ []) (sym is) in
    after ∙ ap (λ ns. ns ++ named (part_of e)) before ∙ flat_map_more named [] (map part_of (take i es)) (part_of e)
    ∙ sym (ap (λ xs. slots_named (map part_of xs)) whole ∙ ap slots_named (map-append part_of (take i es) (e ∷ [])))

front_named : (n : ℕ) (es : List Entry) → length (slots_named (map part_of (take n es))) ≤ length (slots_named (map part_of es))
front_named zero es = omega arith
front_named (suc n) [] = omega arith
front_named (suc n) (e ∷ es) =
    omega (arith, front_named n es, length-append (named (part_of e)) (slots_named (map part_of (take n es))), length-append (named (part_of e)) (slots_named (map part_of es)))

named_within : (es : List Entry) (i : ℕ) (e : Entry) (old : List (List ℕ × ℕ)) (name : List ℕ × ℕ) → i < length es → e ≡ get_or es i e → old ≡ slots_named (map part_of (take i es)) → named (part_of e) ≡ name ∷ [] → length old < length (slots_named (map part_of es))
named_within es i e old name within is before one =
    let more = named_more es i e old (old ++ named (part_of e)) within is before refl in
    omega (arith, front_named (i + 1) es, ap length more, length-append old (named (part_of e)), ap length one)

-- there is a file for each slot that comes
pub slot_within : (es : List Entry) (i : ℕ) (e : Entry) (slots : List SlotSpec) (files : List SourceFile) (name : List ℕ × ℕ) → i < length es → e ≡ get_or es i e → map name_of slots ≡ slots_named (map part_of (take i es)) → named (part_of e) ≡ name ∷ [] → length (slots_named (map part_of es)) ≡ length files → length slots < length files
slot_within es i e slots files name within is before one paired =
    let w = named_within es i e (map name_of slots) name within is before one in
    omega (arith, w, length-map slots name_of, paired)

pub named_all : (es : List Entry) (i : ℕ) (names : List (List ℕ × ℕ)) → length es ≤ i → names ≡ slots_named (map part_of (take i es)) → names ≡ slots_named (map part_of es)
named_all es i names past gathered = gathered ∙ ap (λ xs. slots_named (map part_of xs)) (take_all i es past)

-- ## One slot

-- what a host runs of a widget
pub runs_content : (scripts : List Accepted) (held : List ℕ) (w : Widget) (libs at places : List ℕ) → libs ≡ map (λ lib. get_or places lib 0) at → at ≡ w.libs.items → places ≡ held → Some (record { root = numbered 0 (placed w.form.body); libraries = map (program_at scripts) libs; script = program_of (tree_of w.script) }) ≡ Some (content_in scripts held w)
runs_content scripts held w libs at places is same also =
    let all : libs ≡ map (λ lib. get_or held lib 0) w.libs.items = is ∙ ap (λ ps. map (λ lib. get_or ps lib 0) at) also ∙ ap (map (λ lib. get_or held lib 0)) same in
    ap (λ ls. Some (record { root = numbered 0 (placed w.form.body); libraries = map (program_at scripts) ls; script = program_of (tree_of w.script) })) all

module _ (scripts : List Accepted) (held : List ℕ) (slot : Slot) (w : Widget) (keeps : KeepsLibraries slot.libs scripts held) (is : IsAcceptedWidget slot w) where
  pub libs_within : All (λ lib. lib < length held) w.libs.items
  libs_within = clean_within slot.libs (named_libs is.file) w.libs.items is.programs (length held) (as_many scripts slot.libs held keeps.each) is.is.libs

  widget_in : HasWidget slot (content_in scripts held w)
  widget_in =
      let script = program_of (tree_of w.script) in
      let programs = programs_kept scripts slot.libs held (named_libs is.file) w.libs.items is.programs keeps.each is.is.libs in
      record {
        file = is.file;
        places = w.libs.items;
        programs = is.programs;
        script = script;
        is = is.is;
        same =
            ap (λ root. record { root = numbered 0 root; libraries = (content_in scripts held w).libraries; script = script }) is.form.body
            ∙ ap (λ libs. record { root = (widget is.file is.programs script).root; libraries = libs; script = script }) programs;
      }

  -- and a host may load it
  pub widget_loadable : (libs at places : List ℕ) → libs ≡ map (λ lib. get_or places lib 0) at → at ≡ w.libs.items → places ≡ held → length at < 2 ^ 31 → IsLoadableWidget (length scripts) slot.name w.form.body libs w.script
  widget_loadable libs at places are same also small =
      let all : libs ≡ map (λ lib. get_or held lib 0) w.libs.items = are ∙ ap (λ ps. map (λ lib. get_or ps lib 0) at) also ∙ ap (map (λ lib. get_or held lib 0)) same in
      record {
        low = widget_low slot.name (keys_of slot.libs) slot.file.bytes is.file w.form.body is.form.body is.is.has.spelled;
        few = widget_few slot.name (keys_of slot.libs) slot.file.bytes is.file w.form.body is.form.body is.is.has.good;
        there = subst (All (λ p. p < length scripts)) (sym all) (places_kept scripts slot.libs held (named_libs is.file) w.libs.items is.programs keeps.each is.is.libs);
        numbered = omega (arith, small, ap length are, length-map at (λ lib. get_or places lib 0));
        clean = is.is.last.clean;
      }

  pub accepted_slot : (content : SlotContent) → content_of scripts content ≡ Some (content_in scripts held w) → IsJudged slot (content_of scripts content) None
  accepted_slot content same = subst (λ c. IsJudged slot c None) (sym same) (accepted widget_in)

pub refused_slot : (slot : Slot) (f : SlotFault) (refusal : Refusal) → Refuses (IsRefused slot) f → f ≡ fault.Broken refusal → IsJudged slot None (Some refusal)
refused_slot slot f refusal refuses same = refused (subst (Refuses (IsRefused slot)) same refuses)

-- ## Contents

module _ (judged : JudgedContent) (refusal : Refusal) (is : judged ≡ record { content = slot.Refused; refusal = Some refusal }) where
  pub judged_refused : (libs : List Accepted) (s : Slot) (f : SlotFault) → Refuses (IsRefused s) f → f ≡ fault.Broken refusal → IsJudged s (content_of libs judged.content) judged.refusal
  judged_refused libs s f refuses same = subst (λ (j : JudgedContent). IsJudged s (content_of libs j.content) j.refusal) (sym is) (refused_slot s f refusal refuses same)

  pub refused_fits : (many : ℕ) (name : List ℕ) → IsSwapLoadable many name judged.content
  refused_fits many name = subst (λ (j : JudgedContent). IsSwapLoadable many name j.content) (sym is) tt

-- ## All slots

push_slot : (libs : List Accepted) (runs : List SlotRun) (slots : List SlotSpec) (refusals : List (Option Refusal)) (run : SlotRun) (slot : SlotSpec) (refusal : Option Refusal) → AreJudgedSlots libs runs slots refusals → IsJudgedSlot libs run slot refusal → AreJudgedSlots libs (runs ++ run ∷ []) (slots ++ slot ∷ []) (refusals ++ refusal ∷ [])
push_slot libs runs slots refusals run slot refusal none is = more is none
push_slot libs runs slots refusals run slot refusal (more {runs = rs} {slots = ss} {refusals = fs} has rest) is = more has (push_slot libs rs ss fs run slot refusal rest is)

none_some : (file : Source) → None ≡ Some file → ⊥
none_some file e = cc

some_is : (a b : Source) → Some a ≡ Some b → a ≡ b
some_is a b e = cc

runs_none : (libs : List Source) (files : List Source) → runs_over libs [] files ≡ []
runs_none libs [] = refl
runs_none libs (f ∷ fs) = refl

runs_more : (libs : List Source) (slots : List SlotSpec) (slot : SlotSpec) (files : List Source) (file : Source) → slice_get files (length slots) ≡ Some file → runs_over libs (map name_of (slots ++ slot ∷ [])) files ≡ runs_over libs (map name_of slots) files ++ record { slot = record { name = slot.name; file = file; libs = libs }; fuel = slot.fuel } ∷ []
runs_more libs [] slot [] file there = absurd (none_some file there)
runs_more libs [] slot (f ∷ fs) file there = λ j. record { slot = record { name = slot.name; file = some_is f file there j; libs = libs }; fuel = slot.fuel } ∷ runs_none libs fs j
runs_more libs (s ∷ slots) slot [] file there = absurd (none_some file there)
runs_more libs (s ∷ slots) slot (f ∷ fs) file there = ap (λ rs. record { slot = record { name = s.name; file = f; libs = libs }; fuel = s.fuel } ∷ rs) (runs_more libs slots slot fs file there)

pub slots_more : (scripts : List Accepted) (libs : List SourceFile) (files : List SourceFile) (slots grown : List SlotSpec) (refusals longer : List (Option Refusal)) (slot : SlotSpec) (file : SourceFile) (refusal : Option Refusal) (i : ℕ) → i ≡ length slots → i < length files → file ≡ get_or files i file → AreJudgedSlots scripts (runs_over (sources_of libs) (map name_of slots) (sources_of files)) slots refusals → IsJudged (slot_of slot.name file libs) (content_of scripts slot.content) refusal → grown ≡ slots ++ slot ∷ [] → longer ≡ refusals ++ refusal ∷ [] → AreJudgedSlots scripts (runs_over (sources_of libs) (map name_of grown) (sources_of files)) grown longer
slots_more scripts libs files slots grown refusals longer slot file refusal i count within is before this after behind =
    let there : slice_get (sources_of files) (length slots) ≡ Some (source_of file) = ap (slice_get (sources_of files)) (sym count) ∙ there_at files i file within is in
    let run : SlotRun = record { slot = slot_of slot.name file libs; fuel = slot.fuel } in
    let whole = push_slot scripts (runs_over (sources_of libs) (map name_of slots) (sources_of files)) slots refusals run slot refusal before (record { name = refl; fuel = refl; judged = this }) in
    subst (λ g. AreJudgedSlots scripts (runs_over (sources_of libs) (map name_of g) (sources_of files)) g longer) (sym after)
    (subst (AreJudgedSlots scripts (runs_over (sources_of libs) (map name_of (slots ++ slot ∷ [])) (sources_of files)) (slots ++ slot ∷ [])) (sym behind)
    (subst (λ rs. AreJudgedSlots scripts rs (slots ++ slot ∷ []) (refusals ++ refusal ∷ [])) (sym (runs_more (sources_of libs) slots slot (sources_of files) (source_of file) there)) whole))

pub slots_same : (scripts : List Accepted) (libs files : List Source) (slots grown : List SlotSpec) (refusals longer : List (Option Refusal)) → AreJudgedSlots scripts (runs_over libs (map name_of slots) files) slots refusals → grown ≡ slots → longer ≡ refusals → AreJudgedSlots scripts (runs_over libs (map name_of grown) files) grown longer
slots_same scripts libs files slots grown refusals longer before after behind =
    subst (λ (g : List SlotSpec). AreJudgedSlots scripts (runs_over libs (map name_of g) files) g longer) (sym after)
    (subst (AreJudgedSlots scripts (runs_over libs (map name_of slots) files) slots) (sym behind) before)

pub no_slots : (scripts : List Accepted) (libs files : List Source) (slots : List SlotSpec) (refusals : List (Option Refusal)) → slots ≡ [] → refusals ≡ [] → AreJudgedSlots scripts (runs_over libs (map name_of slots) files) slots refusals
no_slots scripts libs files slots refusals is also = subst (λ (s : List SlotSpec). AreJudgedSlots scripts (runs_over libs (map name_of s) files) s refusals) (sym is)
    (subst (λ rs. AreJudgedSlots scripts rs [] refusals) (sym (runs_none libs files)) (subst (AreJudgedSlots scripts [] []) (sym also) none))

-- ## What a host may load

-- of one slot more
pub loadable_more : (many : ℕ) (slots grown : List SlotSpec) (slot : SlotSpec) → All (λ (s : SlotSpec). IsSwapLoadable many s.name s.content) slots → IsSwapLoadable many slot.name slot.content → grown ≡ slots ++ slot ∷ [] → All (λ (s : SlotSpec). IsSwapLoadable many s.name s.content) grown
loadable_more many slots grown slot before this after = subst (All (λ (s : SlotSpec). IsSwapLoadable many s.name s.content)) (sym after) (All-push (λ (s : SlotSpec). IsSwapLoadable many s.name s.content) slots slot before this)

pub none_loadable : (many : ℕ) (slots : List SlotSpec) → slots ≡ [] → All (λ (s : SlotSpec). IsSwapLoadable many s.name s.content) slots
none_loadable many slots is = subst (All (λ (s : SlotSpec). IsSwapLoadable many s.name s.content)) (sym is) (λ k d within. absurd (omega (arith, within)))
