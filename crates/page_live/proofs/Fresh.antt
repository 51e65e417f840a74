-- A page that was judged and loaded.
use Rattle.std.proofs.Common.{◌≡◌, ℕ, zero, suc, ◌≤◌, List, [], ◌∷◌, map, length, take, drop, All, Bool, true, false, Option, Some, refl, sym, ap, subst, ◌∙◌, arith}
use Rattle.std.specs.Prelude.{nat_le, ◌&&◌, slice_get}
use Rattle.std.specs.Str.{bytes_eq}
use Rattle.std.proofs.lemmas.Bool.Decides.{nat_tests}
use Rattle.std.proofs.lemmas.List.{length-map}
use Rattle.manifest_shape.specs.Distinct.{distinct}
use Rattle.manifest_shape.specs.Slots.{are_slots, most_slots}
use Rattle.manifest_reader.specs.declared.entry.Manifest.{Manifest}
use Rattle.adsafe_rules.specs.declared.accepted.Accepted.{Accepted}
use Rattle.slot_check.specs.declared.fault.Refusal.{Refusal}
use Rattle.slot_check.specs.declared.sources.SourceFile.{SourceFile}
use Rattle.slot_check.specs.Sources.{Source}
use Rattle.slot_check.specs.Verdicts.{source_of, sources_of, IsSmall}
use Rattle.page_check.specs.declared.page.JudgedPage.{JudgedPage}
use Rattle.page_check.specs.Fits.{IsFit}
use Rattle.page_check.specs.Runs.{SlotRun, runs_over, slots_named}
use Rattle.page_check.specs.Judged.{AreJudgedSlots, AreJudgedSwaps, IsJudgedPage, JudgesOver, no_swap, runs_in}
use Rattle.slot_lives.specs.Ends.{run_name}
use Rattle.page_live.specs.declared.page.LivePage.{LivePage}
use Rattle.page_live.specs.Living.{IsLive}
use Rattle.page_live.specs.Page.{Lives, names_in, parts_in, runs_of}

-- ## Files

sources_take : (n : ℕ) (xs : List SourceFile) → sources_of (take n xs) ≡ take n (sources_of xs)
sources_take zero xs = refl
sources_take (suc n) [] = refl
sources_take (suc n) (x ∷ xs) = ap (λ ss. source_of x ∷ ss) (sources_take n xs)

sources_drop : (n : ℕ) (xs : List SourceFile) → sources_of (drop n xs) ≡ drop n (sources_of xs)
sources_drop zero xs = refl
sources_drop (suc n) [] = refl
sources_drop (suc n) (x ∷ xs) = sources_drop n xs

-- slots with their files
run_names : (libs : List Source) (ns : List (List ℕ × ℕ)) (files : List Source) → length ns ≡ length files → map run_name (runs_over libs ns files) ≡ map (λ (n : List ℕ × ℕ). n.0) ns
run_names libs [] files same = refl
run_names libs (n ∷ ns) [] same = absurd (omega (arith, same))
run_names libs (n ∷ ns) (f ∷ fs) same = ap (λ rs. n.0 ∷ rs) (run_names libs ns fs (omega (arith, same)))

run_libs : (libs : List Source) (ns : List (List ℕ × ℕ)) (files : List Source) (w : ℕ) (run : SlotRun) → slice_get (runs_over libs ns files) w ≡ Some run → run.slot.libs ≡ libs
run_libs libs [] files w run at = absurd (let e = at in cc)
run_libs libs (n ∷ ns) [] w run at = absurd (let e = at in cc)
run_libs libs (n ∷ ns) (f ∷ fs) zero run at = let same : record { slot = record { name = n.0; file = f; libs = libs }; fuel = n.1 } ≡ run = cc in ap (λ (r : SlotRun). r.slot.libs) (sym same)
run_libs libs (n ∷ ns) (f ∷ fs) (suc w) run at = run_libs libs ns fs w run at

and_first : (a b : Bool) → (a && b) ≡ true → a ≡ true
and_first true b is = refl
and_first false b is = is

few_slots : (names : List (List ℕ)) → are_slots names ≡ true → length names ≤ most_slots
few_slots names are = let e : nat_le (length names) most_slots ≡ true = and_first (nat_le (length names) most_slots) (distinct bytes_eq names) are in grind (arith, nat_tests)

-- before all swaps
abbrev AreBrought : List Accepted → List (Option Refusal) → Type 0
AreBrought libs refusals = AreJudgedSwaps libs [] [] refusals

-- ## A page

module _ (manifest : Manifest) (sources files libs : List SourceFile) (names : List (List ℕ)) (named : names ≡ names_in manifest) (front : files ≡ take (length names) sources) (back : libs ≡ drop (length names) sources) (even : length names ≡ length files) where
  count : length names ≡ length (slots_named (parts_in manifest))
  count = ap length named ∙ length-map (slots_named (parts_in manifest)) (λ (n : List ℕ × ℕ). n.0)

  pub paired : length (slots_named (parts_in manifest)) ≡ length files
  paired = sym count ∙ even

  runs_are : runs_in manifest (sources_of files) (sources_of libs) ≡ runs_of manifest (sources_of sources)
  runs_are =
      let fs : sources_of files ≡ take (length (slots_named (parts_in manifest))) (sources_of sources) = ap sources_of front ∙ sources_take (length names) sources ∙ ap (λ n. take n (sources_of sources)) count in
      let ls : sources_of libs ≡ drop (length (slots_named (parts_in manifest))) (sources_of sources) = ap sources_of back ∙ sources_drop (length names) sources ∙ ap (λ n. drop n (sources_of sources)) count in
      ap (λ l. runs_over l (slots_named (parts_in manifest)) (sources_of files)) ls ∙ ap (runs_over (drop (length (slots_named (parts_in manifest))) (sources_of sources)) (slots_named (parts_in manifest))) fs

  names_are : map run_name (runs_of manifest (sources_of sources)) ≡ names
  names_are = ap (map run_name) (sym runs_are) ∙ run_names (sources_of libs) (slots_named (parts_in manifest)) (sources_of files) (paired ∙ sym (length-map files source_of)) ∙ sym named

  libs_are : sources_of (drop (length names) sources) ≡ drop (length (slots_named (parts_in manifest))) (sources_of sources)
  libs_are = sources_drop (length names) sources ∙ ap (λ n. drop n (sources_of sources)) count

  -- it was judged and loaded, and has taken nothing yet
  pub fresh : (p : LivePage) (page : JudgedPage) (swapped : List (ℕ × Source)) → IsFit manifest → IsJudgedPage manifest (sources_of files) (sources_of libs) swapped page → JudgesOver (sources_of libs) page.spec.libs.items p.later
      → IsLive page.spec [] [] p.host → p.findings.names.items ≡ names → p.findings.refusals.items ≡ page.refusals.items → p.findings.swaps.slots.items ≡ [] → p.findings.swaps.positions.items ≡ [] → p.findings.brought.items ≡ []
      → p.sources.items ≡ sources → 1 ≤ p.slice → p.taken ≡ 0 → length names ≤ length sources → All IsSmall sources → Lives (parts_in manifest) manifest.channels.items (runs_of manifest (sources_of sources)) [] [] p
  fresh p page swapped fit judged over live p_names p_refusals p_slots p_positions p_brought p_sources some none many small =
      let runs = runs_of manifest (sources_of sources) in
      let as_many : length runs ≡ length names = sym (length-map runs run_name) ∙ ap length names_are in
      let few = few_slots (names_in manifest) fit.slots in
      let libs_at : sources_of (drop (length p.findings.names.items) p.sources.items) ≡ sources_of (drop (length names) sources) =
      ap (λ (n : ℕ). sources_of (drop n p.sources.items)) (ap length p_names) ∙ ap (λ (xs : List SourceFile). sources_of (drop (length names) xs)) p_sources in
      record {
        spec = page.spec;
        swaps = [];
        laid = judged.pieces;
        channels = judged.channels;
        live = live;
        found = record {
          names = p_names ∙ sym names_are;
          slots = subst (λ rs. AreJudgedSlots page.spec.libs.items rs page.spec.slots.items p.findings.refusals.items) runs_are
              (subst (AreJudgedSlots page.spec.libs.items (runs_in manifest (sources_of files) (sources_of libs)) page.spec.slots.items) (sym p_refusals) judged.slots);
          swapped = p_slots;
          positions = p_positions;
          many = refl;
          few = omega (arith, as_many, ap length named, few);
          few_swaps = omega arith;
          there = λ i d within. absurd (omega (arith, within));
          brought = subst (λ rs. AreBrought page.spec.libs.items rs) (sym p_brought) no_swap;
        };
        taken = none;
        some = some;
        over = subst (λ ls. JudgesOver ls page.spec.libs.items p.later) (ap sources_of back ∙ sym libs_at) over;
        libs = λ w run at. run_libs (drop (length (slots_named (parts_in manifest))) (sources_of sources)) (slots_named (parts_in manifest)) (take (length (slots_named (parts_in manifest))) (sources_of sources)) w run at ∙ sym libs_are ∙ sym libs_at;
        enough = subst (λ (n : ℕ). n ≤ length p.sources.items) (sym (ap length p_names)) (subst (λ (n : ℕ). length names ≤ n) (sym (ap length p_sources)) many);
        small = subst (All IsSmall) (sym p_sources) small;
      }
