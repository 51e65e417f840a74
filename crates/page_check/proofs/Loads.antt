-- A host may load the page of a manifest that is fit.
use Rattle.std.proofs.Common.{◌≡◌, ℕ, ◌+◌, ◌<◌, ◌≤◌, Bool, true, false, nat_le, ◌&&◌, List, [], ◌∷◌, length, map, All, Option, sum_by, refl, sym, ap, subst, ◌∙◌, arith}
use Rattle.std.specs.List.{IsDistinct, flat_map, range_with_len, zip}
use Rattle.std.specs.Str.{bytes_eq}
use Rattle.std.proofs.lemmas.Bool.Decides.{nat_tests}
use Rattle.std.proofs.lemmas.List.{length-map}
use Rattle.std.proofs.lemmas.List.Sums.{sum_by-cons}
use Rattle.manifest_shape.specs.Distinct.{distinct}
use Rattle.manifest_shape.specs.Slots.{are_slots, most_slots}
use Rattle.manifest_shape.specs.Slots as shapes
use Rattle.manifest_reader.specs.declared.entry.Manifest.{Manifest}
use Rattle.manifest_reader.specs.Page.{Part, Markup, Widget, part_of, nodes_of}
use Rattle.plain_tree.specs.Trees.{height, size, unmarked}
use Rattle.adsafe_rules.specs.declared.accepted.Accepted.{Accepted}
use Rattle.slot_check.specs.declared.fault.Refusal.{Refusal}
use Rattle.slot_check.specs.Sources.{Source}
use Rattle.page_plan.specs.declared.Piece.{Piece}
use Rattle.page_plan.specs.declared.SlotSpec.{SlotSpec}
use Rattle.page_plan.specs.declared.PageSpec.{PageSpec}
use Rattle.page_plan.specs.Pages.{PagePiece, Trees, Place, piece_of}
use Rattle.page_plan.specs.Loadable.{most_high, most_of_page, IsSwapLoadable, IsLoadableSlot, trees_in, numbers_in, AreLoadablePieces, AreLoadableChannels, AreLoadableSwaps, names_of, IsLoadable}
use Rattle.page_check.specs.declared.page.JudgedPage.{JudgedPage}
use Rattle.page_check.specs.Runs.{SlotRun, slots_named, runs_over, swap_runs, pieces_from, pieces}
use Rattle.page_check.specs.Fits.{markup_of, AreFit, IsFit}
use Rattle.page_check.specs.Judged.{key_of, name_of, AreJudgedSlots, none, more, AreJudgedSwaps, IsJudgedPage}
use Rattle.page_check.proofs.Heights.{height_unmarked, size_unmarked}
use Rattle.page_check.proofs.Libs.{IsCleanLib}
use Rattle.page_check.proofs.Swapped.{SwapsSoFar}
use Rattle.page_check.proofs.Lists.{all_none, all_more, all_head, all_tail, all_of_map, flat_map_of, distinct_is}

-- ## Pieces

-- each slot stands once among the pieces
places_in : (n : ℕ) (parts : List Part) → flat_map numbers_in (pieces_from n parts) ≡ range_with_len n (length (slots_named parts))
places_in n [] = refl
places_in n (Markup trees ∷ parts) = places_in n parts
places_in n (Widget name file fuel ∷ parts) = ap (λ ns. n ∷ ns) (places_in (n + 1) parts)

-- no node of the trees of a piece, or of a part, has too many above it
abbrev Low : PagePiece → Type 0
Low piece = height (trees_in piece) ≤ most_high

abbrev LowPart : Part → Type 0
LowPart part = height (markup_of part) ≤ most_high

pieces_low : (n : ℕ) (parts : List Part) → All (λ part. height (markup_of part) ≤ most_high) parts → All (λ piece. height (trees_in piece) ≤ most_high) (pieces_from n parts)
pieces_low n [] low = all_none Low
pieces_low n (Markup trees ∷ parts) low =
    let here : height trees ≤ most_high = all_head LowPart (Markup trees) parts low in
    all_more Low (Trees (unmarked trees)) (pieces_from n parts) (omega (arith, here, height_unmarked trees)) (pieces_low n parts (all_tail LowPart (Markup trees) parts low))
pieces_low n (Widget name file fuel ∷ parts) low = all_more Low (Place n) (pieces_from (n + 1) parts) (omega arith) (pieces_low (n + 1) parts (all_tail LowPart (Widget name file fuel) parts low))

abbrev size_in : PagePiece → ℕ
size_in piece = size (trees_in piece)

pieces_nodes : (n : ℕ) (parts : List Part) → sum_by size_in (pieces_from n parts) ≡ sum_by nodes_of parts
pieces_nodes n [] = refl
pieces_nodes n (Markup trees ∷ parts) =
    omega (arith, sum_by-cons size_in (Trees (unmarked trees)) (pieces_from n parts), sum_by-cons nodes_of (Markup trees) parts, size_unmarked trees, pieces_nodes n parts)
pieces_nodes n (Widget name file fuel ∷ parts) =
    omega (arith, sum_by-cons size_in (Place n) (pieces_from (n + 1) parts), sum_by-cons nodes_of (Widget name file fuel) parts, pieces_nodes (n + 1) parts)

sum_of_map : {X Y : Type 0} (g : Y → ℕ) (f : X → Y) (xs : List X) → sum_by (λ x. g (f x)) xs ≡ sum_by g (map f xs)
sum_of_map g f [] = refl
sum_of_map g f (x ∷ xs) = omega (arith, sum_by-cons (λ y. g (f y)) x xs, sum_by-cons g (f x) (map f xs), sum_of_map g f xs)

pieces_fit : (parts : List Part) (slots : ℕ) (items : List Piece) → map piece_of items ≡ pieces parts → slots ≡ length (slots_named parts) → All (λ part. height (markup_of part) ≤ most_high) parts → sum_by nodes_of parts ≤ most_of_page → AreLoadablePieces slots items
pieces_fit parts slots items are many low most =
    let nodes : sum_by (λ piece. size (trees_in (piece_of piece))) items ≡ sum_by nodes_of parts = sum_of_map size_in piece_of items ∙ ap (sum_by size_in) are ∙ pieces_nodes 0 parts in
    record {
      placed = flat_map_of numbers_in piece_of items ∙ ap (flat_map numbers_in) are ∙ places_in 0 parts ∙ ap (range_with_len 0) (sym many);
      low = all_of_map Low piece_of items (subst (All Low) (sym are) (pieces_low 0 parts low));
      few = omega (arith, most, nodes);
    }

-- ## Slots

abbrev first_of : List ℕ × ℕ → List ℕ
first_of n = n.0

abbrev run_name : SlotRun → List ℕ
run_name run = run.slot.name

-- fuel within its bounds
abbrev Bounded : ℕ → Type 0
Bounded n = (1 ≤ n) × (n ≤ shapes.most_fuel)

runs_named : (libs : List Source) (names : List (List ℕ × ℕ)) (files : List Source) → length names ≡ length files → map run_name (runs_over libs names files) ≡ map first_of names
runs_named libs [] [] same = refl
runs_named libs [] (f ∷ fs) same = absurd (omega (arith, same))
runs_named libs (n ∷ ns) [] same = absurd (omega (arith, same))
runs_named libs (n ∷ ns) (f ∷ fs) same = ap (λ rest. n.0 ∷ rest) (runs_named libs ns fs (omega (arith, same)))

runs_bounded : (libs : List Source) (names : List (List ℕ × ℕ)) (files : List Source) → length names ≡ length files → All (λ (n : List ℕ × ℕ). Bounded n.1) names → All (λ (r : SlotRun). Bounded r.fuel) (runs_over libs names files)
runs_bounded libs [] [] same all = all_none (λ (r : SlotRun). Bounded r.fuel)
runs_bounded libs [] (f ∷ fs) same all = absurd (omega (arith, same))
runs_bounded libs (n ∷ ns) [] same all = absurd (omega (arith, same))
runs_bounded libs (n ∷ ns) (f ∷ fs) same all =
    all_more (λ (r : SlotRun). Bounded r.fuel) (record { slot = record { name = n.0; file = f; libs = libs }; fuel = n.1 }) (runs_over libs ns fs) (all_head (λ (m : List ℕ × ℕ). Bounded m.1) n ns all) (runs_bounded libs ns fs (omega (arith, same)) (all_tail (λ (m : List ℕ × ℕ). Bounded m.1) n ns all))

slots_named_as : (scripts : List Accepted) (runs : List SlotRun) (slots : List SlotSpec) (refusals : List (Option Refusal)) → AreJudgedSlots scripts runs slots refusals → map (λ (s : SlotSpec). s.name) slots ≡ map run_name runs
slots_named_as scripts runs slots refusals none = refl
slots_named_as scripts runs slots refusals (more {run = r} {slot = s} {runs = rs} {slots = ss} {refusals = fs} is rest) =
    ap (λ n. n ∷ map (λ (t : SlotSpec). t.name) ss) is.name ∙ ap (λ ns. run_name r ∷ ns) (slots_named_as scripts rs ss fs rest)

slots_fit : (many : ℕ) (scripts : List Accepted) (runs : List SlotRun) (slots : List SlotSpec) (refusals : List (Option Refusal)) → AreJudgedSlots scripts runs slots refusals → All (λ (r : SlotRun). Bounded r.fuel) runs → All (λ (s : SlotSpec). IsSwapLoadable many s.name s.content) slots → All (IsLoadableSlot many) slots
slots_fit many scripts runs slots refusals none bounded fits = all_none (IsLoadableSlot many)
slots_fit many scripts runs slots refusals (more {run = r} {slot = s} {runs = rs} {slots = ss} {refusals = fs} is rest) bounded fits =
    let fuel : Bounded s.fuel = subst Bounded (sym is.fuel) (all_head (λ (x : SlotRun). Bounded x.fuel) r rs bounded) in
    all_more (IsLoadableSlot many) s ss (record { some = fuel.0; fuel = fuel.1; content = all_head (λ (t : SlotSpec). IsSwapLoadable many t.name t.content) s ss fits }) (slots_fit many scripts rs ss fs rest (all_tail (λ (x : SlotRun). Bounded x.fuel) r rs bounded) (all_tail (λ (t : SlotSpec). IsSwapLoadable many t.name t.content) s ss fits))

-- ## The page

few_and_distinct : (names : List (List ℕ)) → are_slots names ≡ true → (length names ≤ most_slots) × IsDistinct bytes_eq names
few_and_distinct names are = by (nat_le (length names) most_slots) refl are
  where
    by : (b : Bool) → nat_le (length names) most_slots ≡ b → (b && distinct bytes_eq names) ≡ true → (length names ≤ most_slots) × IsDistinct bytes_eq names
    by true is both = (grind (arith, nat_tests), distinct_is bytes_eq names both)
    by false is both = absurd (no both)
      where
        no : false ≡ true → ⊥
        no e = cc

-- the names of the slots of a page are those of its manifest
pub names_are : (scripts : List Accepted) (libs : List Source) (named : List (List ℕ × ℕ)) (files : List Source) (spec : PageSpec) (refusals : List (Option Refusal)) → length named ≡ length files → AreJudgedSlots scripts (runs_over libs named files) spec.slots.items refusals → names_of spec ≡ map first_of named
names_are scripts libs named files spec refusals same judged = slots_named_as scripts (runs_over libs named files) spec.slots.items refusals judged ∙ runs_named libs named files same

pub keys_are : (names : List SlotSpec) → map key_of names ≡ map first_of (map name_of names)
keys_are [] = refl
keys_are (n ∷ ns) = ap (λ ks. key_of n ∷ ks) (keys_are ns)

module _ (parts : List Part) (libs files : List Source) (scripts : List Accepted) (spec : PageSpec) (refusals : List (Option Refusal)) (fit : AreFit parts spec.channels.items) (paired : length (slots_named parts) ≡ length files) (clean : All IsCleanLib scripts) (same : spec.libs.items ≡ scripts) (judged : AreJudgedSlots scripts (runs_over libs (slots_named parts) files) spec.slots.items refusals) (fits : All (λ (s : SlotSpec). IsSwapLoadable (length scripts) s.name s.content) spec.slots.items) (pieced : map piece_of spec.pieces.items ≡ pieces parts) where
  pub page_loadable : IsLoadable spec
  page_loadable =
      let names : names_of spec ≡ map first_of (slots_named parts) = names_are scripts libs (slots_named parts) files spec refusals paired judged in
      let many : length spec.slots.items ≡ length (slots_named parts) = sym (length-map spec.slots.items (λ (s : SlotSpec). s.name)) ∙ ap length names ∙ length-map (slots_named parts) first_of in
      let good = few_and_distinct (map first_of (slots_named parts)) fit.slots in
      record {
        few = omega (arith, many, good.0, length-map (slots_named parts) first_of);
        distinct = subst (IsDistinct bytes_eq) (sym names) good.1;
        slots = subst (λ (xs : List Accepted). All (IsLoadableSlot (length xs)) spec.slots.items) (sym same) (slots_fit (length scripts) scripts (runs_over libs (slots_named parts) files) spec.slots.items refusals judged (runs_bounded libs (slots_named parts) files paired fit.fuel) fits);
        libs = subst (All IsCleanLib) (sym same) clean;
        pieces = pieces_fit parts (length spec.slots.items) spec.pieces.items pieced many fit.low fit.few;
        channels = subst (λ n. AreLoadableChannels n spec.channels.items) (sym many) fit.channels;
      }

-- ## All that is judged

module _ (manifest : Manifest) (libs files : List Source) (scripts : List Accepted) (page : JudgedPage) (names : List SlotSpec) (named : map name_of names ≡ slots_named (map part_of manifest.entries.items)) (fit : IsFit manifest) (paired : length (slots_named (map part_of manifest.entries.items)) ≡ length files) (clean : All IsCleanLib scripts) (same : page.spec.libs.items ≡ scripts) (channels : page.spec.channels.items ≡ manifest.channels.items) (judged : AreJudgedSlots scripts (runs_over libs (map name_of names) files) page.spec.slots.items page.refusals.items) (fits : All (λ (s : SlotSpec). IsSwapLoadable (length scripts) s.name s.content) page.spec.slots.items) (pieced : map piece_of page.spec.pieces.items ≡ pieces (map part_of manifest.entries.items)) where
  slots_judged : AreJudgedSlots scripts (runs_over libs (slots_named (map part_of manifest.entries.items)) files) page.spec.slots.items page.refusals.items
  slots_judged = subst (λ ns. AreJudgedSlots scripts (runs_over libs ns files) page.spec.slots.items page.refusals.items) named judged

  pub whole_loadable : IsLoadable page.spec
  whole_loadable = page_loadable (map part_of manifest.entries.items) libs files scripts page.spec page.refusals.items (subst (AreFit (map part_of manifest.entries.items)) (sym channels) fit) paired clean same slots_judged fits pieced

  pub whole_page : (tos : List ℕ) (swaps : List Source) → SwapsSoFar scripts libs names tos swaps page.swaps.contents.items page.swaps.refusals.items → IsJudgedPage manifest files libs (zip tos swaps) page
  whole_page tos swaps swapped =
      let many : length files ≡ length names = sym paired ∙ sym (ap length named) ∙ length-map names name_of in
      let brought = subst (λ ns. AreJudgedSwaps scripts (swap_runs (runs_over libs ns files) (zip tos swaps)) page.swaps.contents.items page.swaps.refusals.items) named (swapped files many) in
      record {
        pieces = pieced;
        slots = subst (λ (scripts : List Accepted). AreJudgedSlots scripts (runs_over libs (slots_named (map part_of manifest.entries.items)) files) page.spec.slots.items page.refusals.items) (sym same) slots_judged;
        swaps = subst (λ (scripts : List Accepted). AreJudgedSwaps scripts (swap_runs (runs_over libs (slots_named (map part_of manifest.entries.items)) files) (zip tos swaps)) page.swaps.contents.items page.swaps.refusals.items) (sym same) brought;
        channels = channels;
      }

  pub swaps_loadable : (tos : List ℕ) → AreLoadableSwaps (length scripts) (map key_of names) tos page.swaps.contents.items → AreLoadableSwaps (length page.spec.libs.items) (names_of page.spec) tos page.swaps.contents.items
  swaps_loadable tos fit_in =
      let keys : map key_of names ≡ names_of page.spec = keys_are names ∙ ap (map first_of) named ∙ sym (names_are scripts libs (slots_named (map part_of manifest.entries.items)) files page.spec page.refusals.items paired slots_judged) in
      subst (λ (xs : List Accepted). AreLoadableSwaps (length xs) (names_of page.spec) tos page.swaps.contents.items) (sym same)
      (subst (λ ks. AreLoadableSwaps (length scripts) ks tos page.swaps.contents.items) keys fit_in)

-- numbers below one length are below another
pub there_within : (tos : List ℕ) (a b : ℕ) → a ≡ b → All (λ to. to < a) tos → All (λ to. to < b) tos
there_within tos a b same all = λ k d within. omega (arith, same, all k d within)
