-- The swaps of a trace, one by one.
use Rattle.std.proofs.Common.{◌≡◌, ℕ, zero, suc, ◌<◌, ◌≤◌, ◌+◌, List, [], ◌∷◌, ◌++◌, length, take, map, get_or, Option, Some, None, option_map, refl, sym, ap, subst, ◌∙◌, arith, length-take}
use Rattle.std.specs.Prelude.{slice_get}
use Rattle.std.specs.List.{zip, cons_option}
use Rattle.std.proofs.lemmas.List.{length-map, take_more, take_all}
use Rattle.std.proofs.lemmas.List.Elements.{filter_map-append}
use Rattle.std.proofs.lemmas.Option.{slice_get-get_or}
use Rattle.adsafe_rules.specs.declared.accepted.Accepted.{Accepted}
use Rattle.slot_check.specs.declared.fault.Refusal.{Refusal}
use Rattle.slot_check.specs.declared.sources.SourceFile.{SourceFile}
use Rattle.slot_check.specs.Sources.{Source}
use Rattle.slot_check.specs.Verdicts.{source_of, sources_of, slot_of}
use Rattle.slot_check.proofs.Judging.{sources_more}
use Rattle.page_plan.specs.declared.SlotContent.{SlotContent}
use Rattle.page_plan.specs.declared.SlotSpec.{SlotSpec}
use Rattle.page_plan.specs.Contents.{content_of}
use Rattle.page_plan.specs.Loadable.{IsSwapLoadable, AreLoadableSwaps}
use Rattle.page_plan.specs.Loadable as loadable
use Rattle.page_check.specs.Runs.{SlotRun, runs_over, with_file, swap_run, swap_runs}
use Rattle.page_check.specs.Judged.{key_of, name_of, IsJudged, AreJudgedSwaps, no_swap, one_swap}

-- ## Lists

zip_push : {X Y : Type 0} (xs : List X) (ys : List Y) (x : X) (y : Y) → length xs ≡ length ys → zip (xs ++ x ∷ []) (ys ++ y ∷ []) ≡ zip xs ys ++ (x, y) ∷ []
zip_push [] [] x y same = refl
zip_push [] (b ∷ ys) x y same = absurd (omega (arith, same))
zip_push (a ∷ xs) [] x y same = absurd (omega (arith, same))
zip_push (a ∷ xs) (b ∷ ys) x y same = ap (λ zs. (a, b) ∷ zs) (zip_push xs ys x y (omega (arith, same)))

get_map : {X Y : Type 0} (f : X → Y) (xs : List X) (i : ℕ) (x : X) → slice_get xs i ≡ Some x → slice_get (map f xs) i ≡ Some (f x)
get_map f [] i x is = absurd (no is)
  where
    no : None ≡ Some x → ⊥
    no e = cc
get_map f (a ∷ xs) zero x is = ap (option_map f) is
get_map f (a ∷ xs) (suc i) x is = get_map f xs i x is

-- ## Runs

-- a run with its file
record HasRun (runs : List SlotRun) (to : ℕ) (name : List ℕ × ℕ) (libs : List Source) : Type 0 where
  own : Source
  there : slice_get runs to ≡ Some (record { slot = record { name = name.0; file = own; libs = libs }; fuel = name.1 })

run_at : (libs : List Source) (names : List (List ℕ × ℕ)) (own : List Source) (to : ℕ) (name : List ℕ × ℕ) → length own ≡ length names → slice_get names to ≡ Some name → HasRun (runs_over libs names own) to name libs
run_at libs [] own to name same is = absurd (no is)
  where
    no : None ≡ Some name → ⊥
    no e = cc
run_at libs (n ∷ names) [] to name same is = absurd (omega (arith, same))
run_at libs (n ∷ names) (f ∷ own) zero name same is =
    record { own = f; there = ap (option_map (λ (m : List ℕ × ℕ). record { slot = record { name = m.0; file = f; libs = libs }; fuel = m.1 })) is }
run_at libs (n ∷ names) (f ∷ own) (suc to) name same is =
    let rest = run_at libs names own to name (omega (arith, same)) is in
    record { own = rest.own; there = rest.there }

-- the run of a swap
swapped : (runs : List SlotRun) (to : ℕ) (name : List ℕ × ℕ) (libs : List Source) (file : Source) → HasRun runs to name libs → swap_runs runs ((to, file) ∷ []) ≡ record { slot = record { name = name.0; file = file; libs = libs }; fuel = name.1 } ∷ []
swapped runs to name libs file has = ap (λ o. cons_option (option_map (λ run. with_file run file) o) []) has.there

-- ## All swaps

push_swap : (libs : List Accepted) (runs : List SlotRun) (contents : List SlotContent) (refusals : List (Option Refusal)) (run : SlotRun) (content : SlotContent) (refusal : Option Refusal) → AreJudgedSwaps libs runs contents refusals → IsJudged run.slot (content_of libs content) refusal → AreJudgedSwaps libs (runs ++ run ∷ []) (contents ++ content ∷ []) (refusals ++ refusal ∷ [])
push_swap libs runs contents refusals run content refusal no_swap is = one_swap is no_swap
push_swap libs runs contents refusals run content refusal (one_swap {runs = rs} {contents = cs} {refusals = fs} has rest) is = one_swap has (push_swap libs rs cs fs run content refusal rest is)

push_loadable : (many : ℕ) (names : List (List ℕ)) (tos : List ℕ) (contents : List SlotContent) (to : ℕ) (name : List ℕ) (content : SlotContent) → AreLoadableSwaps many names tos contents → slice_get names to ≡ Some name → IsSwapLoadable many name content → AreLoadableSwaps many names (tos ++ to ∷ []) (contents ++ content ∷ [])
push_loadable many names tos contents to name content loadable.none there is = loadable.more there is loadable.none
push_loadable many names tos contents to name content (loadable.more {tos = ts} {contents = cs} has fits rest) there is = loadable.more has fits (push_loadable many names ts cs to name content rest there is)

-- what the swaps of these slots, with these files, come to
abbrev pub SwapsSoFar : List Accepted → List Source → List SlotSpec → List ℕ → List Source → List SlotContent → List (Option Refusal) → Type 0
SwapsSoFar scripts libs names tos files contents refusals =
    (own : List Source) → length own ≡ length names → AreJudgedSwaps scripts (swap_runs (runs_over libs (map name_of names) own) (zip tos files)) contents refusals

pub no_swaps : (scripts : List Accepted) (libs : List Source) (names : List SlotSpec) (contents : List SlotContent) (refusals : List (Option Refusal)) → contents ≡ [] → refusals ≡ [] → SwapsSoFar scripts libs names [] [] contents refusals
no_swaps scripts libs names contents refusals is also own same = subst (λ cs. AreJudgedSwaps scripts [] cs refusals) (sym is) (subst (AreJudgedSwaps scripts [] []) (sym also) no_swap)

pub none_fit : (many : ℕ) (names : List SlotSpec) (contents : List SlotContent) → contents ≡ [] → AreLoadableSwaps many (map key_of names) [] contents
none_fit many names contents is = subst (AreLoadableSwaps many (map key_of names) []) (sym is) loadable.none

module _ (libs : List SourceFile) (names : List SlotSpec) (tos : List ℕ) (files : List SourceFile) (i to : ℕ) (name : SlotSpec) (file : SourceFile) (same : length tos ≡ length files) (within : i < length tos) (there : to < length names) (at : to ≡ get_or tos i 0) (is : name ≡ get_or names to name) (also : file ≡ get_or files i file) where
  found : slice_get names to ≡ Some name
  found = slice_get-get_or names to name there ∙ ap Some (sym is)

  tos_more : take (i + 1) tos ≡ take i tos ++ to ∷ []
  tos_more = take_more tos i 0 within ∙ ap (λ n. take i tos ++ n ∷ []) (sym at)

  pairs_more : zip (take (i + 1) tos) (sources_of (take (i + 1) files)) ≡ zip (take i tos) (sources_of (take i files)) ++ (to, source_of file) ∷ []
  pairs_more =
      let here : i < length files = omega (arith, same, within) in
      let even : length (take i tos) ≡ length (sources_of (take i files)) = omega (arith, same, within, length-take i tos, length-map (take i files) source_of, length-take i files) in
      ap (λ ts. zip ts (sources_of (take (i + 1) files))) tos_more ∙ ap (zip (take i tos ++ to ∷ [])) (sources_more files i file here also)
      ∙ zip_push (take i tos) (sources_of (take i files)) to (source_of file) even

  pub swaps_more : (scripts : List Accepted) (contents grown : List SlotContent) (refusals longer : List (Option Refusal)) (content : SlotContent) (refusal : Option Refusal) → SwapsSoFar scripts (sources_of libs) names (take i tos) (sources_of (take i files)) contents refusals → IsJudged (slot_of name.name file libs) (content_of scripts content) refusal → grown ≡ contents ++ content ∷ [] → longer ≡ refusals ++ refusal ∷ [] → SwapsSoFar scripts (sources_of libs) names (take (i + 1) tos) (sources_of (take (i + 1) files)) grown longer
  swaps_more scripts contents grown refusals longer content refusal before this after behind own many =
      let runs = runs_over (sources_of libs) (map name_of names) own in
      let pairs = zip (take i tos) (sources_of (take i files)) in
      let run : SlotRun = record { slot = slot_of name.name file libs; fuel = name.fuel } in
      let count : length own ≡ length (map name_of names) = omega (arith, many, length-map names name_of) in
      let last : swap_runs runs ((to, source_of file) ∷ []) ≡ run ∷ [] = swapped runs to (name_of name) (sources_of libs) (source_of file) (run_at (sources_of libs) (map name_of names) own to (name_of name) count (get_map name_of names to name found)) in
      let all : swap_runs runs (zip (take (i + 1) tos) (sources_of (take (i + 1) files))) ≡ swap_runs runs pairs ++ run ∷ [] =
      ap (swap_runs runs) pairs_more ∙ filter_map-append (swap_run runs) pairs ((to, source_of file) ∷ []) ∙ ap (λ rs. swap_runs runs pairs ++ rs) last in
      let whole = push_swap scripts (swap_runs runs pairs) contents refusals run content refusal (before own many) this in
      subst (λ rs. AreJudgedSwaps scripts rs grown longer) (sym all)
      (subst (λ cs. AreJudgedSwaps scripts (swap_runs runs pairs ++ run ∷ []) cs longer) (sym after)
      (subst (AreJudgedSwaps scripts (swap_runs runs pairs ++ run ∷ []) (contents ++ content ∷ [])) (sym behind) whole))

  pub fit_more : (many : ℕ) (contents grown : List SlotContent) (content : SlotContent) → AreLoadableSwaps many (map key_of names) (take i tos) contents → IsSwapLoadable many name.name content → grown ≡ contents ++ content ∷ [] → AreLoadableSwaps many (map key_of names) (take (i + 1) tos) grown
  fit_more many contents grown content before this after =
      subst (λ ts. AreLoadableSwaps many (map key_of names) ts grown) (sym tos_more)
      (subst (AreLoadableSwaps many (map key_of names) (take i tos ++ to ∷ [])) (sym after)
      (push_loadable many (map key_of names) (take i tos) contents to name.name content before (get_map key_of names to name found) this))

pub swaps_all : (scripts : List Accepted) (libs : List Source) (names : List SlotSpec) (tos : List ℕ) (files : List SourceFile) (i : ℕ) (contents : List SlotContent) (refusals : List (Option Refusal)) → length tos ≡ length files → length tos ≤ i → SwapsSoFar scripts libs names (take i tos) (sources_of (take i files)) contents refusals → SwapsSoFar scripts libs names tos (sources_of files) contents refusals
swaps_all scripts libs names tos files i contents refusals same past judged =
    subst (λ ts. SwapsSoFar scripts libs names ts (sources_of files) contents refusals) (take_all i tos past)
    (subst (λ fs. SwapsSoFar scripts libs names (take i tos) (sources_of fs) contents refusals) (take_all i files (omega (arith, same, past))) judged)

pub fit_all : (many : ℕ) (names : List SlotSpec) (tos : List ℕ) (i : ℕ) (contents : List SlotContent) → length tos ≤ i → AreLoadableSwaps many (map key_of names) (take i tos) contents → AreLoadableSwaps many (map key_of names) tos contents
fit_all many names tos i contents past fits = subst (λ ts. AreLoadableSwaps many (map key_of names) ts contents) (take_all i tos past) fits
