-- Lives over other things that run.
use Rattle.std.proofs.Common.{◌≡◌, ℕ, suc, ◌+◌, ◌<◌, ◌≤◌, Bool, true, false, cond, if◌then◌else◌, List, [], ◌∷◌, ◌++◌, map, length, take, slice_index_or, refl, sym, ◌∙◌, ap, subst, arith}
use Rattle.std.proofs.lemmas.List.{append_assoc, length-append, get_or_append_left}
use Rattle.std.proofs.lemmas.List.Elements.{filter-append}
use Rattle.std.proofs.Math.Seq.{take-append_seam}
use Rattle.std.specs.List.{filter}
use Rattle.life_split.specs.Cut.{cut, swaps_from}
use Rattle.trace_reader.specs.Said.{Said, an_event, an_advance, a_swap}
use Rattle.slot_lives.specs.Lives.{Life, cut_item, is_swap, swaps_in, runs_from, life_at, lives, last_of, ends_at, ended_at}
use Rattle.slot_lives.specs.LifeLaws.{swaps}

-- lives to which the same is given and that end at the same positions, and in which what runs is so related
pub data AreAlike {A B : Type 0} (R : A → B → Type 0) : List (Life A) → List (Life B) → Type 0 where
  no_life : AreAlike R [] []
  one_life : {l : Life A} {m : Life B} {ls : List (Life A)} {ms : List (Life B)} → R l.runs m.runs → l.items ≡ m.items → l.until ≡ m.until → AreAlike R ls ms → AreAlike R (l ∷ ls) (m ∷ ms)

-- a swap of a slot is a swap
pub swap_is : (w : ℕ) (i : Said) → swaps w i ≡ true → is_swap i ≡ true
swap_is w (an_event to kind path value) is = is
swap_is w (an_advance ms) is = is
swap_is w (a_swap to file) is = refl

pub swaps_in_append : (xs ys : List Said) → swaps_in (xs ++ ys) ≡ swaps_in xs + swaps_in ys
swaps_in_append xs ys = ap length (filter-append is_swap xs ys) ∙ length-append (filter is_swap xs) (filter is_swap ys)

-- where what runs first and what each swap brings is so related
module _ {A B : Type 0} (R : A → B → Type 0) (first : A) (others : List A) (first' : B) (others' : List B) (items : List Said)
    (one : R first first') (all : (k : ℕ) → k < swaps_in items → R (slice_index_or others k first) (slice_index_or others' k first')) where
  abbrev Runs : ℕ → Type 0
  Runs from = R (runs_from first others items from) (runs_from first' others' items from)

  abbrev AllRun : List ℕ → Type 0
  AllRun [] = Unit {0}
  AllRun (p ∷ ps) = Runs (p + 1) × AllRun ps

  cut_alike : (w from end : ℕ) (ps : List ℕ) → Runs from → AllRun ps → AreAlike R (map (life_at first others items w) (cut from ps end)) (map (life_at first' others' items w) (cut from ps end))
  cut_alike w from end [] here rest = one_life here refl refl no_life
  cut_alike w from end (p ∷ ps) here rest = one_life here refl refl (cut_alike w (p + 1) end ps rest.0 rest.1)

  by_swap : (n : ℕ) (ps : List ℕ) (b : Bool) → (b ≡ true → Runs (n + 1)) → AllRun ps → AllRun (if b then n ∷ ps else ps)
  by_swap n ps true here rest = (here refl, rest)
  by_swap n ps false here rest = rest

  runs_at : (front back : List Said) (w : ℕ) (i : Said) → front ++ i ∷ back ≡ items → swaps w i ≡ true → Runs (length front + 1)
  runs_at front back w i are is =
      let many : swaps_in items ≡ swaps_in front + swaps_in (i ∷ back) = ap swaps_in (sym are) ∙ swaps_in_append front (i ∷ back) in
      let more : swaps_in (i ∷ back) ≡ suc (swaps_in back) = ap (λ b. length (cond b (i ∷ filter is_swap back) (filter is_swap back))) (swap_is w i is) in
      let there : take (length front) items ≡ front = ap (take (length front)) (sym are) ∙ take-append_seam front (i ∷ back) in
      let here : R (slice_index_or others (swaps_in front) first) (slice_index_or others' (swaps_in front) first') = all (swaps_in front) (omega arith) in
      let moved : Runs (suc (length front)) = subst (λ (xs : List Said). R (slice_index_or others (swaps_in xs) first) (slice_index_or others' (swaps_in xs) first')) (sym there) here in
      subst Runs (let e : suc (length front) ≡ length front + 1 = omega arith in e) moved

  all_run : (w : ℕ) (front rest : List Said) → front ++ rest ≡ items → AllRun (swaps_from w (length front) (map cut_item rest))
  all_run w front [] are = tt
  all_run w front (i ∷ rest) are =
      let long : length (front ++ i ∷ []) ≡ length front + 1 = length-append front (i ∷ []) in
      let next : AllRun (swaps_from w (length (front ++ i ∷ [])) (map cut_item rest)) = all_run w (front ++ i ∷ []) rest (append_assoc front (i ∷ []) rest ∙ are) in
      by_swap (length front) (swaps_from w (length front + 1) (map cut_item rest)) (swaps w i) (runs_at front rest w i are) (subst (λ n. AllRun (swaps_from w n (map cut_item rest))) long next)

  pub lives_alike : (w : ℕ) → AreAlike R (lives first others items w) (lives first' others' items w)
  lives_alike w = cut_alike w 0 (length (map cut_item items)) (swaps_from w 0 (map cut_item items)) one (all_run w [] items refl)

-- the last ones
pub last_alike : {A B : Type 0} (R : A → B → Type 0) (first : A) (first' : B) (ls : List (Life A)) (ms : List (Life B)) → R first first' → AreAlike R ls ms → AreAlike R (last_of first ls ∷ []) (last_of first' ms ∷ [])
last_alike R first first' ls ms one no_life = one_life one refl refl no_life
last_alike R first first' ls ms one (one_life here items until no_life) = one_life here items until no_life
last_alike R first first' ls ms one (one_life {ls = ls1} {ms = ms1} here items until (one_life next items' until' rest)) = last_alike R first first' ls1 ms1 one (one_life next items' until' rest)

-- and those that a swap ends
by_end : {A B : Type 0} (R : A → B → Type 0) (b c : Bool) (l : Life A) (m : Life B) (ls : List (Life A)) (ms : List (Life B)) → b ≡ c → R l.runs m.runs → l.items ≡ m.items → l.until ≡ m.until → AreAlike R ls ms → AreAlike R (cond b (l ∷ ls) ls) (cond c (m ∷ ms) ms)
by_end R true true l m ls ms e here items until rest = one_life here items until rest
by_end R false false l m ls ms e here items until rest = rest
by_end R true false l m ls ms e here items until rest = cc
by_end R false true l m ls ms e here items until rest = cc

pub ended_alike : {A B : Type 0} (R : A → B → Type 0) (n : ℕ) (ls : List (Life A)) (ms : List (Life B)) → AreAlike R ls ms → AreAlike R (ended_at n ls) (ended_at n ms)
ended_alike R n ls ms no_life = no_life
ended_alike R n ls ms (one_life {l = l} {m = m} {ls = ls1} {ms = ms1} here items until rest) =
    by_end R (ends_at n l.until) (ends_at n m.until) l m (ended_at n ls1) (ended_at n ms1) (ap (ends_at n) until) here items until (ended_alike R n ls1 ms1 rest)

-- what runs is the same
pub same_lives : {A : Type 0} (ls ms : List (Life A)) → AreAlike (λ (a b : A). a ≡ b) ls ms → ls ≡ ms
same_lives ls ms no_life = refl
same_lives ls ms (one_life {l = l} {m = m} {ls = ls1} {ms = ms1} here items until rest) =
    let more = same_lives ls1 ms1 rest in
    λ k. record { runs = here k; items = items k; until = until k } ∷ more k

-- what no swap of these items brings does not matter
pub others_beyond : {A : Type 0} (first : A) (others more : List A) (items : List Said) (w : ℕ) → swaps_in items ≤ length others → lives first (others ++ more) items w ≡ lives first others items w
others_beyond first others more items w few =
    same_lives (lives first (others ++ more) items w) (lives first others items w)
    (lives_alike (λ a b. a ≡ b) first (others ++ more) first others items refl (λ k lt. get_or_append_left others more first k (omega arith)) w)
