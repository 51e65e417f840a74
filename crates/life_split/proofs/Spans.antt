-- The lives and the swaps between them are all items.
use Rattle.std.proofs.Common.{◌≡◌, ℕ, zero, suc, ◌+◌, ◌-◌, ◌≤◌, Bool, true, false, cond, if◌then◌else◌, List, [], ◌∷◌, ◌++◌, length, take, drop, slice_get, Option, Some, None, refl, sym, ◌∙◌, ap, arith}
use Rattle.std.proofs.lemmas.Bool.Decides.{nat_tests}
use Rattle.std.proofs.lemmas.List.{append-nil, append_assoc, drop-drop, take-append-drop, take_rest}
use Rattle.std.proofs.lemmas.List.Elements.{All-cons, All-nil, filter-append}
use Rattle.std.specs.List.{All, filter, flat_map}
use Rattle.life_split.specs.declared.items.Life.{Life}
use Rattle.life_split.specs.declared.items.LifeItem.{LifeItem}
use Rattle.life_split.specs.declared.items.LifeItem.TheVariants as item
use Rattle.life_split.specs.Cut.{cut, goes_to, is_swap, lives_of, swaps_from}
use Rattle.life_split.specs.CutLaws.{Ends, given, span, swap_at}

-- an item that is a swap of slot w
swap_is : (w : ℕ) (i : LifeItem) → is_swap w i ≡ true → i ≡ item.Swap w
swap_is w (item.To v) is = cc
swap_is w item.All is = cc
swap_is w (item.Swap v) is = let same : v ≡ w = grind (arith, nat_tests) in ap (λ n. item.Swap n) same

-- the items from one position up to a later one, and the rest
rest_of : (from n : ℕ) (items : List LifeItem) → from ≤ n → take (n - from) (drop from items) ++ drop n items ≡ drop from items
rest_of from n items le =
    let same : drop (n - from) (drop from items) ≡ drop n items = drop-drop (n - from) from items ∙ ap (λ k. drop k items) (let e : from + (n - from) ≡ n = omega arith in e) in
    ap (λ (is : List LifeItem). take (n - from) (drop from items) ++ is) (sym same) ∙ take-append-drop (n - from) (drop from items)

pub tail_of : (n : ℕ) (items : List LifeItem) (i : LifeItem) (rest : List LifeItem) → drop n items ≡ i ∷ rest → drop (n + 1) items ≡ rest
tail_of n items i rest e = sym (drop-drop 1 n items) ∙ ap (drop 1) e

pub head_of : (n : ℕ) (items : List LifeItem) (i : LifeItem) (rest : List LifeItem) → drop n items ≡ i ∷ rest → slice_get items n ≡ Some i
head_of zero [] i rest e = cc
head_of (suc n) [] i rest e = cc
head_of zero (x ∷ items) i rest e = (let same : x ≡ i = cc in ap (λ (j : LifeItem). Some j) same)
head_of (suc n) (x ∷ items) i rest e = head_of n items i rest e

-- a life's items, and the swap that ends it
abbrev pub piece : ℕ → List LifeItem → Life → List LifeItem
piece w items life = span items life ++ swap_at w life.until

by_swap : (w from n : ℕ) (items : List LifeItem) (i : LifeItem) (rest : List LifeItem) (b : Bool) → is_swap w i ≡ b → from ≤ n → drop n items ≡ i ∷ rest
    → flat_map (piece w items) (cut (n + 1) (swaps_from w (n + 1) rest) (length items)) ≡ drop (n + 1) items
    → flat_map (piece w items) (cut from (swaps_from w (n + 1) rest) (length items)) ≡ drop from items
    → flat_map (piece w items) (cut from (if b then n ∷ swaps_from w (n + 1) rest else swaps_from w (n + 1) rest) (length items)) ≡ drop from items
by_swap w from n items i rest true is le e next same =
    append_assoc (take (n - from) (drop from items)) (item.Swap w ∷ []) (flat_map (piece w items) (cut (n + 1) (swaps_from w (n + 1) rest) (length items)))
    ∙ ((λ k. take (n - from) (drop from items) ++ (sym (swap_is w i is) k ∷ (next ∙ tail_of n items i rest e) k))
    ∙ (ap (λ (is : List LifeItem). take (n - from) (drop from items) ++ is) (sym e) ∙ rest_of from n items le))
by_swap w from n items i rest false other le e next same = same

whole_from : (w from n : ℕ) (items rest : List LifeItem) → from ≤ n → drop n items ≡ rest → flat_map (piece w items) (cut from (swaps_from w n rest) (length items)) ≡ drop from items
whole_from w from n items [] le e = append-nil (take (length items - from) (drop from items) ++ []) ∙ (append-nil (take (length items - from) (drop from items)) ∙ take_rest items from)
whole_from w from n items (i ∷ rest) le e =
    by_swap w from n items i rest (is_swap w i) refl le e (whole_from w (n + 1) (n + 1) items rest (omega arith) (tail_of n items i rest e)) (whole_from w from (n + 1) items rest (omega arith) (tail_of n items i rest e))

pub whole : (w : ℕ) (items : List LifeItem) → flat_map (piece w items) (lives_of items w) ≡ items
whole w items = whole_from w 0 0 items items (omega arith) refl

no_swap_goes : (w : ℕ) (until : Option ℕ) → filter (goes_to w) (swap_at w until) ≡ []
no_swap_goes w None = refl
no_swap_goes w (Some n) = refl

given_of : (w : ℕ) (items : List LifeItem) (lives : List Life) → flat_map (given w items) lives ≡ filter (goes_to w) (flat_map (piece w items) lives)
given_of w items [] = refl
given_of w items (life ∷ lives) =
    let here : filter (goes_to w) (piece w items life) ≡ given w items life =
    filter-append (goes_to w) (span items life) (swap_at w life.until) ∙ (ap (λ (is : List LifeItem). given w items life ++ is) (no_swap_goes w life.until) ∙ append-nil (given w items life)) in
    let later : flat_map (given w items) lives ≡ filter (goes_to w) (flat_map (piece w items) lives) = given_of w items lives in
    (λ k. sym here k ++ later k) ∙ sym (filter-append (goes_to w) (piece w items life) (flat_map (piece w items) lives))

pub all_given : (w : ℕ) (items : List LifeItem) → flat_map (given w items) (lives_of items w) ≡ filter (goes_to w) items
all_given w items = given_of w items (lives_of items w) ∙ ap (filter (goes_to w)) (whole w items)

-- a life ends with all items, or at a swap of slot w
abbrev pub EndsWell : ℕ → List LifeItem → Life → Type 0
EndsWell w items life = Ends w items life.to life.until

ends_by : (w from n : ℕ) (items : List LifeItem) (i : LifeItem) (rest : List LifeItem) (b : Bool) → is_swap w i ≡ b → drop n items ≡ i ∷ rest
    → All (EndsWell w items) (cut (n + 1) (swaps_from w (n + 1) rest) (length items)) → All (EndsWell w items) (cut from (swaps_from w (n + 1) rest) (length items))
    → All (EndsWell w items) (cut from (if b then n ∷ swaps_from w (n + 1) rest else swaps_from w (n + 1) rest) (length items))
ends_by w from n items i rest true is e next same =
    All-cons (EndsWell w items) (record { from = from; to = n; until = Some (n + 1) }) (cut (n + 1) (swaps_from w (n + 1) rest) (length items)) (refl, head_of n items i rest e ∙ ap (λ (j : LifeItem). Some j) (swap_is w i is)) next
ends_by w from n items i rest false other e next same = same

ends_from : (w from n : ℕ) (items rest : List LifeItem) → drop n items ≡ rest → All (EndsWell w items) (cut from (swaps_from w n rest) (length items))
ends_from w from n items [] e = All-cons (EndsWell w items) (record { from = from; to = length items; until = None }) [] refl (All-nil (EndsWell w items))
ends_from w from n items (i ∷ rest) e = ends_by w from n items i rest (is_swap w i) refl e (ends_from w (n + 1) (n + 1) items rest (tail_of n items i rest e)) (ends_from w from (n + 1) items rest (tail_of n items i rest e))

pub ends : (w : ℕ) (items : List LifeItem) → All (EndsWell w items) (lives_of items w)
ends w items = ends_from w 0 0 items items refl

lives_count : (from end : ℕ) (ps : List ℕ) → length (cut from ps end) ≡ length ps + 1
lives_count from end [] = omega arith
lives_count from end (p ∷ ps) = let later = lives_count (p + 1) end ps in omega arith

swaps_by : (w n : ℕ) (i : LifeItem) (rest : List LifeItem) (b : Bool) → length (swaps_from w (n + 1) rest) ≡ length (filter (is_swap w) rest)
    → length (if b then n ∷ swaps_from w (n + 1) rest else swaps_from w (n + 1) rest) ≡ length (cond b (i ∷ filter (is_swap w) rest) (filter (is_swap w) rest))
swaps_by w n i rest true later = omega arith
swaps_by w n i rest false later = later

swaps_count : (w n : ℕ) (items : List LifeItem) → length (swaps_from w n items) ≡ length (filter (is_swap w) items)
swaps_count w n [] = refl
swaps_count w n (i ∷ rest) = swaps_by w n i rest (is_swap w i) (swaps_count w (n + 1) rest)

pub count : (w : ℕ) (items : List LifeItem) → length (lives_of items w) ≡ length (filter (is_swap w) items) + 1
count w items = lives_count 0 (length items) (swaps_from w 0 items) ∙ ap (λ n. n + 1) (swaps_count w 0 items)
