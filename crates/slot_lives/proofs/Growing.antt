-- How lives grow with the items of a trace.
use Rattle.std.proofs.Common.{◌≡◌, ℕ, zero, suc, ◌+◌, ◌-◌, ◌≤◌, true, false, cond, if◌then◌else◌, nat_eq, List, [], ◌∷◌, ◌++◌, map, length, take, drop, slice_get, slice_range, slice_index_or, Some, None, refl, sym, ◌∙◌, ap, subst, arith}
use Rattle.std.proofs.lemmas.Bool.Decides.{nat_tests}
use Rattle.std.proofs.lemmas.Grind.{flat_map-append}
use Rattle.std.proofs.lemmas.List.{append-nil, map-append, length-map, length-append, length-drop, take-append-le, drop-append-le, take_all, drop_all}
use Rattle.std.proofs.lemmas.List.Elements.{filter-append}
use Rattle.std.proofs.Math.Seq.{take-append_seam}
use Rattle.life_split.specs.declared.items.Life.{Life as Stretch}
use Rattle.life_split.specs.Cut.{cut, swaps_from}
use Rattle.trace_reader.specs.Said.{Said}
use Rattle.widget_meaning.specs.Items.{Item}
use Rattle.slot_lives.specs.Lives.{Life, cut_item, gives_to, given_to, swaps_in, runs_from, life_at, lives, last_of, last_life, ends_at, ended_at}
use Rattle.slot_lives.specs.LifeLaws.{swaps, new_life, with_item, ended_by}
use Rattle.slot_lives.proofs.Cuts.{swaps_append, swap_one, swap_none, IsNot, not_append, swaps_after, swaps_before, last_start, last_start_push, start_within, cut_ended, cut_is, cut_append}

-- the last of lives with one at the end
pub last_push : {A : Type 0} (first : A) (ls : List (Life A)) (l : Life A) → last_of first (ls ++ l ∷ []) ≡ l
last_push first [] l = refl
last_push first (x ∷ []) l = refl
last_push first (x ∷ y ∷ ls) l = last_push first (y ∷ ls) l

-- items up to a position within them stay where more come behind
pub range_stays : (xs ys : List Said) (from : ℕ) → from ≤ length xs → slice_range (xs ++ ys) from (length xs) ≡ slice_range xs from (length xs)
range_stays xs ys from le =
    let long : length (drop from xs) ≡ length xs - from = length-drop from xs in
    ap (take (length xs - from)) (drop-append-le from xs ys le) ∙ take-append-le (length xs - from) (drop from xs) ys (omega arith)

pub range_more : (xs : List Said) (i : Said) (from : ℕ) → from ≤ length xs → slice_range (xs ++ i ∷ []) from (length xs + 1) ≡ slice_range xs from (length xs) ++ i ∷ []
range_more xs i from le =
    let long : length (drop from xs) ≡ length xs - from = length-drop from xs in
    let more : length (drop from xs ++ i ∷ []) ≡ length (drop from xs) + 1 = length-append (drop from xs) (i ∷ []) in
    ap (take (length xs + 1 - from)) (drop-append-le from xs (i ∷ []) le)
    ∙ (take_all (length xs + 1 - from) (drop from xs ++ i ∷ []) (omega arith)
    ∙ ap (λ (ys : List Said). ys ++ i ∷ []) (sym (take_all (length xs - from) (drop from xs) (omega arith))))

module _ {A : Type 0} (first : A) (others : List A) where
  -- what runs from a position on is told by the items before it
  pub runs_stay : (xs ys : List Said) (from : ℕ) → from ≤ length xs → runs_from first others (xs ++ ys) from ≡ runs_from first others xs from
  runs_stay xs ys zero le = refl
  runs_stay xs ys (suc p) le = ap (λ (zs : List Said). slice_index_or others (swaps_in zs) first) (take-append-le p xs ys (omega arith))

  module _ (w : ℕ) where
    -- where the last life begins
    abbrev pub start : List Said → ℕ
    start items = last_start 0 (swaps_from w 0 (map cut_item items))

    pub start_is_within : (items : List Said) → start items ≤ length items
    start_is_within items =
        let within = start_within w 0 0 (map cut_item items) (omega arith) in
        let long : length (map cut_item items) ≡ length items = length-map items cut_item in
        omega arith

    pub positions_append : (xs ys : List Said) → swaps_from w 0 (map cut_item (xs ++ ys)) ≡ swaps_from w 0 (map cut_item xs) ++ swaps_from w (length xs) (map cut_item ys)
    positions_append xs ys =
        ap (swaps_from w 0) (map-append cut_item xs ys) ∙ (swaps_append w 0 (map cut_item xs) (map cut_item ys)
        ∙ ap (λ n. swaps_from w 0 (map cut_item xs) ++ swaps_from w n (map cut_item ys)) (let e : 0 + length (map cut_item xs) ≡ length xs = omega (arith, length-map xs cut_item) in e))

    -- the last life
    pub last_is : (items : List Said) → last_life first others items w ≡ record { runs = runs_from first others items (start items); items = given_to w (slice_range items (start items) (length items)); until = None }
    last_is items =
        let f : Stretch → Life A = life_at first others items w in
        let s : Stretch = record { from = start items; to = length (map cut_item items); until = None } in
        let before : List Stretch = cut_ended 0 (swaps_from w 0 (map cut_item items)) in
        ap (λ (ls : List Stretch). last_of first (map f ls)) (cut_is 0 (length (map cut_item items)) (swaps_from w 0 (map cut_item items)))
        ∙ (ap (last_of first) (map-append f before (s ∷ []))
        ∙ (last_push first (map f before) (f s)
        ∙ ap (λ n. record { runs = runs_from first others items (start items); items = given_to w (slice_range items (start items) n); until = None }) (length-map items cut_item)))

    -- an item that is no swap of the slot goes to it
    pub given : (items : List Said) (i : Said) → swaps w i ≡ false → last_life first others (items ++ i ∷ []) w ≡ with_item w i (last_life first others items w)
    given items i other =
        let same : start (items ++ i ∷ []) ≡ start items =
        ap (last_start 0) (positions_append items (i ∷ []) ∙ (ap (λ (ps : List ℕ). swaps_from w 0 (map cut_item items) ++ ps) (swap_none w (length items) (cut_item i) other) ∙ append-nil (swaps_from w 0 (map cut_item items)))) in
        let le = start_is_within items in
        let long : length (items ++ i ∷ []) ≡ length items + 1 = length-append items (i ∷ []) in
        let runs : runs_from first others (items ++ i ∷ []) (start items) ≡ runs_from first others items (start items) = runs_stay items (i ∷ []) (start items) le in
        let fed : given_to w (slice_range (items ++ i ∷ []) (start items) (length items + 1)) ≡ given_to w (slice_range items (start items) (length items)) ++ gives_to w i =
        ap (given_to w) (range_more items i (start items) le)
        ∙ (flat_map-append (gives_to w) (slice_range items (start items) (length items)) (i ∷ [])
        ∙ ap (λ (xs : List Item). given_to w (slice_range items (start items) (length items)) ++ xs) (append-nil (gives_to w i))) in
        last_is (items ++ i ∷ [])
        ∙ (ap (λ n. record { runs = runs_from first others (items ++ i ∷ []) n; items = given_to w (slice_range (items ++ i ∷ []) n (length (items ++ i ∷ []))); until = None }) same
        ∙ (ap (λ n. record { runs = runs_from first others (items ++ i ∷ []) (start items); items = given_to w (slice_range (items ++ i ∷ []) (start items) n); until = None }) long
        ∙ ((λ k. record { runs = runs k; items = fed k; until = None })
        ∙ ap (with_item w i) (sym (last_is items)))))

    -- a swap of the slot begins a new life
    pub swapped : (items : List Said) (i : Said) → swaps w i ≡ true → last_life first others (items ++ i ∷ []) w ≡ new_life (slice_index_or others (swaps_in items) first)
    swapped items i is =
        let there : start (items ++ i ∷ []) ≡ length items + 1 =
        ap (last_start 0) (positions_append items (i ∷ []) ∙ ap (λ (ps : List ℕ). swaps_from w 0 (map cut_item items) ++ ps) (swap_one w (length items) (cut_item i) is))
        ∙ last_start_push 0 (length items) (swaps_from w 0 (map cut_item items)) in
        let long : length (items ++ i ∷ []) ≡ length items + 1 = length-append items (i ∷ []) in
        let past : drop (suc (length items)) (items ++ i ∷ []) ≡ [] = drop_all (suc (length items)) (items ++ i ∷ []) (omega arith) in
        let none : slice_range (items ++ i ∷ []) (suc (length items)) (length (items ++ i ∷ [])) ≡ [] = ap (take (length (items ++ i ∷ []) - suc (length items))) past ∙ take_all (length (items ++ i ∷ []) - suc (length items)) [] (omega arith) in
        let count : runs_from first others (items ++ i ∷ []) (suc (length items)) ≡ slice_index_or others (swaps_in items) first = ap (λ (zs : List Said). slice_index_or others (swaps_in zs) first) (take-append_seam items (i ∷ [])) in
        let one : length items + 1 ≡ suc (length items) = omega arith in
        last_is (items ++ i ∷ [])
        ∙ (ap (λ n. record { runs = runs_from first others (items ++ i ∷ []) n; items = given_to w (slice_range (items ++ i ∷ []) n (length (items ++ i ∷ []))); until = None }) (there ∙ one)
        ∙ (λ k. record { runs = count k; items = given_to w (none k); until = None }))

    pub not_ended : (items : List Said) → (last_life first others items w).until ≡ None
    not_ended items = ap (λ (l : Life A). l.until) (last_is items)

    -- ## Ended lives

    -- what these positions end, a swap at another one does not
    none_of : (f : Stretch → Life A) → ((l : Stretch) → (f l).until ≡ l.until) → (p from : ℕ) (ps : List ℕ) → IsNot p ps → ended_at (p + 1) (map f (cut_ended from ps)) ≡ []
    none_of f keeps p from [] none = refl
    none_of f keeps p from (q ∷ ps) none =
        let l : Stretch = record { from = from; to = q; until = Some (q + 1) } in
        let other : nat_eq (q + 1) (p + 1) ≡ false = grind (arith, nat_tests, none.0) in
        let no : ends_at (p + 1) (f l).until ≡ false = ap (ends_at (p + 1)) (keeps l) ∙ other in
        ap (λ b. cond b (f l ∷ ended_at (p + 1) (map f (cut_ended (q + 1) ps))) (ended_at (p + 1) (map f (cut_ended (q + 1) ps)))) no ∙ none_of f keeps p (q + 1) ps none.1

    none_in : (f : Stretch → Life A) → ((l : Stretch) → (f l).until ≡ l.until) → (p from end : ℕ) (ps : List ℕ) → IsNot p ps → ended_at (p + 1) (map f (cut from ps end)) ≡ []
    none_in f keeps p from end ps none =
        let l : Stretch = record { from = last_start from ps; to = end; until = None } in
        let last : ended_at (p + 1) (f l ∷ []) ≡ [] = ap (λ u. cond (ends_at (p + 1) u) (f l ∷ []) []) (keeps l) in
        ap (λ (ls : List Stretch). ended_at (p + 1) (map f ls)) (cut_is from end ps)
        ∙ (ap (ended_at (p + 1)) (map-append f (cut_ended from ps) (l ∷ []))
        ∙ (filter-append (λ (life : Life A). ends_at (p + 1) life.until) (map f (cut_ended from ps)) (f l ∷ [])
        ∙ (λ k. none_of f keeps p from ps none k ++ last k)))

    one_in : (f : Stretch → Life A) → ((l : Stretch) → (f l).until ≡ l.until) → (p from end : ℕ) (ps qs : List ℕ) → IsNot p ps → IsNot p qs
        → ended_at (p + 1) (map f (cut from (ps ++ p ∷ qs) end)) ≡ f (record { from = last_start from ps; to = p; until = Some (p + 1) }) ∷ []
    one_in f keeps p from end ps qs none never =
        let l : Stretch = record { from = last_start from ps; to = p; until = Some (p + 1) } in
        let same : nat_eq (p + 1) (p + 1) ≡ true = grind (arith, nat_tests) in
        let is : ends_at (p + 1) (f l).until ≡ true = ap (ends_at (p + 1)) (keeps l) ∙ same in
        let rest : List (Life A) = map f (cut (p + 1) qs end) in
        ap (λ (ls : List Stretch). ended_at (p + 1) (map f ls)) (cut_append from end p ps qs)
        ∙ (ap (ended_at (p + 1)) (map-append f (cut_ended from ps) (l ∷ cut (p + 1) qs end))
        ∙ (filter-append (λ (life : Life A). ends_at (p + 1) life.until) (map f (cut_ended from ps)) (f l ∷ rest)
        ∙ (ap (λ (ls : List (Life A)). ls ++ ended_at (p + 1) (f l ∷ rest)) (none_of f keeps p from ps none)
        ∙ (ap (λ b. cond b (f l ∷ ended_at (p + 1) rest) (ended_at (p + 1) rest)) is
        ∙ ap (λ (ls : List (Life A)). f l ∷ ls) (none_in f keeps p (p + 1) end qs never)))))

    -- the positions of swaps around an item
    pub swap_within : (front back : List Said) (i : Said) → swaps w i ≡ true
        → swaps_from w 0 (map cut_item (front ++ i ∷ back)) ≡ swaps_from w 0 (map cut_item front) ++ length front ∷ swaps_from w (length front + 1) (map cut_item back)
    swap_within front back i is =
        positions_append front (i ∷ back)
        ∙ ap (λ b. swaps_from w 0 (map cut_item front) ++ (if b then length front ∷ swaps_from w (length front + 1) (map cut_item back) else swaps_from w (length front + 1) (map cut_item back))) is

    pub other_within : (front back : List Said) (i : Said) → swaps w i ≡ false
        → swaps_from w 0 (map cut_item (front ++ i ∷ back)) ≡ swaps_from w 0 (map cut_item front) ++ swaps_from w (length front + 1) (map cut_item back)
    other_within front back i is =
        positions_append front (i ∷ back)
        ∙ ap (λ b. swaps_from w 0 (map cut_item front) ++ (if b then length front ∷ swaps_from w (length front + 1) (map cut_item back) else swaps_from w (length front + 1) (map cut_item back))) is

    before_it : (items : List Said) (p : ℕ) → length items ≤ p → IsNot p (swaps_from w 0 (map cut_item items))
    before_it items p le = let long : length (map cut_item items) ≡ length items = length-map items cut_item in swaps_before w 0 p (map cut_item items) (omega arith)

    -- a swap of the slot ends what was the last life before it
    ended_within : (front back : List Said) (i : Said) → swaps w i ≡ true
        → ended_at (length front + 1) (lives first others (front ++ i ∷ back) w) ≡ ended_by (length front + 1) (last_life first others front w) ∷ []
    ended_within front back i is =
        let items : List Said = front ++ i ∷ back in
        let le = start_is_within front in
        let runs : runs_from first others items (start front) ≡ runs_from first others front (start front) = runs_stay front (i ∷ back) (start front) le in
        let fed : given_to w (slice_range items (start front) (length front)) ≡ given_to w (slice_range front (start front) (length front)) = ap (given_to w) (range_stays front (i ∷ back) (start front) le) in
        ap (λ (ps : List ℕ). ended_at (length front + 1) (map (life_at first others items w) (cut 0 ps (length (map cut_item items))))) (swap_within front back i is)
        ∙ (one_in (life_at first others items w) (λ l. refl) (length front) 0 (length (map cut_item items)) (swaps_from w 0 (map cut_item front)) (swaps_from w (length front + 1) (map cut_item back))
        (before_it front (length front) (omega arith)) (swaps_after w (length front + 1) (length front) (map cut_item back) (omega arith))
        ∙ ((λ k. record { runs = runs k; items = fed k; until = Some (length front + 1) } ∷ [])
        ∙ ap (λ (l : Life A). ended_by (length front + 1) l ∷ []) (sym (last_is front))))

    -- items around a position
    around : (items : List Said) (p : ℕ) (i : Said) → slice_get items p ≡ Some i → (take p items ++ i ∷ drop (suc p) items ≡ items) × (length (take p items) ≡ p)
    around [] zero i e = cc
    around [] (suc p) i e = cc
    around (x ∷ items) zero i e = (let same : x ≡ i = cc in ap (λ (j : Said). j ∷ items) (sym same), refl)
    around (x ∷ items) (suc p) i e = let there = around items p i e in (ap (λ (is : List Said). x ∷ is) there.0, ap suc there.1)

    pub ended : (items : List Said) (p : ℕ) (i : Said) → slice_get items p ≡ Some i → swaps w i ≡ true
        → ended_at (p + 1) (lives first others items w) ≡ ended_by (p + 1) (last_life first others (take p items) w) ∷ []
    ended items p i at is =
        let there = around items p i at in
        let life : Life A = last_life first others (take p items) w in
        let here : ended_at (length (take p items) + 1) (lives first others items w) ≡ ended_by (length (take p items) + 1) life ∷ [] =
        subst (λ (zs : List Said). ended_at (length (take p items) + 1) (lives first others zs w) ≡ ended_by (length (take p items) + 1) life ∷ []) there.0 (ended_within (take p items) (drop (suc p) items) i is) in
        subst (λ n. ended_at (n + 1) (lives first others items w) ≡ ended_by (n + 1) life ∷ []) there.1 here

    none_within : (front back : List Said) (i : Said) → swaps w i ≡ false → ended_at (length front + 1) (lives first others (front ++ i ∷ back) w) ≡ []
    none_within front back i is =
        let items : List Said = front ++ i ∷ back in
        let none : IsNot (length front) (swaps_from w 0 (map cut_item front) ++ swaps_from w (length front + 1) (map cut_item back)) =
        not_append (length front) (swaps_from w 0 (map cut_item front)) (swaps_from w (length front + 1) (map cut_item back)) (before_it front (length front) (omega arith)) (swaps_after w (length front + 1) (length front) (map cut_item back) (omega arith)) in
        none_in (life_at first others items w) (λ l. refl) (length front) 0 (length (map cut_item items)) (swaps_from w 0 (map cut_item items)) (subst (IsNot (length front)) (sym (other_within front back i is)) none)

    pub none_ended : (items : List Said) (p : ℕ) (i : Said) → slice_get items p ≡ Some i → swaps w i ≡ false → ended_at (p + 1) (lives first others items w) ≡ []
    none_ended items p i at is =
        let there = around items p i at in
        let here : ended_at (length (take p items) + 1) (lives first others items w) ≡ [] =
        subst (λ (zs : List Said). ended_at (length (take p items) + 1) (lives first others zs w) ≡ []) there.0 (none_within (take p items) (drop (suc p) items) i is) in
        subst (λ n. ended_at (n + 1) (lives first others items w) ≡ []) there.1 here

    pub none_beyond : (items : List Said) (p : ℕ) → length items ≤ p → ended_at (p + 1) (lives first others items w) ≡ []
    none_beyond items p le = none_in (life_at first others items w) (λ l. refl) p 0 (length (map cut_item items)) (swaps_from w 0 (map cut_item items)) (before_it items p le)

    -- ## Without a swap of the slot

    no_positions : (n : ℕ) (items : List Said) → ((p : ℕ) (i : Said) → slice_get items p ≡ Some i → swaps w i ≡ false) → swaps_from w n (map cut_item items) ≡ []
    no_positions n [] none = refl
    no_positions n (x ∷ items) none =
        ap (λ b. if b then n ∷ swaps_from w (n + 1) (map cut_item items) else swaps_from w (n + 1) (map cut_item items)) (none 0 x refl)
        ∙ no_positions (n + 1) items (λ p i e. none (suc p) i e)

    pub no_swap : (items : List Said) → ((p : ℕ) (i : Said) → slice_get items p ≡ Some i → swaps w i ≡ false)
        → lives first others items w ≡ record { runs = first; items = given_to w items; until = None } ∷ []
    no_swap items none =
        let long : length (map cut_item items) ≡ length items = length-map items cut_item in
        ap (λ (ps : List ℕ). map (life_at first others items w) (cut 0 ps (length (map cut_item items)))) (no_positions 0 items none)
        ∙ ap (λ (xs : List Said). record { runs = first; items = given_to w xs; until = None } ∷ []) (take_all (length (map cut_item items) - 0) items (omega arith))
