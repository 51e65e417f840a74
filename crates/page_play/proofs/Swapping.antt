-- The swaps among items.
use Rattle.std.proofs.Common.{◌≡◌, ℕ, suc, ◌+◌, ◌<◌, List, [], ◌∷◌, ◌++◌, length, Bool, true, false, Option, Some, None, refl, ap, ◌∙◌, arith}
use Rattle.std.specs.Prelude.{nat_eq, if◌then◌else◌}
use Rattle.trace_reader.specs.Said.{Said, an_event, an_advance, a_swap}
use Rattle.slot_lives.specs.Lives.{swaps_in}
use Rattle.page_play.specs.Swaps.{swap_slots, swap_positions, last_swap, last_swap_from}

pub slots_append : (xs ys : List Said) → swap_slots (xs ++ ys) ≡ swap_slots xs ++ swap_slots ys
slots_append [] ys = refl
slots_append (an_event to kind path value ∷ xs) ys = slots_append xs ys
slots_append (an_advance ms ∷ xs) ys = slots_append xs ys
slots_append (a_swap to file ∷ xs) ys = ap (λ tos. to ∷ tos) (slots_append xs ys)

pub positions_append : (n : ℕ) (xs ys : List Said) → swap_positions n (xs ++ ys) ≡ swap_positions n xs ++ swap_positions (n + length xs) ys
positions_append n [] ys = let e : n ≡ n + 0 = omega arith in ap (λ m. swap_positions m ys) e
positions_append n (an_event to kind path value ∷ xs) ys = let e : (n + 1) + length xs ≡ n + suc (length xs) = omega arith in positions_append (n + 1) xs ys ∙ ap (λ m. swap_positions (n + 1) xs ++ swap_positions m ys) e
positions_append n (an_advance ms ∷ xs) ys = let e : (n + 1) + length xs ≡ n + suc (length xs) = omega arith in positions_append (n + 1) xs ys ∙ ap (λ m. swap_positions (n + 1) xs ++ swap_positions m ys) e
positions_append n (a_swap to file ∷ xs) ys = let e : (n + 1) + length xs ≡ n + suc (length xs) = omega arith in ap (λ ps. (n + 1) ∷ ps) (positions_append (n + 1) xs ys ∙ ap (λ m. swap_positions (n + 1) xs ++ swap_positions m ys) e)

pub positions_length : (n : ℕ) (xs : List Said) → length (swap_positions n xs) ≡ length (swap_slots xs)
positions_length n [] = refl
positions_length n (an_event to kind path value ∷ xs) = positions_length (n + 1) xs
positions_length n (an_advance ms ∷ xs) = positions_length (n + 1) xs
positions_length n (a_swap to file ∷ xs) = ap suc (positions_length (n + 1) xs)

-- as many as there are swaps
pub slots_length : (xs : List Said) → length (swap_slots xs) ≡ swaps_in xs
slots_length [] = refl
slots_length (an_event to kind path value ∷ xs) = slots_length xs
slots_length (an_advance ms ∷ xs) = slots_length xs
slots_length (a_swap to file ∷ xs) = ap suc (slots_length xs)

-- ## The last one of a slot

if_yes : {A : Type 0} (b : Bool) (x y : A) → b ≡ true → (if b then x else y) ≡ x
if_yes b x y e = rw e refl

if_no : {A : Type 0} (b : Bool) (x y : A) → b ≡ false → (if b then x else y) ≡ y
if_no b x y e = rw e refl

last_push_from : (w n : ℕ) (last : Option ℕ) (tos : List ℕ) (to : ℕ) → last_swap_from w n last (tos ++ to ∷ []) ≡ (if nat_eq to w then Some (n + length tos) else last_swap_from w n last tos)
last_push_from w n last [] to = let e : n ≡ n + 0 = omega arith in ap (λ m. if nat_eq to w then Some m else last) e
last_push_from w n last (x ∷ tos) to =
    let e : (n + 1) + length tos ≡ n + suc (length tos) = omega arith in
    last_push_from w (n + 1) (if nat_eq x w then Some n else last) tos to
    ∙ ap (λ m. if nat_eq to w then Some m else last_swap_from w (n + 1) (if nat_eq x w then Some n else last) tos) e

pub last_push : (w : ℕ) (tos : List ℕ) (to : ℕ) → last_swap w (tos ++ to ∷ []) ≡ (if nat_eq to w then Some (length tos) else last_swap w tos)
last_push w tos to = let e : 0 + length tos ≡ length tos = omega arith in last_push_from w 0 None tos to ∙ ap (λ m. if nat_eq to w then Some m else last_swap w tos) e

pub last_here : (w : ℕ) (tos : List ℕ) (to : ℕ) → nat_eq to w ≡ true → last_swap w (tos ++ to ∷ []) ≡ Some (length tos)
last_here w tos to on = last_push w tos to ∙ if_yes (nat_eq to w) (Some (length tos)) (last_swap w tos) on

pub last_elsewhere : (w : ℕ) (tos : List ℕ) (to : ℕ) → nat_eq to w ≡ false → last_swap w (tos ++ to ∷ []) ≡ last_swap w tos
last_elsewhere w tos to off = last_push w tos to ∙ if_no (nat_eq to w) (Some (length tos)) (last_swap w tos) off

-- one that is there is one of the slot
within_from : (w n : ℕ) (last : Option ℕ) (tos : List ℕ) (i : ℕ) → ((j : ℕ) → last ≡ Some j → j < n) → last_swap_from w n last tos ≡ Some i → i < n + length tos
within_from w n last [] i below is = let b = below i is in omega (arith, b)
within_from w n last (to ∷ tos) i below is =
    let r = within_from w (n + 1) (if nat_eq to w then Some n else last) tos i (λ j e. by (nat_eq to w) j e) is in
    omega (arith, r)
  where
    by : (b : Bool) (j : ℕ) → (if b then Some n else last) ≡ Some j → j < n + 1
    by true j e = let f : n ≡ j = cc in omega (arith, f)
    by false j e = let r = below j e in omega (arith, r)

pub last_within : (w : ℕ) (tos : List ℕ) (i : ℕ) → last_swap w tos ≡ Some i → i < length tos
last_within w tos i is = let r = within_from w 0 None tos i (λ j e. absurd (let f = e in cc)) is in omega (arith, r)
