-- Positions of swaps, and the lives between them.
use Rattle.std.proofs.Common.{◌≡◌, ℕ, suc, ◌+◌, ◌<◌, ◌≤◌, Bool, true, false, if◌then◌else◌, nat_eq, List, [], ◌∷◌, ◌++◌, length, Some, None, refl, ◌∙◌, ap, arith}
use Rattle.std.proofs.lemmas.Bool.Decides.{nat_tests}
use Rattle.life_split.specs.declared.items.Life.{Life as Stretch}
use Rattle.life_split.specs.declared.items.LifeItem.{LifeItem}
use Rattle.life_split.specs.Cut.{cut, is_swap, swaps_from}

-- ## Positions

-- the swaps of the first items, and then those of the others
by_head : (w n : ℕ) (ps qs rs : List ℕ) (b : Bool) → ps ≡ qs ++ rs → (if b then n ∷ ps else ps) ≡ (if b then n ∷ qs else qs) ++ rs
by_head w n ps qs rs true e = ap (λ (xs : List ℕ). n ∷ xs) e
by_head w n ps qs rs false e = e

pub swaps_append : (w n : ℕ) (xs ys : List LifeItem) → swaps_from w n (xs ++ ys) ≡ swaps_from w n xs ++ swaps_from w (n + length xs) ys
swaps_append w n [] ys = ap (λ m. swaps_from w m ys) (let e : n ≡ n + 0 = omega arith in e)
swaps_append w n (x ∷ xs) ys =
    by_head w n (swaps_from w (n + 1) (xs ++ ys)) (swaps_from w (n + 1) xs) (swaps_from w (n + suc (length xs)) ys) (is_swap w x)
    (swaps_append w (n + 1) xs ys ∙ ap (λ m. swaps_from w (n + 1) xs ++ swaps_from w m ys) (let e : n + 1 + length xs ≡ n + suc (length xs) = omega arith in e))

-- one item
pub swap_one : (w n : ℕ) (x : LifeItem) → is_swap w x ≡ true → swaps_from w n (x ∷ []) ≡ n ∷ []
swap_one w n x is = ap (λ b. if b then n ∷ [] else []) is

pub swap_none : (w n : ℕ) (x : LifeItem) → is_swap w x ≡ false → swaps_from w n (x ∷ []) ≡ []
swap_none w n x is = ap (λ b. if b then n ∷ [] else []) is

-- a position is none of these
abbrev pub IsNot : ℕ → List ℕ → Type 0
IsNot p [] = Unit {0}
IsNot p (q ∷ qs) = (nat_eq q p ≡ false) × IsNot p qs

pub not_append : (p : ℕ) (ps qs : List ℕ) → IsNot p ps → IsNot p qs → IsNot p (ps ++ qs)
not_append p [] qs a b = b
not_append p (q ∷ ps) qs a b = (a.0, not_append p ps qs a.1 b)

not_by : (p n : ℕ) (ps : List ℕ) (b : Bool) → nat_eq n p ≡ false → IsNot p ps → IsNot p (if b then n ∷ ps else ps)
not_by p n ps true other rest = (other, rest)
not_by p n ps false other rest = rest

-- swaps stand at the positions of the items
pub swaps_after : (w n p : ℕ) (xs : List LifeItem) → p < n → IsNot p (swaps_from w n xs)
swaps_after w n p [] lt = tt
swaps_after w n p (x ∷ xs) lt = not_by p n (swaps_from w (n + 1) xs) (is_swap w x) (grind (arith, nat_tests)) (swaps_after w (n + 1) p xs (omega arith))

pub swaps_before : (w n p : ℕ) (xs : List LifeItem) → n + length xs ≤ p → IsNot p (swaps_from w n xs)
swaps_before w n p [] le = tt
swaps_before w n p (x ∷ xs) le =
    let lt : n < p = omega arith in
    not_by p n (swaps_from w (n + 1) xs) (is_swap w x) (grind (arith, nat_tests)) (swaps_before w (n + 1) p xs (omega arith))

-- ## The lives between positions

-- where the life behind these positions begins
abbrev pub last_start : ℕ → List ℕ → ℕ
last_start from [] = from
last_start from (p ∷ ps) = last_start (p + 1) ps

pub last_start_push : (from p : ℕ) (ps : List ℕ) → last_start from (ps ++ p ∷ []) ≡ p + 1
last_start_push from p [] = refl
last_start_push from p (q ∷ ps) = last_start_push (q + 1) p ps

by_start : (from n most : ℕ) (ps : List ℕ) (b : Bool) → last_start (n + 1) ps ≤ most → last_start from ps ≤ most → last_start from (if b then n ∷ ps else ps) ≤ most
by_start from n most ps true a b = a
by_start from n most ps false a b = b

pub start_within : (w from n : ℕ) (xs : List LifeItem) → from ≤ n → last_start from (swaps_from w n xs) ≤ n + length xs
start_within w from n [] le = omega arith
start_within w from n (x ∷ xs) le =
    let a = start_within w (n + 1) (n + 1) xs (omega arith) in
    let b = start_within w from (n + 1) xs (omega arith) in
    by_start from n (n + suc (length xs)) (swaps_from w (n + 1) xs) (is_swap w x) (omega arith) (omega arith)

-- the lives that these positions end
abbrev pub cut_ended : ℕ → List ℕ → List Stretch
cut_ended from [] = []
cut_ended from (p ∷ ps) = record { from = from; to = p; until = Some (p + 1) } ∷ cut_ended (p + 1) ps

-- and the last one
pub cut_is : (from end : ℕ) (ps : List ℕ) → cut from ps end ≡ cut_ended from ps ++ record { from = last_start from ps; to = end; until = None } ∷ []
cut_is from end [] = refl
cut_is from end (p ∷ ps) = ap (λ (ls : List Stretch). record { from = from; to = p; until = Some (p + 1) } ∷ ls) (cut_is (p + 1) end ps)

pub cut_append : (from end p : ℕ) (ps qs : List ℕ) → cut from (ps ++ p ∷ qs) end ≡ cut_ended from ps ++ (record { from = last_start from ps; to = p; until = Some (p + 1) } ∷ cut (p + 1) qs end)
cut_append from end p [] qs = refl
cut_append from end p (q ∷ ps) qs = ap (λ (ls : List Stretch). record { from = from; to = q; until = Some (q + 1) } ∷ ls) (cut_append (q + 1) end p ps qs)
