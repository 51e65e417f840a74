-- The names of lives.
use Rattle.std.proofs.Common.{◌≡◌, ℕ, zero, suc, ◌+◌, ◌-◌, ◌<◌, List, [], ◌∷◌, ◌++◌, map, length, refl, sym, ap, subst, ◌∙◌, arith, Bool, true, false, Some, None, if◌then◌else◌, slice_get, nat_eq, eq-eqb, length-append}
use Rattle.std.specs.Prelude.{◌==◌, slice_index_or}
use Rattle.std.proofs.lemmas.Bool.Decides.{nat_tests}
use Rattle.store_cells.proofs.Lists.{none_some, some_same}
use Rattle.life_laws.specs.Chains.{Chains, IsChain, last_from, last_life}
use Rattle.life_laws.specs.Slots.{Each}
use Rattle.slot_picks.specs.declared.slots.Slot.{Slot}
use Rattle.slot_reach.specs.Lasts.{name_in, names_before}

-- the last of some numbers
last_index : (x : ℕ) (xs : List ℕ) → slice_index_or (x ∷ xs) (length xs) 0 ≡ last_from x xs
last_index x [] = refl
last_index x (y ∷ ys) = last_index y ys

pub last_whole : (xs : List ℕ) → false ≡ (length xs == 0) → slice_index_or xs (length xs - 1) 0 ≡ last_life xs
last_whole [] e = cc
last_whole (x ∷ xs) e = let place : suc (length xs) - 1 ≡ length xs = omega arith in rw place (last_index x xs)

-- ## Names of lives by their numbers

many_names : (ss : List Slot) (n : ℕ) → length (names_before ss n) ≡ n
many_names ss zero = refl
many_names ss (suc n) = length-append (names_before ss n) (name_in ss n ∷ []) ∙ ap (λ k. k + 1) (many_names ss n) ∙ (let one : n + 1 ≡ suc n = omega arith in one)

in_front : {X : Type 0} (xs ys : List X) (k : ℕ) (d : X) → k < length xs → slice_index_or (xs ++ ys) k d ≡ slice_index_or xs k d
in_front [] ys k d lt = absurd (omega (arith, lt))
in_front (x ∷ xs) ys zero d lt = refl
in_front (x ∷ xs) ys (suc k) d lt = in_front xs ys k d (omega (arith, lt))

at_end : {X : Type 0} (xs : List X) (x : X) (k : ℕ) (d : X) → k ≡ length xs → slice_index_or (xs ++ x ∷ []) k d ≡ x
at_end [] x zero d e = refl
at_end [] x (suc k) d e = absurd (omega (arith, e))
at_end (y ∷ xs) x zero d e = absurd (omega (arith, e))
at_end (y ∷ xs) x (suc k) d e = at_end xs x k d (omega (arith, e))

pub name_at : (ss : List Slot) (n v : ℕ) → v < n → slice_index_or (names_before ss n) v None ≡ name_in ss v
name_at ss zero v lt = absurd (omega (arith, lt))
name_at ss (suc n) v lt = by (nat_eq v n) refl (name_at ss n v)
  where
    by : (b : Bool) → nat_eq v n ≡ b → (v < n → slice_index_or (names_before ss n) v None ≡ name_in ss v) → slice_index_or (names_before ss n ++ name_in ss n ∷ []) v None ≡ name_in ss v
    by true e f =
        let is : v ≡ n = grind (arith, nat_tests, e) in
        at_end (names_before ss n) (name_in ss n) v None (is ∙ sym (many_names ss n)) ∙ ap (name_in ss) (sym is)
    by false e f =
        let low : v < n = grind (arith, nat_tests, e, lt) in
        in_front (names_before ss n) (name_in ss n ∷ []) v None (omega (arith, low, many_names ss n)) ∙ f low

-- ## The name of a slot is that of its last life

each_last : (P : ℕ → Type 0) (vs : List ℕ) → 0 < length vs → Each P vs → P (last_life vs)
each_last P [] some all = absurd (omega (arith, some))
each_last P (x ∷ xs) some all = by x xs all.0 all.1
  where
    by : (x : ℕ) (xs : List ℕ) → P x → Each P xs → P (last_from x xs)
    by x [] h all = h
    by x (y ∷ ys) h all = by y ys all.0 all.1

pub home_of : (homes : List ℕ) (born w : ℕ) (vs : List ℕ) → IsChain homes born w vs → slice_get homes (last_life vs) ≡ Some w
home_of homes born w vs c = each_last (λ v. slice_get homes v ≡ Some w) vs c.some c.home

pub low_last : (homes : List ℕ) (born w : ℕ) (vs : List ℕ) → IsChain homes born w vs → last_life vs < born
low_last homes born w vs c = each_last (λ v. v < born) vs c.some c.below

pub chain_at : (homes : List ℕ) (born w : ℕ) (ss : List Slot) (k : ℕ) (s : Slot) → Chains homes born w (map (λ (x : Slot). x.lives.items) ss) → slice_get ss k ≡ Some s → IsChain homes born (w + k) s.lives.items
chain_at homes born w [] k s cs at = absurd (none_some at)
chain_at homes born w (t ∷ ts) zero s cs at =
    let none : w + 0 ≡ w = omega arith in
    rw none (subst (λ (x : Slot). IsChain homes born w x.lives.items) (some_same t s at) cs.0)
chain_at homes born w (t ∷ ts) (suc k) s cs at =
    let place : w + 1 + k ≡ w + suc k = omega arith in
    subst (λ n. IsChain homes born n s.lives.items) place (chain_at homes born (w + 1) ts k s cs.1 at)

pub named : (homes : List ℕ) (born w : ℕ) (ss : List Slot) (k : ℕ) (s : Slot) → Chains homes born w (map (λ (x : Slot). x.lives.items) ss) → slice_get ss k ≡ Some s → name_in ss (last_life s.lives.items) ≡ Some s.name
named homes born w [] k s cs at = absurd (none_some at)
named homes born w (t ∷ ts) zero s cs at =
    let same = some_same t s at in
    let it : nat_eq (last_life t.lives.items) (last_life s.lives.items) ≡ true = eq-eqb (last_life t.lives.items) (last_life s.lives.items) (ap (λ (x : Slot). last_life x.lives.items) same) in
    ap (λ b. if b then Some t.name else name_in ts (last_life s.lives.items)) it ∙ ap (λ (x : Slot). Some x.name) same
named homes born w (t ∷ ts) (suc k) s cs at = by (nat_eq (last_life t.lives.items) (last_life s.lives.items)) refl (named homes born (w + 1) ts k s cs.1 at)
  where
    by : (b : Bool) → nat_eq (last_life t.lives.items) (last_life s.lives.items) ≡ b → name_in ts (last_life s.lives.items) ≡ Some s.name → (if b then Some t.name else name_in ts (last_life s.lives.items)) ≡ Some s.name
    by true e rest =
        let same : last_life t.lives.items ≡ last_life s.lives.items = grind (arith, nat_tests, e) in
        let two : w ≡ w + suc k = some_same w (w + suc k) (sym (home_of homes born w t.lives.items cs.0) ∙ ap (slice_get homes) same ∙ home_of homes born (w + suc k) s.lives.items (chain_at homes born w (t ∷ ts) (suc k) s cs at)) in
        absurd (omega (arith, two))
    by false e rest = rest
