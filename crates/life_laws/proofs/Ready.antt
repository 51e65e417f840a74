-- The widgets that are ready.
use Rattle.std.proofs.Common.{◌≡◌, ℕ, zero, suc, ◌+◌, ◌<◌, ◌≤◌, List, [], ◌∷◌, length, Bool, true, false, refl, sym, subst, arith, Some, get_or}
use Rattle.std.specs.Prelude.{slice_get, slice_index, nat_eq, if◌then◌else◌}
use Rattle.std.proofs.lemmas.Bool.{ne_eqb}
use Rattle.std.specs.List.Sorted.{IsStrictlyIncreasing}
use Rattle.life_laws.specs.Life.{Seen, ready}
use Rattle.life_laws.specs.Journal.{ready_from}

abbrev pub IsReadyAt : List Seen → ℕ → ℕ → Type 0
IsReadyAt ss v x = (i : ℕ) × (s : Seen) × (x ≡ v + i) × (slice_get ss i ≡ Some s) × (ready s ≡ true)

further : (s : Seen) (ss : List Seen) (v x : ℕ) → IsReadyAt ss (v + 1) x → IsReadyAt (s ∷ ss) v x
further s ss v x h = (suc h.0, h.1, omega (arith, h.2), h.3, h.4)

in_list : (b : Bool) (v : ℕ) (s : Seen) (ss : List Seen) (k x : ℕ) → ready s ≡ b → slice_get (if b then v ∷ ready_from (v + 1) ss else ready_from (v + 1) ss) k ≡ Some x → ((j : ℕ) → slice_get (ready_from (v + 1) ss) j ≡ Some x → IsReadyAt ss (v + 1) x) → IsReadyAt (s ∷ ss) v x
in_list true v s ss zero x e h f = let same : v ≡ x = cc in (0, s, omega arith, refl, e)
in_list true v s ss (suc k) x e h f = further s ss v x (f k h)
in_list false v s ss k x e h f = further s ss v x (f k h)

-- each of the list is ready
pub is_ready_at : (v : ℕ) (ss : List Seen) (k x : ℕ) → slice_get (ready_from v ss) k ≡ Some x → IsReadyAt ss v x
is_ready_at v [] k x h = cc
is_ready_at v (s ∷ ss) k x h = in_list (ready s) v s ss k x refl h (λ j g. is_ready_at (v + 1) ss j x g)

get_some : (xs : List ℕ) (k : ℕ) → k < length xs → slice_get xs k ≡ Some (slice_index xs k)
get_some [] k h = absurd (omega arith)
get_some (x ∷ xs) zero h = refl
get_some (x ∷ xs) (suc k) h = get_some xs k (omega arith)

bound : (v : ℕ) (ss : List Seen) (k : ℕ) → k < length (ready_from v ss) → v ≤ slice_index (ready_from v ss) k
bound v ss k h = let at = is_ready_at v ss k (slice_index (ready_from v ss) k) (get_some (ready_from v ss) k h) in omega (arith, at.2)

rise_in : (b : Bool) (v : ℕ) (ss : List Seen) → IsStrictlyIncreasing (ready_from (v + 1) ss) → IsStrictlyIncreasing (if b then v ∷ ready_from (v + 1) ss else ready_from (v + 1) ss)
rise_in false v ss h = h
rise_in true v ss h = λ k l. by k l
  where
    by : (k : ℕ) → k + 1 < length (v ∷ ready_from (v + 1) ss) → slice_index (v ∷ ready_from (v + 1) ss) k < slice_index (v ∷ ready_from (v + 1) ss) (k + 1)
    by zero l = let b = bound (v + 1) ss 0 (omega arith) in omega arith
    by (suc k) l = let g = h k (omega arith) in let P : ℕ → Type 0 = λ n. slice_index (ready_from (v + 1) ss) k < slice_index (v ∷ ready_from (v + 1) ss) n in subst P (let e : suc (k + 1) ≡ suc k + 1 = omega arith in e) g

pub rises : (v : ℕ) (ss : List Seen) → IsStrictlyIncreasing (ready_from v ss)
rises v [] = λ k l. absurd (omega arith)
rises v (s ∷ ss) = rise_in (ready s) v ss (rises (v + 1) ss)

get_within : (ss : List Seen) (i : ℕ) (s : Seen) → slice_get ss i ≡ Some s → i < length ss
get_within [] i s e = cc
get_within (x ∷ ss) zero s e = omega arith
get_within (x ∷ ss) (suc i) s e = let k : i < length ss = get_within ss i s e in omega arith

pub below_length : (ss : List Seen) (k x : ℕ) → slice_get (ready_from 0 ss) k ≡ Some x → x < length ss
below_length ss k x h = let at = is_ready_at 0 ss k x h in let w = get_within ss at.0 at.1 at.3 in omega (arith, at.2)

pub empty_of : (xs : List ℕ) (n : ℕ) (b : Bool) → b ≡ nat_eq n 0 → b ≡ true → n ≡ length xs → xs ≡ []
empty_of [] n b e f h = refl
empty_of (x ∷ xs) n b e f h = let g : nat_eq n 0 ≡ false = ne_eqb n 0 (λ z. absurd (omega arith)) in cc

get_read : (xs : List ℕ) (k d : ℕ) → k < length xs → slice_get xs k ≡ Some (get_or xs k d)
get_read [] k d h = absurd (omega arith)
get_read (x ∷ xs) zero d h = refl
get_read (x ∷ xs) (suc k) d h = get_read xs k d (omega arith)

pub rises_as : (ss : List Seen) (xs : List ℕ) → xs ≡ ready_from 0 ss → IsStrictlyIncreasing xs
rises_as ss xs e = let P : List ℕ → Type 0 = λ ys. IsStrictlyIncreasing ys in subst P (sym e) (rises 0 ss)
