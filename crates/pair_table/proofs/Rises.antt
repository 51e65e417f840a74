-- Numbers that tell their places.
use Rattle.std.proofs.Common.{◌≡◌, ℕ, zero, suc, ◌+◌, ◌-◌, ◌<◌, ◌≤◌, List, [], ◌∷◌, ◌++◌, length, get_or, drop, min, remove, refl, sym, ap, ◌∙◌, Some, None, arith, Bool, true, false, eqb, cond, not, nat_lt, slice_get, position}
use Rattle.std.specs.Cmp.{nat_eq_equiv}
use Rattle.std.specs.List.{IsDistinct, position_or_len}
use Rattle.std.specs.Map.{keys_of}
use Rattle.std.specs.Option.{option_map}
use Rattle.std.proofs.lemmas.Bool.Decides.{nat_tests}
use Rattle.std.proofs.lemmas.List.{length-drop}
use Rattle.std.proofs.lemmas.Map.Entries.{length-keys_of}
use Rattle.indexmap.proofs.MapLemmas.{index-first}
use Rattle.indexmap.proofs.RemoveLemmas.{own_first}
use Rattle.pair_table.specs.Rising.{AreNear, IsNoneBefore, IsRising}
use Rattle.pair_table.proofs.Places.{none_differ, same_number}

none_some : {X : Type 0} {x : X} → None ≡ Some x → ⊥
none_some e = cc

pub some_same : {X : Type 0} (x y : X) → Some x ≡ Some y → x ≡ y
some_same x y e = cc

-- the pair whose number stands at a place
key_at : {X : Type 0} (es : List (ℕ × X)) (p n : ℕ) → slice_get (keys_of es) p ≡ Some n → (v : X) × (slice_get es p ≡ Some (n, v))
key_at [] p n at = absurd (none_some at)
key_at (e ∷ es) zero n at = (e.1, ap (λ m. Some (m, e.1)) (some_same e.0 n at))
key_at (e ∷ es) (suc p) n at = key_at es p n at

-- a number that stands at a place stands nowhere else
pub place_at : {X : Type 0} (es : List (ℕ × X)) (p n : ℕ) → IsDistinct eqb (keys_of es) → slice_get (keys_of es) p ≡ Some n → position (eqb n) (keys_of es) ≡ Some p
place_at es p n h at =
    let pair = key_at es p n at in
    index-first (eqb n) es p (own_first eqb nat_eq_equiv es p n pair.0 h pair.1)

shifted : (a b u : ℕ) → nat_lt (u + a) (u + b) ≡ nat_lt a b
shifted a b u = by (nat_lt a b) refl (nat_lt (u + a) (u + b)) refl
  where
    by : (s : Bool) → nat_lt a b ≡ s → (t : Bool) → nat_lt (u + a) (u + b) ≡ t → nat_lt (u + a) (u + b) ≡ nat_lt a b
    by true e true f = f ∙ sym e
    by false e false f = f ∙ sym e
    by true e false f = absurd (grind (arith, nat_tests, e, f))
    by false e true f = absurd (grind (arith, nat_tests, e, f))

-- a number that does not stand before a place is looked for from it on
or_len_behind : (n : ℕ) (ks : List ℕ) (upto : ℕ) → upto ≤ length ks → IsNoneBefore upto n ks → position_or_len (eqb n) ks ≡ upto + position_or_len (eqb n) (drop upto ks)
or_len_behind n ks zero le none = omega arith
or_len_behind n [] (suc u) le none = absurd (omega (arith, le))
or_len_behind n (k ∷ ks) (suc u) le none = by (or_len_behind n ks u (omega (arith, le)) (λ p lt at. none (suc p) (omega (arith, lt)) at)) (eqb n k) refl
  where
    by : position_or_len (eqb n) ks ≡ u + position_or_len (eqb n) (drop u ks) → (b : Bool) → eqb n k ≡ b → cond (not (eqb n k)) (1 + position_or_len (eqb n) ks) 0 ≡ suc u + position_or_len (eqb n) (drop u ks)
    by rest true e = absurd (none zero (omega arith) (ap (λ m. Some m) (sym (same_number n k e))))
    by rest false e = ap (λ b. cond (not b) (1 + position_or_len (eqb n) ks) 0) e ∙ (omega (arith, rest))

pub from_behind : (n : ℕ) (ks : List ℕ) (upto : ℕ) → upto ≤ length ks → IsNoneBefore upto n ks → position (eqb n) ks ≡ option_map (λ i. upto + i) (position (eqb n) (drop upto ks))
from_behind n ks upto le none =
    (λ j. cond (nat_lt (at j) (long j)) (Some (at j)) None)
    ∙ ap (λ t. cond t (Some (upto + a)) None) (shifted a (length (drop upto ks)) upto)
    ∙ by (nat_lt a (length (drop upto ks)))
  where
    a : ℕ
    a = position_or_len (eqb n) (drop upto ks)

    at : position_or_len (eqb n) ks ≡ upto + position_or_len (eqb n) (drop upto ks)
    at = or_len_behind n ks upto le none

    long : length ks ≡ upto + length (drop upto ks)
    long = omega (arith, length-drop upto ks, le)

    by : (t : Bool) → cond t (Some (upto + position_or_len (eqb n) (drop upto ks))) None ≡ option_map (λ i. upto + i) (cond t (Some (position_or_len (eqb n) (drop upto ks))) None)
    by true = refl
    by false = refl

pub keys_drop : {X : Type 0} (upto : ℕ) (es : List (ℕ × X)) → keys_of (drop upto es) ≡ drop upto (keys_of es)
keys_drop zero es = refl
keys_drop (suc u) [] = refl
keys_drop (suc u) (e ∷ es) = keys_drop u es

keys_remove : {X : Type 0} (es : List (ℕ × X)) (i : ℕ) → keys_of (remove es i) ≡ remove (keys_of es) i
keys_remove [] zero = refl
keys_remove [] (suc i) = refl
keys_remove (e ∷ es) zero = refl
keys_remove (e ∷ es) (suc i) = ap (λ l. e.0 ∷ l) (keys_remove es i)

length_removed : (ks : List ℕ) (i : ℕ) → i < length ks → suc (length (remove ks i)) ≡ length ks
length_removed [] i lt = absurd (omega (arith, lt))
length_removed (k ∷ ks) zero lt = refl
length_removed (k ∷ ks) (suc i) lt = ap suc (length_removed ks i (omega (arith, lt)))

get_before : (ks ys : List ℕ) (p : ℕ) → p < length ks → slice_get (ks ++ ys) p ≡ slice_get ks p
get_before [] ys p lt = absurd (omega (arith, lt))
get_before (k ∷ ks) ys zero lt = refl
get_before (k ∷ ks) ys (suc p) lt = get_before ks ys p (omega (arith, lt))

get_last : (ks : List ℕ) (k : ℕ) → slice_get (ks ++ k ∷ []) (length ks) ≡ Some k
get_last [] k = refl
get_last (x ∷ ks) k = get_last ks k

get_removed : (ks : List ℕ) (i p : ℕ) → p < i → slice_get (remove ks i) p ≡ slice_get ks p
get_removed [] zero p lt = refl
get_removed [] (suc i) p lt = refl
get_removed (k ∷ ks) zero p lt = absurd (omega (arith, lt))
get_removed (k ∷ ks) (suc i) zero lt = refl
get_removed (k ∷ ks) (suc i) (suc p) lt = get_removed ks i p (omega (arith, lt))

-- nothing is asked of the places
pub rising_any : (ks : List ℕ) → IsDistinct eqb ks → IsRising 0 ks
rising_any ks h = record {
  differ = h;
  within = omega arith;
  near = λ p n lt at. absurd (omega (arith, lt));
}

pub rising_none : {X : Type 0} (es : List (ℕ × X)) → es ≡ [] → IsRising 0 (keys_of es)
rising_none es e = rising_any (keys_of es) (none_differ es e)

-- one number more
pub rising_more : (upto more : ℕ) (ks : List ℕ) (k : ℕ) → IsRising upto ks → IsDistinct eqb (ks ++ k ∷ []) → length (ks ++ k ∷ []) ≡ length ks + 1 → more ≤ length ks + 1
    → ((p : ℕ) → p < more → upto ≤ p → k - 1 ≡ p) → ((p : ℕ) → p < more → upto ≤ p → p ≡ length ks) → IsRising more (ks ++ k ∷ [])
rising_more upto more ks k is h long within tells last = record {
  differ = h;
  within = omega (arith, long, within);
  near = λ p n lt at. by p n lt at (nat_lt p upto) refl;
}
  where
    by : (p n : ℕ) → p < more → slice_get (ks ++ k ∷ []) p ≡ Some n → (t : Bool) → nat_lt p upto ≡ t → n - 1 ≡ p
    by p n lt at true e =
        let low : p < upto = grind (arith, nat_tests, e) in
        is.near p n low (sym (get_before ks (k ∷ []) p (omega (arith, low, is.within))) ∙ at)
    by p n lt at false e =
        let high : upto ≤ p = grind (arith, nat_tests, e) in
        let same : k ≡ n = some_same k n (sym (get_last ks k) ∙ ap (λ q. slice_get (ks ++ k ∷ []) q) (sym (last p lt high)) ∙ at) in
        ap (λ m. m - 1) (sym same) ∙ tells p lt high

-- one number less
pub rising_less : {X : Type 0} (upto i : ℕ) (es : List (ℕ × X)) → IsRising upto (keys_of es) → IsDistinct eqb (keys_of (remove es i)) → i < length (keys_of es) → IsRising (min upto i) (keys_of (remove es i))
rising_less upto i es is h lt = record {
  differ = h;
  within = omega (arith, lt, length_removed (keys_of es) i lt, ap length (keys_remove es i));
  near = λ p n low at. is.near p n (omega (arith, low)) (sym (get_removed (keys_of es) i p (omega (arith, low))) ∙ ap (λ l. slice_get l p) (sym (keys_remove es i)) ∙ at);
}

-- ## Whether all stand where they tell

pub key_get : {X : Type 0} (es : List (ℕ × X)) (p : ℕ) (d : ℕ × X) → p < length es → slice_get (keys_of es) p ≡ Some (get_or es p d).0
key_get [] p d lt = absurd (omega (arith, lt))
key_get (e ∷ es) zero d lt = refl
key_get (e ∷ es) (suc p) d lt = key_get es p d (omega (arith, lt))

pub near_next : {X : Type 0} (es : List (ℕ × X)) (upto : ℕ) (d : ℕ × X) → AreNear upto (keys_of es) → upto < length es → (get_or es upto d).0 - 1 ≡ upto → AreNear (upto + 1) (keys_of es)
near_next es upto d near within tells = λ p n lt at. by p n lt at (nat_lt p upto) refl
  where
    by : (p n : ℕ) → p < upto + 1 → slice_get (keys_of es) p ≡ Some n → (t : Bool) → nat_lt p upto ≡ t → n - 1 ≡ p
    by p n lt at true e = near p n (grind (arith, nat_tests, e)) at
    by p n lt at false e =
        let here : upto ≡ p = grind (arith, nat_tests, e, lt) in
        let same : (get_or es upto d).0 ≡ n = some_same _ n (sym (key_get es upto d within) ∙ ap (λ q. slice_get (keys_of es) q) here ∙ at) in
        ap (λ m. m - 1) (sym same) ∙ tells ∙ here

pub near_all : (ks : List ℕ) (m n : ℕ) → n ≤ m → AreNear m ks → AreNear n ks
near_all ks m n le near = λ p k lt at. near p k (omega (arith, lt, le)) at

pub near_none : (ks : List ℕ) → AreNear 0 ks
near_none ks = λ p n lt at. absurd (omega (arith, lt))

-- a list of which all do
pub rising_all : {X : Type 0} (es : List (ℕ × X)) → IsDistinct eqb (keys_of es) → AreNear (length es) (keys_of es) → IsRising (length es) (keys_of es)
rising_all es h near = record {
  differ = h;
  within = omega (arith, length-keys_of es);
  near = near;
}

pub not_same : (k n : ℕ) → eqb k n ≡ false → k ≡ n → ⊥
not_same k n e same = grind (arith, nat_tests, e, same)

pub false_true : false ≡ true → ⊥
false_true e = cc
