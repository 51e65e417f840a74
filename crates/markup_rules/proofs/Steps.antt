-- Loops, step by step.
use Rattle.std.proofs.Common.{◌≡◌, ℕ, ◌+◌, ◌<◌, ◌≤◌, List, [], ◌∷◌, ◌++◌, refl, sym, ap, ◌∙◌, subst, length, get_or, take, drop, Option, map, inl, inr}
use Rattle.std.proofs.lemmas.List.{take_more, take_all, at_drop_all, append-nil}
use Rattle.first_breach.specs.declared.Breach.{Breach}
use Rattle.std.specs.Prelude.{true, Result, Ok, Err, IfOk}
use Rattle.first_breach.specs.Breaches.{Nothing, Either, Each, If}
use Rattle.first_breach.specs.Narrowing.{Narrows}
use Rattle.first_breach.proofs.Narrowing.{each_more, narrows_as, narrows_both, narrows_then, narrows_beside}
use Rattle.first_breach.proofs.Members.{map_append}

pub piece_done : {A B : Type 0} (f : List A → List B) (xs : List A) (i : ℕ) (old all : List B) → f [] ≡ [] → length xs ≤ i → old ++ f (drop i xs) ≡ all → old ≡ all
piece_done f xs i old all e le inv = sym (append-nil old) ∙ ap (λ l. old ++ l) (sym e) ∙ ap (λ l. old ++ l) (sym (at_drop_all f xs i le)) ∙ inv

-- a search in one more of a list
module _ {A : Type 0} (Row : A → ℕ → ℕ → Type 0) (a b c : Option Breach) where
  pub each_step : (xs : List A) (i : ℕ) (x : A) → i < length xs → x ≡ get_or xs i x → Narrows (Each Row (take i xs)) a Nothing b → Narrows (Row x) b Nothing c → Narrows (Each Row (take (i + 1) xs)) a Nothing c
  each_step xs i x lt is s t =
      let e : take (i + 1) xs ≡ take i xs ++ x ∷ [] = take_more xs i x lt ∙ ap (λ y. take i xs ++ y ∷ []) (sym is) in
      subst (λ l. Narrows (Each Row l) a Nothing c) (sym e) (each_more Row (take i xs) x a b c s t)

  pub map_step : {B : Type 0} (to : B → A) (xs : List B) (i : ℕ) (x : B) → i < length xs → x ≡ get_or xs i x → Narrows (Each Row (map to (take i xs))) a Nothing b → Narrows (Row (to x)) b Nothing c → Narrows (Each Row (map to (take (i + 1) xs))) a Nothing c
  map_step to xs i x lt is s t =
      let e : map to (take (i + 1) xs) ≡ map to (take i xs) ++ to x ∷ [] = ap (map to) (take_more xs i x lt ∙ ap (λ y. take i xs ++ y ∷ []) (sym is)) ∙ map_append to (take i xs) (x ∷ []) in
      subst (λ l. Narrows (Each Row l) a Nothing c) (sym e) (each_more Row (map to (take i xs)) (to x) a b c s t)

-- at the end of a loop
pub all_taken : {A : Type 0} (P : List A → Type 0) (xs : List A) (i : ℕ) → length xs ≤ i → P (take i xs) → P xs
all_taken P xs i h p = subst P (take_all i xs h) p

-- two searches, the second first
pub narrows_swapped : {A B : ℕ → ℕ → Type 0} {a b c : Option Breach} → Narrows B a Nothing b → Narrows A b Nothing c → Narrows (Either A B) a Nothing c
narrows_swapped s t = narrows_as (narrows_both s t) (λ r p h. elim h [ inl i ↦ inr i | inr i ↦ inl i ]) (λ r p h. elim h [ inl i ↦ inr i | inr i ↦ inl i ])

-- a search of the first of two, where what remains is the second
pub narrows_next : {A B C : ℕ → ℕ → Type 0} {a b c : Option Breach} → Narrows C a (Either A B) b → Narrows A b Nothing c → Narrows C a B c
narrows_next {A} {B} {C} {a} {b} {c} s t = narrows_then s (narrows_beside {A = A} {B = B} {C = Either A B} t (λ r p h. h) (λ r p h. inl h) (λ r p h. inr h))

-- a test that is passed
pub narrows_sure : {A : ℕ → ℕ → Type 0} {a b : Option Breach} → Narrows (If true A) a Nothing b → Narrows A a Nothing b
narrows_sure s = narrows_as s (λ r p h. h.broken) (λ r p h. record { passed = refl; broken = h })

-- what follows of an answer
pub if_ok_then : {X E : Type 0} (r : Result X E) (P Q : X → Type 0) → ((x : X) → P x → Q x) → IfOk r P → IfOk r Q
if_ok_then (Ok x) P Q f h = f x h
if_ok_then (Err e) P Q f h = h
