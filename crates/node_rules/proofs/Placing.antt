-- Names at their places, one after the other.
use Rattle.std.proofs.Common.{◌≡◌, ℕ, zero, suc, ◌+◌, ◌<◌, ◌≤◌, List, [], ◌∷◌, ◌++◌, refl, sym, ap, ◌∙◌, subst, arith, length, get_or, take, add-one, Option}
use Rattle.std.specs.Prelude.{map, drop, slice_index_or}
use Rattle.std.proofs.lemmas.List.{take_more, take_all}
use Rattle.first_breach.specs.declared.Breach.{Breach}
use Rattle.first_breach.specs.Breaches.{Nothing, Each}
use Rattle.first_breach.specs.Narrowing.{Narrows}
use Rattle.first_breach.proofs.Narrowing.{each_none, each_one, each_both, each_more}
use Rattle.first_breach.proofs.Members.{map_append}
use Rattle.node_rules.specs.Names.{Named, named, placed}

placed_more : (at : ℕ) (places : List ℕ) (xs : List (List ℕ)) (i : ℕ) (x : List ℕ) → i < length xs → x ≡ get_or xs i x → placed at places (take (suc i) xs) ≡ placed at places (take i xs) ++ named x (slice_index_or places i at) ∷ []
placed_more at places [] i x lt is = absurd (omega arith)
placed_more at [] (y ∷ ys) zero x lt is = ap (λ t. named t at ∷ []) (sym is)
placed_more at (p ∷ places) (y ∷ ys) zero x lt is = ap (λ t. named t p ∷ []) (sym is)
placed_more at [] (y ∷ ys) (suc i) x lt is = ap (λ l. named y at ∷ l) (placed_more at [] ys i x (omega arith) is)
placed_more at (p ∷ places) (y ∷ ys) (suc i) x lt is = ap (λ l. named y p ∷ l) (placed_more at places ys i x (omega arith) is)

module _ (Row : Named → ℕ → ℕ → Type 0) (a b c : Option Breach) where
  pub placed_step : (at : ℕ) (places : List ℕ) (xs : List (List ℕ)) (i place : ℕ) (x : List ℕ) → i < length xs → x ≡ get_or xs i x → place ≡ slice_index_or places i at → Narrows (Each Row (placed at places (take i xs))) a Nothing b → Narrows (Row (named x place)) b Nothing c → Narrows (Each Row (placed at places (take (i + 1) xs))) a Nothing c
  placed_step at places xs i place x lt is e s t =
      subst (λ l. Narrows (Each Row l) a Nothing c) (sym (ap (λ n. placed at places (take n xs)) (add-one i) ∙ placed_more at places xs i x lt is))
      (each_more Row (placed at places (take i xs)) (named x (slice_index_or places i at)) a b c s (subst (λ p. Narrows (Row (named x p)) b Nothing c) e t))

  pub map_step : {A : Type 0} (to : A → Named) (xs : List A) (i : ℕ) (x : A) → i < length xs → x ≡ get_or xs i x → Narrows (Each Row (map to (take i xs))) a Nothing b → Narrows (Row (to x)) b Nothing c → Narrows (Each Row (map to (take (i + 1) xs))) a Nothing c
  map_step to xs i x lt is s t =
      let e : map to (take (i + 1) xs) ≡ map to (take i xs) ++ to x ∷ [] = ap (map to) (take_more xs i x lt ∙ ap (λ y. take i xs ++ y ∷ []) (sym is)) ∙ map_append to (take i xs) (x ∷ []) in
      subst (λ l. Narrows (Each Row l) a Nothing c) (sym e) (each_more Row (map to (take i xs)) (to x) a b c s t)

-- at the end of a loop
pub all_taken : {A : Type 0} (P : List A → Type 0) (xs : List A) (i : ℕ) → length xs ≤ i → P (take i xs) → P xs
all_taken P xs i h p = subst P (take_all i xs h) p

-- of the first parts of pairs
pub firsts_at : {A B : Type 0} (xs : List (A × B)) (i : ℕ) (x : A × B) → x ≡ get_or xs i x → i < length xs → x.0 ≡ get_or (map (λ p. p.0) xs) i x.0
firsts_at [] i x is lt = absurd (omega arith)
firsts_at (y ∷ ys) zero x is lt = ap (λ p. p.0) is
firsts_at (y ∷ ys) (suc i) x is lt = firsts_at ys i x is (omega arith)

pub firsts_length : {A B : Type 0} (xs : List (A × B)) → length (map (λ p. p.0) xs) ≡ length xs
firsts_length [] = refl
firsts_length (x ∷ xs) = ap suc (firsts_length xs)

-- the first name by itself
first_placed : (at : ℕ) (places : List ℕ) (x : List ℕ) (xs : List (List ℕ)) → placed at places (x ∷ xs) ≡ (named x (slice_index_or places 0 at) ∷ []) ++ placed at (drop 1 places) xs
first_placed at [] x xs = refl
first_placed at (p ∷ places) x xs = refl

pub placed_first : (Row : Named → ℕ → ℕ → Type 0) (a b c : Option Breach) (at : ℕ) (places rest : List ℕ) (xs : List (List ℕ)) (x : List ℕ) (place : ℕ) → place ≡ slice_index_or places 0 at → rest ≡ drop 1 places → Narrows (Row (named x place)) a Nothing b → Narrows (Each Row (placed at rest xs)) b Nothing c → Narrows (Each Row (placed at places (x ∷ xs))) a Nothing c
placed_first Row a b c at places rest xs x place e d s t =
    subst (λ l. Narrows (Each Row l) a Nothing c) (sym (first_placed at places x xs))
    (each_both Row (named x (slice_index_or places 0 at) ∷ []) (placed at (drop 1 places) xs) a b c
    (each_one Row (named x (slice_index_or places 0 at)) a b (subst (λ p. Narrows (Row (named x p)) a Nothing b) e s))
    (subst (λ l. Narrows (Each Row (placed at l xs)) b Nothing c) d t))

pub placed_one : (Row : Named → ℕ → ℕ → Type 0) (a b : Option Breach) (at : ℕ) (places x : List ℕ) (place : ℕ) → place ≡ slice_index_or places 0 at → Narrows (Row (named x place)) a Nothing b → Narrows (Each Row (placed at places (x ∷ []))) a Nothing b
placed_one Row a b at places x place e s = placed_first Row a b b at places (drop 1 places) [] x place e refl s (each_none Row b)
