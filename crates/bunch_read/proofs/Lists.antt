-- Lists of nodes that a loop goes over.
use Rattle.std.proofs.Common.{◌≡◌, ℕ, ◌+◌, List, [], ◌∷◌, ◌++◌, Bool, true, false, refl, ap, eqb, Option, None, Some, if◌then◌else◌, ◌||◌}
use Rattle.std.specs.Prelude.{option_to_list}
use Rattle.std.specs.List.{cons_option, filter, filter_map}
use Rattle.query_grammar.specs.Finds.{has_number}
use Rattle.widget_meaning.specs.PageForms.{once}
pub use Rattle.native_image.proofs.Lists.{all_not, element_in, has_own, map_push, mapped_one, mapped_whole, open_more, take_one, take_whole}

no_true : false ≡ true → ⊥
no_true e = cc

second : (a b : Bool) → b ≡ true → (a || b) ≡ true
second true b e = refl
second false b e = e

-- ## What passes, what is there

pub filter_push : (p : ℕ → Bool) (xs : List ℕ) (y : ℕ) → filter p (xs ++ y ∷ []) ≡ filter p xs ++ (if p y then y ∷ [] else [])
filter_push p [] y = refl
filter_push p (x ∷ xs) y = by (p x) (filter_push p xs y)
  where
    by : (b : Bool) → filter p (xs ++ y ∷ []) ≡ filter p xs ++ (if p y then y ∷ [] else []) → (if b then x ∷ filter p (xs ++ y ∷ []) else filter p (xs ++ y ∷ [])) ≡ (if b then x ∷ filter p xs else filter p xs) ++ (if p y then y ∷ [] else [])
    by true h = ap (λ l. x ∷ l) h
    by false h = h

pub found_push : (q : ℕ → Option ℕ) (xs : List ℕ) (y : ℕ) → filter_map q (xs ++ y ∷ []) ≡ filter_map q xs ++ option_to_list (q y)
found_push q [] y = by (q y)
  where
    by : (o : Option ℕ) → cons_option o [] ≡ option_to_list o
    by None = refl
    by (Some z) = refl
found_push q (x ∷ xs) y = by (q x) (found_push q xs y)
  where
    by : (o : Option ℕ) → filter_map q (xs ++ y ∷ []) ≡ filter_map q xs ++ option_to_list (q y) → cons_option o (filter_map q (xs ++ y ∷ [])) ≡ cons_option o (filter_map q xs) ++ option_to_list (q y)
    by None h = h
    by (Some z) h = ap (λ l. z ∷ l) h

-- ## Each once

pub once_push : (seen xs : List ℕ) (y : ℕ) → once seen (xs ++ y ∷ []) ≡ (if has_number (once seen xs) y then once seen xs else once seen xs ++ y ∷ [])
once_push seen [] y = refl
once_push seen (x ∷ xs) y = by (has_number seen x) (once_push seen xs y) (once_push (seen ++ x ∷ []) xs y)
  where
    by : (b : Bool) → once seen (xs ++ y ∷ []) ≡ (if has_number (once seen xs) y then once seen xs else once seen xs ++ y ∷ []) → once (seen ++ x ∷ []) (xs ++ y ∷ []) ≡ (if has_number (once (seen ++ x ∷ []) xs) y then once (seen ++ x ∷ []) xs else once (seen ++ x ∷ []) xs ++ y ∷ []) → (if b then once seen (xs ++ y ∷ []) else once (seen ++ x ∷ []) (xs ++ y ∷ [])) ≡ (if has_number (if b then once seen xs else once (seen ++ x ∷ []) xs) y then (if b then once seen xs else once (seen ++ x ∷ []) xs) else (if b then once seen xs else once (seen ++ x ∷ []) xs) ++ y ∷ [])
    by true h g = h
    by false h g = g

pub has_push : (xs : List ℕ) (y n : ℕ) → has_number (xs ++ y ∷ []) n ≡ (has_number xs n || eqb n y)
has_push [] y n = or_false (eqb n y)
  where
    or_false : (b : Bool) → (b || false) ≡ b
    or_false true = refl
    or_false false = refl
has_push (x ∷ xs) y n = by (eqb n x) (has_push xs y n)
  where
    by : (b : Bool) → has_number (xs ++ y ∷ []) n ≡ (has_number xs n || eqb n y) → (b || has_number (xs ++ y ∷ []) n) ≡ ((b || has_number xs n) || eqb n y)
    by true h = refl
    by false h = h
