-- What the cells that a line needs tell of it.
use Rattle.std.proofs.Common.{◌≡◌, ℕ, suc, ◌+◌, ◌^◌, ◌≤◌, max, Bool, true, false, ◌&&◌, ◌||◌, List, [], ◌∷◌, ◌++◌, map, refl, sym, ◌∙◌, arith, Option, Some, None, nat_lt, lt-ltb, if◌then◌else◌}
use Rattle.std.specs.Prelude.{not, option_map}
use Rattle.std.specs.Str.{bytes_eq}
use Rattle.std.proofs.lemmas.Bool.Decides.{nat_tests}
use Rattle.reach_cert.specs.declared.cert.Ref.{Ref}
use Rattle.reach_cert.specs.declared.cert.Ref.TheVariants.{Host, Raw, Global, Cell}
use Rattle.reach_cert.specs.Certs.{Row}
use Rattle.reach_cert.specs.Needs.{needed, all_needed, row_needed}
use Rattle.reach_cert.specs.Walks.{leaves, some_leaves}

-- ## What was told of a word or a text

pub mapped_some : {A : Type 0} (f : A → ℕ) (o : Option A) (n : ℕ) → Some n ≡ option_map f o → (x : A) × (Some x ≡ o) × (n ≡ f x)
mapped_some f None n e = cc
mapped_some f (Some x) n e = (x, refl, cc)

pub mapped_none : {A : Type 0} (f : A → ℕ) (o : Option A) → None ≡ option_map f o → None ≡ o
mapped_none f None e = refl
mapped_none f (Some x) e = cc

pub needed_more : (name : List ℕ) (front : List Ref) (ref : Ref) → all_needed name (front ++ ref ∷ []) ≡ max (needed name ref) (all_needed name front)
needed_more name [] ref = refl
needed_more name (r ∷ front) ref = omega (arith, needed_more name front ref)

-- ## What a need tells

module _ (name : List ℕ) (count : ℕ) (few : count ≤ 2 ^ 32) where
  never : true ≡ nat_lt count (2 ^ 32 + 1)
  never = sym (lt-ltb count (2 ^ 32 + 1) (omega (arith, few)))

  ref_leaves : (ref : Ref) → leaves name count ref ≡ nat_lt count (needed name ref)
  ref_leaves Host = grind (arith, nat_tests)
  ref_leaves Raw = never
  ref_leaves Global = never
  ref_leaves (Cell other number) = by (bytes_eq other name)
    where
      by : (b : Bool) → not (b && nat_lt number count) ≡ nat_lt count (if b then suc number else 2 ^ 32 + 1)
      by true = grind (arith, nat_tests)
      by false = never

  pub refs_leave : (refs : List Ref) → some_leaves name count refs ≡ nat_lt count (all_needed name refs)
  refs_leave [] = grind (arith, nat_tests)
  refs_leave (ref ∷ refs) = (λ i. ref_leaves ref i || refs_leave refs i) ∙ either (needed name ref) (all_needed name refs)
    where
      either : (a b : ℕ) → (nat_lt count a || nat_lt count b) ≡ nat_lt count (max a b)
      either a b = grind (arith, nat_tests)

  pub rows_leave : (rows : List Row) → map (λ row. some_leaves name count row.refs) rows ≡ map (nat_lt count) (map (row_needed name) rows)
  rows_leave [] = refl
  rows_leave (row ∷ rows) = (λ i. refs_leave row.refs i ∷ rows_leave rows i)
