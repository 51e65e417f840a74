-- Each line of the list is found in the rows.
use Rattle.std.proofs.Common.{◌≡◌, refl, ◌∙◌, ap, arith, ℕ, zero, suc, ◌-◌, ◌≤◌, nat_lt, true, List, [], ◌∷◌, map, get_or, drop, length, Option, Some, slice_index_or}
use Rattle.std.proofs.lemmas.List.Elements.{All-from_recursion}
use Rattle.std.specs.List.{All, AllByRecursion}
use Rattle.permitted_table.specs.declared.native.NativeId.{NativeId}
use Rattle.permitted_table.specs.Natives.{number_of}
use Rattle.native_paths.specs.Listed.{Line, listed}
use Rattle.native_paths.specs.Paths.{paths}

each : {B : Type 0} (f g : Line → B) (ls : List Line) → map f ls ≡ map g ls → AllByRecursion (λ l. f l ≡ g l) ls
each f g [] same = tt
each f g (l ∷ ls) same = (ap (λ xs. get_or xs 0 (g l)) same, each f g ls (ap (drop 1) same))

lines_are_found : (p : List ℕ) → map (λ l. slice_index_or paths (number_of l.1 - 1) p) listed ≡ map (λ l. l.0) listed
lines_are_found p = refl

lines_are_numbered : map (λ l. nat_lt 0 (number_of l.1)) listed ≡ map (λ l. true) listed
lines_are_numbered = refl

lines_are_below : map (λ l. number_of l.1 - length paths) listed ≡ map (λ l. 0) listed
lines_are_below = refl

-- the path at the number of a native is that of each of its lines
pub says : (n : NativeId) (p : List ℕ) → p ≡ slice_index_or paths (number_of n - 1) p → All (λ l. n ≡ l.1 → Some p ≡ Some l.0) listed
says n p is = All-from_recursion (λ l. n ≡ l.1 → Some p ≡ Some l.0) listed
    (along listed (each (λ l. slice_index_or paths (number_of l.1 - 1) p) (λ l. l.0) listed (lines_are_found p)))
  where
    along : (ls : List Line) → AllByRecursion (λ l. slice_index_or paths (number_of l.1 - 1) p ≡ l.0) ls → AllByRecursion (λ l. n ≡ l.1 → Some p ≡ Some l.0) ls
    along [] all = tt
    along (l ∷ ls) all = (λ e. ap Some (is ∙ (ap (λ m. slice_index_or paths (number_of m - 1) p) e ∙ all.0)), along ls all.1)

-- a native with the number 0 has no line
pub says_none : (n : NativeId) (p : Option (List ℕ)) → (1 ≤ number_of n → ⊥) → All (λ l. n ≡ l.1 → p ≡ Some l.0) listed
says_none n p none = All-from_recursion (λ l. n ≡ l.1 → p ≡ Some l.0) listed
    (along listed (each (λ l. nat_lt 0 (number_of l.1)) (λ l. true) listed lines_are_numbered))
  where
    below : (k : ℕ) → (1 ≤ k → ⊥) → nat_lt 0 k ≡ true → ⊥
    below zero bare e = cc
    below (suc k) bare e = bare (omega arith)

    along : (ls : List Line) → AllByRecursion (λ l. nat_lt 0 (number_of l.1) ≡ true) ls → AllByRecursion (λ l. n ≡ l.1 → p ≡ Some l.0) ls
    along [] all = tt
    along (l ∷ ls) all = (λ e. absurd (below (number_of n) none (ap (λ m. nat_lt 0 (number_of m)) e ∙ all.0)), along ls all.1)

-- nor has one with a number behind the rows
pub says_none_behind : (n : NativeId) (p : Option (List ℕ)) → length paths ≤ number_of n - 1 → All (λ l. n ≡ l.1 → p ≡ Some l.0) listed
says_none_behind n p behind = All-from_recursion (λ l. n ≡ l.1 → p ≡ Some l.0) listed
    (along listed (each (λ l. number_of l.1 - length paths) (λ l. 0) listed lines_are_below))
  where
    below : (k : ℕ) → k - 90 ≡ 0 → 90 ≤ k - 1 → ⊥
    below k e h = omega (arith, e, h)

    along : (ls : List Line) → AllByRecursion (λ l. number_of l.1 - length paths ≡ 0) ls → AllByRecursion (λ l. n ≡ l.1 → p ≡ Some l.0) ls
    along [] all = tt
    along (l ∷ ls) all = (λ e. absurd (below (number_of n) (ap (λ m. number_of m - length paths) e ∙ all.0) behind), along ls all.1)
