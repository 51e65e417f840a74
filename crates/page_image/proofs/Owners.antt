-- The same owners give the same own nodes and numbers.
use Rattle.std.proofs.Common.{◌≡◌, ℕ, suc, ◌+◌, List, [], ◌∷◌, ◌++◌, refl, ap, ◌∙◌, map, length, cond, arith}
use Rattle.std.specs.List.{fold}
use Rattle.code_units.specs.declared.owner.Owner.TheVariants as owner
use Rattle.page_nodes.specs.Entries.{Entry, at}
use Rattle.page_nodes.specs.Owners.{same_owner}
use Rattle.page_tree.specs.Counts.{count_of}
use Rattle.page_image.specs.Own.{own_number, own_nodes_from}
use Rattle.page_image.proofs.Numbers.{number_kept}

pub fold_last : {A B : Type 0} (f : A → B → A) (z : A) (xs : List B) (x : B) → fold f z (xs ++ x ∷ []) ≡ f (fold f z xs) x
fold_last f z [] x = refl
fold_last f z (y ∷ xs) x = fold_last f (f z y) xs x

pub map_last : (f : ℕ → ℕ) (xs : List ℕ) (x : ℕ) → map f (xs ++ x ∷ []) ≡ map f xs ++ f x ∷ []
map_last f [] x = refl
map_last f (y ∷ xs) x = ap (λ l. f y ∷ l) (map_last f xs x)

-- the same owners give the same own numbers and own nodes
pub numbers_same : (k m : List Entry) (w : ℕ) → length m ≡ length k → ((x : ℕ) → (at m x).owner ≡ (at k x).owner) → own_number m w ≡ own_number k w
numbers_same k m w e h = λ i n. number_kept k m w e h n i

pub own_nodes_same : (k m : List Entry) (w a : ℕ) → length m ≡ length k → ((x : ℕ) → (at m x).owner ≡ (at k x).owner) → own_nodes_from a m w ≡ own_nodes_from a k w
own_nodes_same [] [] w a e h = refl
own_nodes_same [] (c ∷ m) w a e h = absurd (omega (arith, e))
own_nodes_same (d ∷ k) [] w a e h = absurd (omega (arith, e))
own_nodes_same (d ∷ k) (c ∷ m) w a e h =
    ap (λ o. cond (same_owner o (owner.Widget w)) (a ∷ own_nodes_from (a + 1) m w) (own_nodes_from (a + 1) m w)) (h 0)
    ∙ ap (λ l. cond (same_owner d.owner (owner.Widget w)) (a ∷ l) l) (own_nodes_same k m w (a + 1) (omega (arith, e)) (λ x. h (suc x)))

pub count_same : (k m : List Entry) (w : ℕ) → length m ≡ length k → ((x : ℕ) → (at m x).owner ≡ (at k x).owner) → count_of (owner.Widget w) m ≡ count_of (owner.Widget w) k
count_same [] [] w e h = refl
count_same [] (c ∷ m) w e h = absurd (omega (arith, e))
count_same (d ∷ k) [] w e h = absurd (omega (arith, e))
count_same (d ∷ k) (c ∷ m) w e h =
    ap (λ o. cond (same_owner o (owner.Widget w)) 1 0 + count_of (owner.Widget w) m) (h 0)
    ∙ ap (λ n. cond (same_owner d.owner (owner.Widget w)) 1 0 + n) (count_same k m w (omega (arith, e)) (λ x. h (suc x)))
