-- What the writes of `detach` leave.
use Rattle.std.proofs.Common.{◌≡◌, ℕ, ◌<◌, List, refl, sym, ap, ◌∙◌, subst, eqb, arith, cond, eqb-true, Some, None, Option, length, set}
use Rattle.std.proofs.lemmas.Bool.{eqb-false}
use Rattle.std.proofs.lemmas.List.{length-set}
use Rattle.page_nodes.specs.Entries.{Entry, at, listed, minus, IsSound}
use Rattle.page_nodes.specs.Moves.{Detached}
use Rattle.page_nodes.proofs.Lists.{cases, at_set, minus_none}
use Rattle.page_nodes.proofs.Cut.{IsCut, cut_tree, cut_sound}
use Rattle.page_nodes.proofs.Upward.{parent_in}

pub keeps_field : {B : Type 0} (f : Entry → B) (k : List Entry) (i : ℕ) (x : Entry) → i < length k → f x ≡ f (at k i) → (j : ℕ) → f (at (set k i x) j) ≡ f (at k j)
keeps_field f k i x lt e j = ap f (at_set k i j x lt) ∙ cases (λ b. f (cond b x (at k j)) ≡ f (at k j)) (eqb j i) (λ h. e ∙ ap (λ y. f (at k y)) (sym (eqb-true j i h))) (λ _. refl)

pub sets_field : {B : Type 0} (f : Entry → B) (k : List Entry) (i : ℕ) (x : Entry) → i < length k → (j : ℕ) → f (at (set k i x) j) ≡ cond (eqb j i) (f x) (f (at k j))
sets_field f k i x lt j = ap f (at_set k i j x lt) ∙ cases (λ b. f (cond b x (at k j)) ≡ cond b (f x) (f (at k j))) (eqb j i) (λ _. refl) (λ _. refl)

pub unlisted : (k : List Entry) → IsSound k → (n x : ℕ) → ((at k n).parent ≡ Some x → ⊥) → minus n (at k x).children ≡ (at k x).children
unlisted k s n x nowhere = cases (λ b. listed n (at k x).children ≡ b → minus n (at k x).children ≡ (at k x).children) (listed n (at k x).children) (λ h _. absurd (nowhere (s.down x n h))) (λ h _. minus_none n (at k x).children h) refl

some_same : (a b : ℕ) → Some a ≡ Some b → a ≡ b
some_same a b h = cc

none_no : (b : ℕ) → ◌≡◌ {A = Option ℕ} None (Some b) → ⊥
none_no b h = cc

-- the two nodes as written
abbrev pub taken : List Entry → ℕ → ℕ → List Entry
taken k p n = set k p (record (at k p) { children = minus n (at k p).children })

abbrev pub raised : List Entry → ℕ → List Entry
raised k n = set k n (record (at k n) { parent = None })

pub length_cut : (k : List Entry) (n p : ℕ) → length (raised (taken k p n) n) ≡ length k
length_cut k n p = length-set (taken k p n) n _ ∙ length-set k p _

pub cut_written : (k : List Entry) → IsSound k → (n p : ℕ) → p < length k → n < length k → (at k n).parent ≡ Some p → IsCut k (raised (taken k p n) n) n
cut_written k s n p pin nin u =
    let nin2 : n < length (taken k p n) = omega (arith, length-set k p (record (at k p) { children = minus n (at k p).children })) in
    record {
      length = length_cut k n p;
      labels = λ x. keeps_field (λ (y : Entry). y.label) (taken k p n) n _ nin2 refl x ∙ keeps_field (λ (y : Entry). y.label) k p _ pin refl x;
      owners = λ x. keeps_field (λ (y : Entry). y.owner) (taken k p n) n _ nin2 refl x ∙ keeps_field (λ (y : Entry). y.owner) k p _ pin refl x;
      children = λ x. keeps_field (λ (y : Entry). y.children) (taken k p n) n _ nin2 refl x ∙ sets_field (λ (y : Entry). y.children) k p _ pin x
          ∙ cases (λ b. cond b (minus n (at k p).children) (at k x).children ≡ minus n (at k x).children) (eqb x p) (λ h. ap (λ y. minus n (at k y).children) (sym (eqb-true x p h))) (λ h. sym (unlisted k s n x (λ v. eqb-false x p h (some_same x p (sym v ∙ u)))));
      parents = λ x. sets_field (λ (y : Entry). y.parent) (taken k p n) n _ nin2 x ∙ ap (λ o. cond (eqb x n) None o) (keeps_field (λ (y : Entry). y.parent) k p _ pin refl x);
    }

pub cut_none : (k : List Entry) → IsSound k → (n : ℕ) → (at k n).parent ≡ None → IsCut k k n
cut_none k s n u = record {
  length = refl;
  labels = λ x. refl;
  owners = λ x. refl;
  children = λ x. sym (unlisted k s n x (λ v. none_no x (sym u ∙ v)));
  parents = λ x. cases (λ b. (at k x).parent ≡ cond b None (at k x).parent) (eqb x n) (λ h. ap (λ y. (at k y).parent) (eqb-true x n h) ∙ u) (λ _. refl);
}

pub detached : (k m : List Entry) (n : ℕ) → IsSound k → IsCut k m n → Detached k m n
detached k m n s c = record { trees = cut_tree k m n s c; parents = c.parents; kept = record { made = c.length; labels = c.labels; owners = c.owners } }

-- the whole call
pub detach_written : (k : List Entry) → IsSound k → (n p : ℕ) (a m : List Entry) → n < length k → (at k n).parent ≡ Some p → a ≡ taken k p n → m ≡ raised a n → IsSound m × Detached k m n
detach_written k s n p a m nin u ea em =
    let c = cut_written k s n p (parent_in k s n p u) nin u in
    let e : raised (taken k p n) n ≡ m = sym (em ∙ ap (λ y. raised y n) ea) in
    subst (λ y. IsSound y × Detached k y n) e (cut_sound k _ n s c, detached k _ n s c)

pub detach_none : (k : List Entry) → IsSound k → (n : ℕ) → (at k n).parent ≡ None → Detached k k n
detach_none k s n u = detached k k n s (cut_none k s n u)
