-- The counts of nodes stay right.
use Rattle.std.proofs.Common.{◌≡◌, ℕ, zero, suc, ◌+◌, ◌<◌, ◌≤◌, List, [], ◌∷◌, Bool, true, false, refl, sym, ap, ◌∙◌, subst, arith, cond, length, set, get_or}
use Rattle.std.specs.Prelude.{replicate}
use Rattle.std.proofs.lemmas.Bool.{ltb-true}
use Rattle.std.proofs.lemmas.List.{length-set, get_or-set_same, get_or-set_other}
use Rattle.code_units.specs.declared.owner.Owner.{Owner}
use Rattle.code_units.specs.declared.owner.Owner.TheVariants as owner
use Rattle.plain_tree.specs.Trees.{PlainTrees, size}
use Rattle.page_nodes.specs.Owners.{is_owner, same_owner, slot}
use Rattle.page_nodes.specs.Entries.{Entry, at, body_entry}
use Rattle.page_tree.specs.Counts.{count_of, most_of, IsCounted}
use Rattle.page_nodes.specs.Adds.{IsAdded}
use Rattle.page_nodes.specs.Moves.{KeepsNodes}
use Rattle.page_nodes.proofs.Lists.{cases}
use Rattle.page_nodes.proofs.Owners.{same_is, is_same, slot_is}

-- the same owners in the same order
count_same : (o : Owner) (k m : List Entry) → length m ≡ length k → ((x : ℕ) → (at m x).owner ≡ (at k x).owner) → count_of o m ≡ count_of o k
count_same o [] [] e own = refl
count_same o [] (y ∷ m) e own = absurd (omega (arith, e))
count_same o (x ∷ k) [] e own = absurd (omega (arith, e))
count_same o (x ∷ k) (y ∷ m) e own = ap (λ p. cond {A = ℕ} (same_owner p o) 1 0 + count_of o m) (own 0) ∙ ap (λ n. cond {A = ℕ} (same_owner x.owner o) 1 0 + n) (count_same o k m (omega (arith, e)) (λ i. own (suc i)))

pub counted_same : (k m : List Entry) (made : List ℕ) → length m ≡ length k → ((x : ℕ) → (at m x).owner ≡ (at k x).owner) → IsCounted k made → IsCounted m made
counted_same k m made e own c = record {
  long = c.long;
  counts = λ o i. c.counts o i ∙ sym (count_same o k m e own);
  most = λ o i. omega (arith, count_same o k m e own, c.most o i);
}

pub counted_kept : (k m : List Entry) (made : List ℕ) → KeepsNodes k m → IsCounted k made → IsCounted m made
counted_kept k m made h c = counted_same k m made h.made h.owners c

-- after a call that may have reserved room first
pub counted_after : (k b m : List Entry) (made : List ℕ) → b ≡ k → KeepsNodes b m → IsCounted k made → IsCounted m made
counted_after k b m made e h c = counted_kept k m made (subst (λ y. KeepsNodes y m) e h) c

one_is : (b : Bool) → b ≡ true → cond {A = ℕ} b 1 0 ≡ 1
one_is true h = refl
one_is false h = cc

none_is : (b : Bool) → b ≡ false → cond {A = ℕ} b 1 0 ≡ 0
none_is true h = cc
none_is false h = refl

-- nodes of one owner alone
count_all : (p o : Owner) (m : List Entry) → ((x : ℕ) → x < length m → (at m x).owner ≡ o) → count_of p m ≡ cond (same_owner o p) (length m) 0
count_all p o [] own = cases (λ b. ◌≡◌ {A = ℕ} 0 (cond b 0 0)) (same_owner o p) (λ _. refl) (λ _. refl)
count_all p o (y ∷ m) own =
    let rest = count_all p o m (λ x lt. own (suc x) (omega (arith, lt))) in
    ap (λ q. cond {A = ℕ} (same_owner q p) 1 0 + count_of p m) (own 0 (omega arith)) ∙ ap (λ n. cond {A = ℕ} (same_owner o p) 1 0 + n) rest
    ∙ cases (λ b. cond {A = ℕ} b 1 0 + cond b (length m) 0 ≡ cond b (suc (length m)) 0) (same_owner o p) (λ _. omega arith) (λ _. refl)

-- new nodes of one owner
count_grown : (p o : Owner) (n : ℕ) (k m : List Entry) → length m ≡ length k + n → ((x : ℕ) → x < length k → at m x ≡ at k x) → ((x : ℕ) → length k ≤ x → x < length m → (at m x).owner ≡ o) → count_of p m ≡ count_of p k + cond (same_owner o p) n 0
count_grown p o n [] m e same own = let e2 : count_of p m ≡ cond (same_owner o p) n 0 = count_all p o m (λ x lt. own x (omega arith) lt) ∙ ap (λ q. cond (same_owner o p) q 0) (omega (arith, e)) in omega (arith, e2)
count_grown p o n (x ∷ k) [] e same own = absurd (omega (arith, e))
count_grown p o n (x ∷ k) (y ∷ m) e same own =
    let rest = count_grown p o n k m (omega (arith, e)) (λ i lt. same (suc i) (omega (arith, lt))) (λ i le lt. own (suc i) (omega (arith, le)) (omega (arith, lt))) in
    ap (λ (z : Entry). cond {A = ℕ} (same_owner z.owner p) 1 0 + count_of p m) (same 0 (omega arith)) ∙ omega (arith, rest)

slot_low : (o : Owner) → is_owner o ≡ true → slot o < 33
slot_low owner.Host i = omega arith
slot_low (owner.Widget w) i = omega (arith, ltb-true w 32 i)

pub counted_added : (k m : List Entry) (made : List ℕ) (id v : ℕ) (o : Owner) (p : PlainTrees) → IsCounted k made → IsAdded k m id o p → is_owner o ≡ true → v ≡ count_of o k + size p → v ≤ most_of o → IsCounted m (set made (slot o) v)
counted_added k m made id v o p c g i ev le =
    let here : count_of o m ≡ v = count_grown o o (size p) k m g.made g.older.same g.own ∙ ap (λ b. count_of o k + cond b (size p) 0) (is_same o o refl) ∙ sym ev in
    let lt : slot o < length made = omega (arith, c.long, slot_low o i) in
    let other : (q : Owner) → same_owner o q ≡ false → count_of q m ≡ count_of q k = λ q e. let z : count_of q m ≡ count_of q k + 0 = count_grown q o (size p) k m g.made g.older.same g.own ∙ ap (λ b. count_of q k + cond b (size p) 0) e in omega (arith, z) in
    record {
      long = length-set made (slot o) v ∙ c.long;
      counts = λ q j. cases (λ b. same_owner o q ≡ b → get_or (set made (slot o) v) (slot q) 0 ≡ count_of q m) (same_owner o q)
          (λ e _. subst (λ z. get_or (set made (slot o) v) (slot z) 0 ≡ count_of z m) (same_is o q e) (get_or-set_same made (slot o) v 0 lt ∙ sym here))
          (λ e _. get_or-set_other made (slot o) (slot q) v 0 (λ h. false_true (sym e ∙ is_same o q (slot_is o q i j (sym h)))) ∙ c.counts q j ∙ sym (other q e)) refl;
      most = λ q j. cases (λ b. same_owner o q ≡ b → count_of q m ≤ most_of q) (same_owner o q)
          (λ e _. subst (λ z. count_of z m ≤ most_of z) (same_is o q e) (omega (arith, here, le)))
          (λ e _. omega (arith, other q e, c.most q j)) refl;
    }
  where
    false_true : false ≡ true → ⊥
    false_true h = cc

-- the counts at first
abbrev pub first_counts : List ℕ
first_counts = set (replicate 33 0) 32 1

replicate_zero : (n w : ℕ) → get_or (replicate {A = ℕ} n 0) w 0 ≡ 0
replicate_zero zero w = refl
replicate_zero (suc n) zero = refl
replicate_zero (suc n) (suc w) = replicate_zero n w

pub counted_start : (k : List Entry) (made : List ℕ) → k ≡ body_entry ∷ [] → made ≡ first_counts → IsCounted k made
counted_start k made e f = subst (λ y. IsCounted y made) (sym e) (subst (IsCounted (body_entry ∷ [])) (sym f) first)
  where
    count_first : (o : Owner) (i : is_owner o ≡ true) → get_or first_counts (slot o) 0 ≡ count_of o (body_entry ∷ [])
    count_first owner.Host i = refl
    count_first (owner.Widget w) i = get_or-set_other (replicate 33 0) 32 w 1 0 (λ h. omega (arith, h, ltb-true w 32 i)) ∙ replicate_zero 33 w

    most_first : (o : Owner) → count_of o (body_entry ∷ []) ≤ most_of o
    most_first owner.Host = omega arith
    most_first (owner.Widget w) = omega arith

    first : IsCounted (body_entry ∷ []) first_counts
    first = record { long = refl; counts = count_first; most = λ o i. most_first o }
