-- Trees in which a node does not stand stay as they are.
use Rattle.std.proofs.Common.{◌≡◌, ℕ, false, refl, ap, ◌∙◌, eqb, cond, ◌||◌, Option}
use Rattle.plain_tree.specs.Trees.{Label, Trees, End, Node}
use Rattle.tree_ops.specs.Trees.{has, without, relabelled, put_before, grafted}
use Rattle.tree_ops.proofs.Tests.{or_none}

-- nothing is taken
pub without_off : (n : ℕ) (ts : Trees ℕ) → has n ts ≡ false → without n ts ≡ ts
without_off n End h = refl
without_off n (Node m l ks ts) h =
    let p = or_none (eqb m n) (has n ks || has n ts) h in
    let q = or_none (has n ks) (has n ts) (p.1) in
    let a = without_off n ks (q.0) in
    let b = without_off n ts (q.1) in
    ap (λ c. cond c (without n ts) (Node m l (without n ks) (without n ts))) (p.0) ∙ ap (λ y. Node m l y (without n ts)) a ∙ ap (Node m l ks) b

-- no label changes
pub relabelled_off : (n : ℕ) (l : Label) (ts : Trees ℕ) → has n ts ≡ false → relabelled n l ts ≡ ts
relabelled_off n l End h = refl
relabelled_off n l (Node m v ks ts) h =
    let p = or_none (eqb m n) _ h in
    let q = or_none (has n ks) (has n ts) (p.1) in
    ap (λ b. Node m (cond b l v) (relabelled n l ks) (relabelled n l ts)) (p.0) ∙ ap (λ y. Node m v y (relabelled n l ts)) (relabelled_off n l ks (q.0)) ∙ ap (Node m v ks) (relabelled_off n l ts (q.1))

-- no graft where the target is not
pub grafted_off : (t : ℕ) (s : Option ℕ) (us ts : Trees ℕ) → has t ts ≡ false → grafted t s us ts ≡ ts
grafted_off t s us End h = refl
grafted_off t s us (Node m l ks ts) h =
    let p = or_none (eqb m t) (has t ks || has t ts) h in
    let q = or_none (has t ks) (has t ts) (p.1) in
    let a = grafted_off t s us ks (q.0) in
    let b = grafted_off t s us ts (q.1) in
    ap (λ c. Node m l (cond c (put_before s us (grafted t s us ks)) (grafted t s us ks)) (grafted t s us ts)) (p.0) ∙ ap (λ y. Node m l y (grafted t s us ts)) a ∙ ap (Node m l ks) b
