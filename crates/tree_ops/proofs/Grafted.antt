-- Trees are grafted on others.
use Rattle.std.proofs.Common.{None, ◌≡◌, ℕ, Bool, true, false, refl, ap, ◌∙◌, eqb, cond, ◌||◌, ◌&&◌, Option}
use Rattle.plain_tree.specs.Trees.{Trees, End, Node, beside}
use Rattle.tree_ops.specs.Trees.{has, is_number, put_before, grafted}
use Rattle.tree_ops.proofs.Tests.{cases}

-- sums of tests
turned : (a b c : Bool) → (a || (b || c)) ≡ (b || (a || c))
turned true true c = refl
turned true false c = refl
turned false b c = refl

either : (m k t u : Bool) → (m || (k || (t || u))) ≡ ((m || (k || t)) || u)
either true k t u = refl
either false true t u = refl
either false false t u = refl

pub has_beside : (n : ℕ) (us ts : Trees ℕ) → has n (beside us ts) ≡ (has n ts || has n us)
has_beside n End ts = cases (λ b. b ≡ (b || false)) (has n ts) (λ _. refl) (λ _. refl)
has_beside n (Node m l ks us) ts =
    ap (λ b. eqb m n || (has n ks || b)) (has_beside n us ts)
    ∙ ap (λ b. eqb m n || b) (turned (has n ks) (has n ts) (has n us))
    ∙ turned (eqb m n) (has n ts) (has n ks || has n us)

pub behind_last : (us ts : Trees ℕ) → put_before None us ts ≡ beside ts us
behind_last us End = refl
behind_last us (Node m l ks ts) = ap (Node m l ks) (behind_last us ts)

has_before : (n : ℕ) (s : Option ℕ) (us ts : Trees ℕ) → has n (put_before s us ts) ≡ (has n ts || has n us)
has_before n s us End = refl
has_before n s us (Node m l ks ts) =
    cases (λ b. has n (cond b (beside us (Node m l ks ts)) (Node m l ks (put_before s us ts))) ≡ ((eqb m n || (has n ks || has n ts)) || has n us)) (is_number m s)
    (λ _. has_beside n us (Node m l ks ts))
    (λ _. ap (λ b. eqb m n || (has n ks || b)) (has_before n s us ts) ∙ either (eqb m n) (has n ks) (has n ts) (has n us))

at_target : (m k t kt tt u : Bool) → (m || (((k || (kt && u)) || u) || (t || (tt && u)))) ≡ ((m || (k || t)) || u)
at_target true k t kt tt u = refl
at_target false true t kt tt u = refl
at_target false false true true tt true = refl
at_target false false true false tt true = refl
at_target false false true true true false = refl
at_target false false true true false false = refl
at_target false false true false tt false = refl
at_target false false false true tt true = refl
at_target false false false false tt true = refl
at_target false false false true true false = refl
at_target false false false true false false = refl
at_target false false false false true false = refl
at_target false false false false false false = refl

elsewhere : (m k t kt tt u : Bool) → (m || ((k || (kt && u)) || (t || (tt && u)))) ≡ ((m || (k || t)) || ((kt || tt) && u))
elsewhere true k t kt tt u = refl
elsewhere false true t kt tt u = refl
elsewhere false false true true tt true = refl
elsewhere false false true true tt false = refl
elsewhere false false true false tt u = refl
elsewhere false false false true tt true = refl
elsewhere false false false true true false = refl
elsewhere false false false true false false = refl
elsewhere false false false false tt u = refl

pub has_grafted : (t : ℕ) (s : Option ℕ) (us ts : Trees ℕ) (n : ℕ) → has n (grafted t s us ts) ≡ (has n ts || (has t ts && has n us))
has_grafted t s us End n = refl
has_grafted t s us (Node m l ks ts) n =
    cases (λ b. (eqb m n || (has n (cond b (put_before s us (grafted t s us ks)) (grafted t s us ks)) || has n (grafted t s us ts))) ≡ ((eqb m n || (has n ks || has n ts)) || ((b || (has t ks || has t ts)) && has n us))) (eqb m t)
    (λ _. ap (λ b. eqb m n || (b || has n (grafted t s us ts))) (has_before n s us (grafted t s us ks) ∙ ap (λ b. b || has n us) (has_grafted t s us ks n))
    ∙ ap (λ b. eqb m n || (((has n ks || (has t ks && has n us)) || has n us) || b)) (has_grafted t s us ts n)
    ∙ at_target (eqb m n) (has n ks) (has n ts) (has t ks) (has t ts) (has n us))
    (λ _. ap (λ b. eqb m n || (b || has n (grafted t s us ts))) (has_grafted t s us ks n)
    ∙ ap (λ b. eqb m n || ((has n ks || (has t ks && has n us)) || b)) (has_grafted t s us ts n)
    ∙ elsewhere (eqb m n) (has n ks) (has n ts) (has t ks) (has t ts) (has n us))
