-- Several trees are grafted at once, and one after the other.
use Rattle.std.proofs.Common.{◌≡◌, ℕ, ◌+◌, ◌<◌, ◌≤◌, Bool, true, false, refl, sym, ap, ◌∙◌, cond, eqb, eq-eqb, ne_eqb, ◌||◌, arith, Some, None, unwrap_or}
use Rattle.std.specs.Prelude.{nat_lt}
use Rattle.std.specs.List.{fold}
use Rattle.std.specs.Option.{option_or}
use Rattle.std.proofs.lemmas.Bool.{ltb-true}
use Rattle.std.proofs.lemmas.Bool.Decides.{nat_tests}
use Rattle.plain_tree.specs.Trees.{Trees, End, Node, beside, size}
use Rattle.plain_tree.proofs.Lists.{beside_assoc, beside_end}
use Rattle.tree_ops.specs.Trees.{has, tops, tree_of, subtree, without, put_before, grafted, numbered}
use Rattle.tree_ops.proofs.Absent.{without_off, grafted_off}
use Rattle.tree_ops.proofs.Grafted.{behind_last}
use Rattle.widget_meaning.specs.Trees.{moved}
use Rattle.page_image.proofs.Copying.{none_there, without_beside, tree_of_beside}
use Rattle.page_image.proofs.Marked.{AllIn, in_grafted}
use Rattle.page_image.proofs.Shown.{has_of_all}
use Rattle.page_image.proofs.Steps.{grafted_beside}

-- one behind the other
graft_twice : (t : ℕ) (a b ts : Trees ℕ) → has t a ≡ false → grafted t None b (grafted t None a ts) ≡ grafted t None (beside a b) ts
graft_twice t a b End h = refl
graft_twice t a b (Node m l ks ts) h =
    ap (λ u. Node m l (cond (eqb m t) (put_before None b (grafted t None b (cond (eqb m t) (put_before None a (grafted t None a ks)) (grafted t None a ks)))) (grafted t None b (cond (eqb m t) (put_before None a (grafted t None a ks)) (grafted t None a ks)))) u) (graft_twice t a b ts h)
    ∙ ap (λ u. Node m l u (grafted t None (beside a b) ts)) (by_test (eqb m t) (graft_twice t a b ks h))
  where
    by_test : (c : Bool) → grafted t None b (grafted t None a ks) ≡ grafted t None (beside a b) ks → cond c (put_before None b (grafted t None b (cond c (put_before None a (grafted t None a ks)) (grafted t None a ks)))) (grafted t None b (cond c (put_before None a (grafted t None a ks)) (grafted t None a ks))) ≡ cond c (put_before None (beside a b) (grafted t None (beside a b) ks)) (grafted t None (beside a b) ks)
    by_test true e =
        ap (λ u. put_before None b (grafted t None b u)) (behind_last a (grafted t None a ks))
        ∙ ap (put_before None b) (grafted_beside t None b (grafted t None a ks) a ∙ ap (beside (grafted t None b (grafted t None a ks))) (grafted_off t None b a h) ∙ ap (λ u. beside u a) e)
        ∙ behind_last b (beside (grafted t None (beside a b) ks) a)
        ∙ beside_assoc (grafted t None (beside a b) ks) a b
        ∙ sym (behind_last (beside a b) (grafted t None (beside a b) ks))
    by_test false e = e

graft_none : (t : ℕ) (ts : Trees ℕ) → grafted t None End ts ≡ ts
graft_none t End = refl
graft_none t (Node m l ks ts) =
    ap (λ u. Node m l (cond (eqb m t) (put_before None End u) u) (grafted t None End ts)) (graft_none t ks)
    ∙ ap (Node m l (cond (eqb m t) (put_before None End ks) ks)) (graft_none t ts)
    ∙ ap (λ u. Node m l u ts) (by_test (eqb m t))
  where
    by_test : (c : Bool) → cond c (put_before None End ks) ks ≡ ks
    by_test true = behind_last End ks ∙ beside_end ks
    by_test false = refl

-- ## Numbers that go on

pub is_below : ℕ → ℕ → Bool
is_below c x = nat_lt x c

pub below_is : (x c : ℕ) → x < c → is_below c x ≡ true
unfolding is_below
below_is x c lt = grind (arith, nat_tests, lt)

is_less : (x c : ℕ) → is_below c x ≡ true → x < c
unfolding is_below
is_less x c e = ltb-true x c e

pub all_below : (a b : ℕ) → a ≤ b → (ts : Trees ℕ) → AllIn (is_below a) ts → AllIn (is_below b) ts
all_below a b le End h = tt
all_below a b le (Node m l ks ts) h = (below_is m b (let lt : m < a = is_less m a (h.0) in omega (arith, lt, le)), all_below a b le ks (h.1), all_below a b le ts (h.2))

pub numbered_below : (a b : ℕ) (ts : Trees ℕ) → a + size ts ≤ b → AllIn (is_below b) (numbered a ts)
numbered_below a b End le = tt
numbered_below a b (Node m l ks ts) le = (below_is a b (omega (arith, le)), numbered_below (a + 1) b ks (omega (arith, le)), numbered_below (a + 1 + size ks) b ts (omega (arith, le)))

pub numbered_off : (a : ℕ) (ts : Trees ℕ) (x : ℕ) → x < a → has x (numbered a ts) ≡ false
numbered_off a End x lt = refl
numbered_off a (Node m l ks ts) x lt =
    ap (λ b. b || (has x (numbered (a + 1) ks) || has x (numbered (a + 1 + size ks) ts))) (ne_eqb a x (λ e. omega (arith, e, lt)))
    ∙ ap (λ b. b || has x (numbered (a + 1 + size ks) ts)) (numbered_off (a + 1) ks x (omega (arith, lt)))
    ∙ numbered_off (a + 1 + size ks) ts x (omega (arith, lt))

pub off_below : (c x : ℕ) → c ≤ x → (ts : Trees ℕ) → AllIn (is_below c) ts → has x ts ≡ false
off_below c x le ts h = by_case (has x ts) refl
  where
    no_lt : x < c → ⊥
    no_lt lt = omega (arith, lt, le)

    by_case : (b : Bool) → has x ts ≡ b → has x ts ≡ false
    by_case true e = absurd (no_lt (is_less x c (has_of_all (is_below c) x ts h e)))
    by_case false e = e

-- new trees behind all others that are put under a node, one after the other, were grafted there
pub all_moved : (t c : ℕ) (us ts : Trees ℕ) → t < c → AllIn (is_below c) ts → fold (moved t None) (beside ts (numbered c us)) (tops (numbered c us)) ≡ grafted t None (numbered c us) ts
all_moved t c End ts lt h = beside_end ts ∙ sym (graft_none t ts)
all_moved t c (Node m l ks us) ts lt h =
    ap (λ u. fold (moved t None) u (tops (numbered (c + 1 + size ks) us))) first
    ∙ all_moved t (c + 1 + size ks) us (grafted t None (Node c l (numbered (c + 1) ks) End) ts) (omega (arith, lt)) next
    ∙ graft_twice t (Node c l (numbered (c + 1) ks) End) (numbered (c + 1 + size ks) us) ts off
  where
    off : has t (Node c l (numbered (c + 1) ks) End) ≡ false
    off =
        ap (λ b. b || (has t (numbered (c + 1) ks) || false)) (ne_eqb c t (λ e. omega (arith, e, lt)))
        ∙ ap (λ b. b || false) (numbered_off (c + 1) ks t (omega (arith, lt)))

    away : has c ts ≡ false
    away = off_below c c (omega arith) ts h

    rest : has c (numbered (c + 1 + size ks) us) ≡ false
    rest = numbered_off (c + 1 + size ks) us c (omega arith)

    next : AllIn (is_below (c + 1 + size ks)) (grafted t None (Node c l (numbered (c + 1) ks) End) ts)
    next = in_grafted (λ x. x) (is_below (c + 1 + size ks)) (λ n m _ _. refl) t None (Node c l (numbered (c + 1) ks) End) ts
        (below_is c (c + 1 + size ks) (omega arith), numbered_below (c + 1) (c + 1 + size ks) ks (omega arith), tt)
        (all_below c (c + 1 + size ks) (omega arith) ts h)

    found : subtree c (beside ts (Node c l (numbered (c + 1) ks) (numbered (c + 1 + size ks) us))) ≡ Node c l (numbered (c + 1) ks) End
    found = ap (λ o. unwrap_or o End) (tree_of_beside c ts (Node c l (numbered (c + 1) ks) (numbered (c + 1 + size ks) us))
        ∙ ap (λ o. option_or o (tree_of c (Node c l (numbered (c + 1) ks) (numbered (c + 1 + size ks) us)))) (none_there c ts away)
        ∙ ap (λ b. cond b (Some (Node c l (numbered (c + 1) ks) End)) (option_or (tree_of c (numbered (c + 1) ks)) (tree_of c (numbered (c + 1 + size ks) us)))) (eq-eqb c c refl))

    left : without c (beside ts (Node c l (numbered (c + 1) ks) (numbered (c + 1 + size ks) us))) ≡ beside ts (numbered (c + 1 + size ks) us)
    left = without_beside c ts (Node c l (numbered (c + 1) ks) (numbered (c + 1 + size ks) us))
        ∙ ap (λ u. beside u (without c (Node c l (numbered (c + 1) ks) (numbered (c + 1 + size ks) us)))) (without_off c ts away)
        ∙ ap (λ b. beside ts (cond b (without c (numbered (c + 1 + size ks) us)) (Node c l (without c (numbered (c + 1) ks)) (without c (numbered (c + 1 + size ks) us))))) (eq-eqb c c refl)
        ∙ ap (beside ts) (without_off c (numbered (c + 1 + size ks) us) rest)

    first : moved t None (beside ts (Node c l (numbered (c + 1) ks) (numbered (c + 1 + size ks) us))) c ≡ beside (grafted t None (Node c l (numbered (c + 1) ks) End) ts) (numbered (c + 1 + size ks) us)
    first =
        ap (λ u. grafted t None u (without c (beside ts (Node c l (numbered (c + 1) ks) (numbered (c + 1 + size ks) us))))) found
        ∙ ap (grafted t None (Node c l (numbered (c + 1) ks) End)) left
        ∙ grafted_beside t None (Node c l (numbered (c + 1) ks) End) ts (numbered (c + 1 + size ks) us)
        ∙ ap (beside (grafted t None (Node c l (numbered (c + 1) ks) End) ts)) (grafted_off t None (Node c l (numbered (c + 1) ks) End) (numbered (c + 1 + size ks) us) (numbered_off (c + 1 + size ks) us t (omega (arith, lt))))
