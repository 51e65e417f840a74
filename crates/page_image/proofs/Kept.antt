-- What is kept by the numbers of a widget's nodes.
use Rattle.std.proofs.Common.{◌≡◌, ◌≢◌, ℕ, zero, suc, ◌+◌, ◌≤◌, List, [], ◌∷◌, Bool, true, false, refl, sym, ap, ◌∙◌, map, length, cond, arith, set, get_or}
use Rattle.code_units.specs.declared.owner.Owner.TheVariants as owner
use Rattle.page_nodes.specs.Entries.{Entry}
use Rattle.page_nodes.specs.Owners.{same_owner}
use Rattle.page_tree.specs.Counts.{count_of}
use Rattle.page_image.specs.Own.{is_own, own_number, own_nodes_from}

no_true : false ≡ true → ⊥
no_true e = cc

-- there are as many as the widget has made
pub nodes_count : (k : List Entry) (w a : ℕ) → length (own_nodes_from a k w) ≡ count_of (owner.Widget w) k
nodes_count [] w a = refl
nodes_count (e ∷ k) w a = by_test (same_owner e.owner (owner.Widget w)) (nodes_count k w (a + 1))
  where
    by_test : (b : Bool) → length (own_nodes_from (a + 1) k w) ≡ count_of (owner.Widget w) k → length (cond b (a ∷ own_nodes_from (a + 1) k w) (own_nodes_from (a + 1) k w)) ≡ cond b 1 0 + count_of (owner.Widget w) k
    by_test true h = omega (arith, h)
    by_test false h = omega (arith, h)

module _ {A : Type 0} (h : ℕ → A) (d : A) where
  -- what is kept with a node stands at its own number
  pub at_own : (k : List Entry) (w a n : ℕ) → is_own k w n ≡ true → get_or (map h (own_nodes_from a k w)) (own_number k w n) d ≡ h (a + n)
  at_own [] w a n own = absurd (no_true own)
  at_own (e ∷ k) w a zero own = ap (λ b. get_or (map h (cond b (a ∷ own_nodes_from (a + 1) k w) (own_nodes_from (a + 1) k w))) 0 d) own ∙ ap h (omega arith)
  at_own (e ∷ k) w a (suc n) own = by_test (same_owner e.owner (owner.Widget w)) (at_own k w (a + 1) n own)
    where
      same : a + 1 + n ≡ a + suc n
      same = omega arith

      by_test : (b : Bool) → get_or (map h (own_nodes_from (a + 1) k w)) (own_number k w n) d ≡ h (a + 1 + n) → get_or (map h (cond b (a ∷ own_nodes_from (a + 1) k w) (own_nodes_from (a + 1) k w))) (cond b 1 0 + own_number k w n) d ≡ h (a + suc n)
      by_test true g = let e : 1 + own_number k w n ≡ suc (own_number k w n) = omega arith in ap (λ i. get_or (h a ∷ map h (own_nodes_from (a + 1) k w)) i d) e ∙ g ∙ ap h same
      by_test false g = let e : 0 + own_number k w n ≡ own_number k w n = omega arith in ap (λ i. get_or (map h (own_nodes_from (a + 1) k w)) i d) e ∙ g ∙ ap h same

module _ {A : Type 0} (h g : ℕ → A) where
  -- where all is the same
  pub all_same : ((n : ℕ) → g n ≡ h n) → (ns : List ℕ) → map g ns ≡ map h ns
  all_same e [] = refl
  all_same e (n ∷ ns) = ap (λ x. x ∷ map g ns) (e n) ∙ ap (λ l. h n ∷ l) (all_same e ns)

  later_same : (a : ℕ) → ((n : ℕ) → a ≤ n → g n ≡ h n) → (k : List Entry) (w : ℕ) → map g (own_nodes_from a k w) ≡ map h (own_nodes_from a k w)
  later_same a e [] w = refl
  later_same a e (d ∷ k) w = by_test (same_owner d.owner (owner.Widget w)) (later_same (a + 1) (λ n le. e n (omega (arith, le))) k w)
    where
      by_test : (b : Bool) → map g (own_nodes_from (a + 1) k w) ≡ map h (own_nodes_from (a + 1) k w) → map g (cond b (a ∷ own_nodes_from (a + 1) k w) (own_nodes_from (a + 1) k w)) ≡ map h (cond b (a ∷ own_nodes_from (a + 1) k w) (own_nodes_from (a + 1) k w))
      by_test true q = ap (λ x. x ∷ map g (own_nodes_from (a + 1) k w)) (e a (omega arith)) ∙ ap (λ l. h a ∷ l) q
      by_test false q = q

  -- where one node has another, that of its own number is another
  pub set_own : (k : List Entry) (w a n : ℕ) → is_own k w n ≡ true → ((x : ℕ) → x ≢ a + n → g x ≡ h x) → map g (own_nodes_from a k w) ≡ set (map h (own_nodes_from a k w)) (own_number k w n) (g (a + n))
  set_own [] w a n own e = absurd (no_true own)
  set_own (d ∷ k) w a zero own e =
      ap (λ b. map g (cond b (a ∷ own_nodes_from (a + 1) k w) (own_nodes_from (a + 1) k w))) own
      ∙ ap (λ x. g a ∷ x) (later_same (a + 1) (λ n le. e n (λ q. omega (arith, q, le))) k w)
      ∙ ap (λ i. g i ∷ map h (own_nodes_from (a + 1) k w)) (omega arith)
      ∙ sym (ap (λ b. set (map h (cond b (a ∷ own_nodes_from (a + 1) k w) (own_nodes_from (a + 1) k w))) 0 (g (a + 0))) own)
  set_own (d ∷ k) w a (suc n) own e = by_test (same_owner d.owner (owner.Widget w)) (set_own k w (a + 1) n own (λ x q. e x (λ u. q (omega (arith, u)))))
    where
      same : a + 1 + n ≡ a + suc n
      same = omega arith

      by_test : (b : Bool) → map g (own_nodes_from (a + 1) k w) ≡ set (map h (own_nodes_from (a + 1) k w)) (own_number k w n) (g (a + 1 + n)) → map g (cond b (a ∷ own_nodes_from (a + 1) k w) (own_nodes_from (a + 1) k w)) ≡ set (map h (cond b (a ∷ own_nodes_from (a + 1) k w) (own_nodes_from (a + 1) k w))) (cond b 1 0 + own_number k w n) (g (a + suc n))
      by_test true q =
          let u : 1 + own_number k w n ≡ suc (own_number k w n) = omega arith in
          ap (λ x. x ∷ map g (own_nodes_from (a + 1) k w)) (e a (λ u. omega (arith, u)))
          ∙ ap (λ l. h a ∷ l) (q ∙ ap (λ i. set (map h (own_nodes_from (a + 1) k w)) (own_number k w n) (g i)) same)
          ∙ sym (ap (λ i. set (h a ∷ map h (own_nodes_from (a + 1) k w)) i (g (a + suc n))) u)
      by_test false q =
          let u : 0 + own_number k w n ≡ own_number k w n = omega arith in
          q ∙ ap (λ i. set (map h (own_nodes_from (a + 1) k w)) (own_number k w n) (g i)) same
          ∙ sym (ap (λ i. set (map h (own_nodes_from (a + 1) k w)) i (g (a + suc n))) u)
