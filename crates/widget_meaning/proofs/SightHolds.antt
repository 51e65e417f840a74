-- What a query sees of a widget's page has its links in it.
use Rattle.std.proofs.Common.{◌≡◌, ℕ, ◌∷◌, ◌++◌, Bool, true, false, ◌∙◌, subst, cond, eqb, Option, Some, None, ◌⊎◌, inl, inr, ⊎_elim}
use Rattle.std.specs.Prelude.{nat_eq, unwrap_or}
use Rattle.std.specs.List.{list_any}
use Rattle.std.specs.Option.{option_or}
use Rattle.std.proofs.lemmas.Bool.{or_cases}
use Rattle.plain_tree.specs.Trees.{End, Node}
use Rattle.query_grammar.specs.Finds.{has_number}
use Rattle.tree_ops.specs.Trees.{numbers, tree_of}
use Rattle.query_grammar.specs.Renumbering.{IsWhole}
use Rattle.query_grammar.proofs.Numbers.{has_both, has_first}
use Rattle.query_grammar.proofs.Truths.{or_left, or_right, same_some, none_some}
use Rattle.widget_meaning.specs.OwnState.{State}
use Rattle.widget_meaning.specs.Queries.{sight}
use Rattle.widget_meaning.specs.Trees.{Trees, first_children, children, tops, parent}

-- ## Trees in trees

module _ (x m : ℕ) (ks ts : Trees) where
  in_children : has_number (numbers ks) x ≡ true → has_number (m ∷ (numbers ks ++ numbers ts)) x ≡ true
  in_children h = or_right (eqb x m) (has_number (numbers ks ++ numbers ts) x) (has_both x (numbers ks) (numbers ts) ∙ or_left (has_number (numbers ks) x) (has_number (numbers ts) x) h)

  in_others : has_number (numbers ts) x ≡ true → has_number (m ∷ (numbers ks ++ numbers ts)) x ≡ true
  in_others h = or_right (eqb x m) (has_number (numbers ks ++ numbers ts) x) (has_both x (numbers ks) (numbers ts) ∙ or_right (has_number (numbers ks) x) (has_number (numbers ts) x) h)

of_either : (x : ℕ) (u v : Option Trees) → has_number (numbers (first_children (unwrap_or (option_or u v) End))) x ≡ true → (has_number (numbers (first_children (unwrap_or u End))) x ≡ true) ⊎ (has_number (numbers (first_children (unwrap_or v End))) x ≡ true)
of_either x None v h = inr h
of_either x (Some t) v h = inl h

below_stands : (n x : ℕ) (ts : Trees) → has_number (numbers (children n ts)) x ≡ true → has_number (numbers ts) x ≡ true
below_stands n x End h = h
below_stands n x (Node m l ks ts) h = by_test (eqb m n) (λ g. below_stands n x ks g) (λ g. below_stands n x ts g) h
  where
    by_test : (b : Bool) → (has_number (numbers (children n ks)) x ≡ true → has_number (numbers ks) x ≡ true) → (has_number (numbers (children n ts)) x ≡ true → has_number (numbers ts) x ≡ true) →
        has_number (numbers (first_children (unwrap_or (cond b (Some (Node m l ks End)) (option_or (tree_of n ks) (tree_of n ts))) End))) x ≡ true → has_number (m ∷ (numbers ks ++ numbers ts)) x ≡ true
    by_test true down on h = in_children x m ks ts h
    by_test false down on h = ⊎_elim (λ g. in_children x m ks ts (down g)) (λ g. in_others x m ks ts (on g)) (of_either x (tree_of n ks) (tree_of n ts) h)

top_stands : (x : ℕ) (ts : Trees) → has_number (tops ts) x ≡ true → has_number (numbers ts) x ≡ true
top_stands x End h = h
top_stands x (Node m l ks ts) h = ⊎_elim
    (λ e. or_left (eqb x m) (has_number (numbers ks ++ numbers ts) x) e)
    (λ g. in_others x m ks ts (top_stands x ts g))
    (or_cases (eqb x m) (has_number (tops ts) x) h)

number_of_either : (p : ℕ) (u v : Option ℕ) → option_or u v ≡ Some p → (u ≡ Some p) ⊎ (v ≡ Some p)
number_of_either p None v h = inr h
number_of_either p (Some q) v h = inl h

parent_stands : (n p : ℕ) (ts : Trees) → parent n ts ≡ Some p → has_number (numbers ts) p ≡ true
parent_stands n p End h = absurd (none_some p h)
parent_stands n p (Node m l ks ts) h = ⊎_elim
    (λ g. by_test (list_any (nat_eq n) (tops ks)) (λ e. parent_stands n p ks e) g)
    (λ g. in_others p m ks ts (parent_stands n p ts g))
    (number_of_either p _ (parent n ts) h)
  where
    by_test : (b : Bool) → (parent n ks ≡ Some p → has_number (numbers ks) p ≡ true) → cond b (Some m) (parent n ks) ≡ Some p → has_number (m ∷ (numbers ks ++ numbers ts)) p ≡ true
    by_test true down g = subst (λ y. has_number (m ∷ (numbers ks ++ numbers ts)) y ≡ true) (same_some m p g) (has_first m (numbers ks ++ numbers ts))
    by_test false down g = in_children p m ks ts (down g)

pub whole_sight : (s : State) → IsWhole (sight s)
whole_sight s = record {
  children = λ n h x g. below_stands n x s.own.forest (top_stands x (children n s.own.forest) g);
  below = λ n h x g. below_stands n x s.own.forest g;
  parent = λ n m h e. parent_stands n m s.own.forest e;
}
