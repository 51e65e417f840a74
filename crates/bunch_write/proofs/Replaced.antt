-- Nodes that come in the place of another.
use Rattle.std.proofs.Common.{◌≡◌, ◌≢◌, ℕ, List, [], ◌∷◌, Bool, true, false, refl, sym, ap, ◌∙◌, map, length, get_or, Option, None, Some, arith}
use Rattle.std.specs.Prelude.{◌&&◌, not}
use Rattle.std.specs.List.{fold}
use Rattle.std.specs.Option.{option_map_or}
use Rattle.plain_tree.specs.Trees.{Trees}
use Rattle.query_grammar.specs.Finds.{has_number}
use Rattle.widget_meaning.specs.BunchWrites.{is_target, replace}
use Rattle.widget_meaning.specs.Costs.{give, or_throw, throw, want}
use Rattle.widget_meaning.specs.OwnState.{State, bunch_nodes, kind_of, with_forest}
use Rattle.widget_meaning.specs.Plan.{Plan, charge}
use Rattle.widget_meaning.specs.Trees.{detached, moved, parent}
use Rattle.widget_meaning.specs.Values.{E10, E4, Value}
use Rattle.page_image.specs.Targets.{may_come, takes}
use Rattle.bunch_write.specs.Trees.{replace_plan}

no_true : false ≡ true → ⊥
no_true e = cc

module _ (n : ℕ) (ms : List ℕ) (b : Value) (s : State) where
  abbrev test : ℕ → Bool
  test p = not (has_number ms n) && is_target s ms p

  -- the page after it
  abbrev pub replaced : ℕ → State → State
  replaced p t = with_forest t (detached (fold (moved p (Some n)) t.own.forest ms) n)

  abbrev rest : ℕ → Plan
  rest p = charge 1 s (give b (replaced p s))

  -- they may not come
  pub not_replaced : may_come s.own.forest ms n ≡ false → replace_plan n ms b s ≡ throw E10 s
  not_replaced = by (parent n s.own.forest)
    where
      by : (o : Option ℕ) → option_map_or test o false ≡ false → or_throw E10 o s (λ p. want E10 (test p) s (rest p)) ≡ throw E10 s
      by None h = refl
      by (Some p) h = ap (λ c. want E10 c s (rest p)) h

  -- they may
  pub is_replaced : (p : ℕ) → parent n s.own.forest ≡ Some p → may_come s.own.forest ms n ≡ true → replace_plan n ms b s ≡ rest p
  is_replaced p e h =
      ap (λ o. or_throw E10 o s (λ q. want E10 (test q) s (rest q))) e
      ∙ ap (λ c. want E10 c s (rest p)) (sym (ap (λ o. option_map_or test o false) e) ∙ h)

-- then there is a parent
pub has_parent : (n : ℕ) (ms : List ℕ) (ts : Trees ℕ) → may_come ts ms n ≡ true → (p : ℕ) × (parent n ts ≡ Some p)
has_parent n ms ts h = by (parent n ts) refl h
  where
    by : (o : Option ℕ) → parent n ts ≡ o → option_map_or (λ p. not (has_number ms n) && takes ts ms p) o false ≡ true → (p : ℕ) × (parent n ts ≡ Some p)
    by None e g = absurd (no_true g)
    by (Some p) e g = (p, e)

one_node : (list : List ℕ) → length list ≡ 1 → list ≡ get_or list 0 0 ∷ []
one_node [] e = absurd (omega (arith, e))
one_node (n ∷ []) e = refl
one_node (n ∷ m ∷ ns) e = absurd (omega (arith, e))

module _ (f : ℕ → ℕ) (list : List ℕ) (v b : Value) (s : State) where
  pub replace_other : length list ≢ 1 → replace (map f list) v b s ≡ throw E4 s
  replace_other = by list
    where
      by : (list : List ℕ) → length list ≢ 1 → replace (map f list) v b s ≡ throw E4 s
      by [] e = refl
      by (n ∷ []) e = absurd (e refl)
      by (n ∷ m ∷ ns) e = refl

  module _ (one : length list ≡ 1) where
    by_one : replace (map f list) v b s ≡ or_throw E4 (bunch_nodes (kind_of s v)) s (λ ms. replace_plan (f (get_or list 0 0)) ms b s)
    by_one = ap (λ l. replace (map f l) v b s) (one_node list one)

    pub replace_none : bunch_nodes (kind_of s v) ≡ None → replace (map f list) v b s ≡ throw E4 s
    replace_none e = by_one ∙ ap (λ o. or_throw E4 o s (λ ms. replace_plan (f (get_or list 0 0)) ms b s)) e

    pub replace_some : (ms : List ℕ) → bunch_nodes (kind_of s v) ≡ Some ms → replace (map f list) v b s ≡ replace_plan (f (get_or list 0 0)) ms b s
    replace_some ms e = by_one ∙ ap (λ o. or_throw E4 o s (λ ms. replace_plan (f (get_or list 0 0)) ms b s)) e
