-- Nodes that stand in a widget's page are there.
use Rattle.std.proofs.Common.{◌≡◌, ℕ, zero, suc, ◌<◌, ◌≤◌, List, [], ◌∷◌, ◌++◌, Bool, true, false, refl, sym, ◌∙◌, eqb, eq-eqb, eqb-true, subst, arith, length, ⊎_elim}
use Rattle.std.specs.Prelude.{Option, Some, None, nat_lt, nat_eq, not, if◌then◌else◌}
use Rattle.std.specs.List.{AllByRecursion, filter, filter_map, cons_option, list_any, flat_map}
use Rattle.std.specs.Option.{option_or}
use Rattle.std.proofs.lemmas.Bool.{ltb-true, ltb-false, or_cases}
use Rattle.plain_tree.specs.Trees.{End, Node}
use Rattle.tree_ops.specs.Trees.{numbers, tops}
use Rattle.query_grammar.specs.Finds.{has_number, in_order, all_filtered, hunted}
use Rattle.query_grammar.specs.Steps.{Step}
use Rattle.query_grammar.proofs.Kept.{all_filtered_is}
use Rattle.query_grammar.proofs.Numbers.{kept_is, has_first}
use Rattle.query_grammar.proofs.Truths.{or_right}
use Rattle.widget_meaning.specs.OwnState.{State, kept_at, Handler}
use Rattle.widget_meaning.specs.Trees.{Trees, parent}
use Rattle.widget_meaning.specs.NodeLaws.{times}
use Rattle.widget_meaning.specs.Queries.{finds, sight}
use Rattle.widget_meaning.specs.BunchReads.{starts, is_next}
use Rattle.widget_meaning.specs.Dispatch.{listening, here_or_above, nearest_from}
use Rattle.widget_meaning.specs.PageForms.{once}
use Rattle.widget_meaning.proofs.Times.{none_of}
use Rattle.meaning_laws.specs.There.{Sizes, NodeIs, NodesAre, OfNode, FunctionsAre}
use Rattle.meaning_laws.proofs.Each.{every, each_filtered, each_mapped, each_both}
use Rattle.meaning_laws.proofs.Steps.{R}

-- a predicate on each number
abbrev pub InTrees : (ℕ → Type 0) → Trees → Type 0
InTrees P End = Unit {0}
InTrees P (Node n l ks ts) = P n × (InTrees P ks × InTrees P ts)

less : (i m n : ℕ) → i < m → m ≤ n → i < n
less i m n l h = omega arith

no_test : false ≡ true → ⊥
no_test e = cc

pub in_page : (k : ℕ) (ts : Trees) → ((n : ℕ) → k ≤ n → times n ts ≡ 0) → InTrees (λ i. i < k) ts
in_page k End h = tt
in_page k (Node m l ks ts) h = (first (nat_lt m k) refl, (in_page k ks (λ n g. (parts n g).1.0), in_page k ts (λ n g. (parts n g).1.1)))
  where
    parts : (n : ℕ) → k ≤ n → (eqb m n ≡ false) × ((times n ks ≡ 0) × (times n ts ≡ 0))
    parts n g = none_of (eqb m n) (times n ks) (times n ts) (h n g)

    first : (b : Bool) → nat_lt m k ≡ b → m < k
    first true e = ltb-true m k e
    first false e = absurd (no_test (sym (parts m (ltb-false m k e)).0 ∙ eq-eqb m m refl))

pub numbers_in : (P : ℕ → Type 0) (ts : Trees) → InTrees P ts → AllByRecursion P (numbers ts)
numbers_in P End h = tt
numbers_in P (Node n l ks ts) h = (h.0, each_both P (numbers ks) (numbers ts) (numbers_in P ks h.1.0) (numbers_in P ts h.1.1))

pub tops_in : (P : ℕ → Type 0) (ts : Trees) → InTrees P ts → AllByRecursion P (tops ts)
tops_in P End h = tt
tops_in P (Node n l ks ts) h = (h.0, tops_in P ts h.1.1)

abbrev OfSome : (ℕ → Type 0) → Option ℕ → Type 0
OfSome P None = Unit {0}
OfSome P (Some n) = P n

parent_in : (P : ℕ → Type 0) (n : ℕ) (ts : Trees) → InTrees P ts → OfSome P (parent n ts)
parent_in P n End h = tt
parent_in P n (Node m l ks ts) h = by (list_any (nat_eq n) (tops ks)) (parent n ks) (parent_in P n ks h.1.0) (parent_in P n ts h.1.1)
  where
    by : (b : Bool) (o : Option ℕ) → OfSome P o → OfSome P (parent n ts) → OfSome P (option_or (if b then Some m else o) (parent n ts))
    by true o e f = h.0
    by false (Some p) e f = e
    by false None e f = f

module _ (m : Sizes) (s : State) (h : R m s) where
  pub page_in : InTrees (λ i. i < m.nodes) s.own.forest
  page_in = in_page m.nodes s.own.forest h.there.page.there

  pub node_of : (o : Option ℕ) → OfSome (λ i. i < m.nodes) o → OfNode m o
  node_of None k = tt
  node_of (Some n) k = record { born = k }

  pub parent_is : (n : ℕ) → OfNode m (parent n s.own.forest)
  parent_is n = node_of (parent n s.own.forest) (parent_in (λ i. i < m.nodes) n s.own.forest page_in)

  -- ## What listens
  listening_is : (n : ℕ) (kind : List ℕ) → FunctionsAre m (listening s n kind)
  listening_is n kind = record { each = each_mapped {A = Handler} (λ x. x.func < m.objects) (λ f. f < m.objects) (λ x. x.func) (λ x q. q) _ (each_filtered (λ x. x.func < m.objects) _ (kept_at s n).handlers (h.there.kept n).handlers) }

  -- a node that listens, with its functions
  abbrev pub OfHeard : Option (ℕ × List ℕ) → Type 0
  OfHeard None = Unit {0}
  OfHeard (Some (n, fs)) = NodeIs m n × FunctionsAre m fs

  here_is : (n : ℕ) (fs : List ℕ) (k : Bool → Option (ℕ × List ℕ)) → NodeIs m n → FunctionsAre m fs → OfHeard (k true) → OfHeard (here_or_above n fs k)
  here_is n [] k q r z = z
  here_is n (f ∷ fs) k q r z = (q, r)

  pub nearest_is : (b : ℕ) (o : Option ℕ) (kind : List ℕ) → OfNode m o → OfHeard (nearest_from b s o kind)
  nearest_is zero None kind q = tt
  nearest_is (suc b) None kind q = tt
  nearest_is zero (Some n) kind q = tt
  nearest_is (suc b) (Some n) kind q = here_is n (listening s n kind) (λ _. nearest_from b s (parent n s.own.forest) kind) q (listening_is n kind)
      (nearest_is b (parent n s.own.forest) kind (parent_is n))

  -- ## What queries find
  number_in : (ns : List ℕ) (x : ℕ) → AllByRecursion (λ i. i < m.nodes) ns → has_number ns x ≡ true → x < m.nodes
  number_in [] x q e = absurd (no_test e)
  number_in (n ∷ ns) x q e = ⊎_elim (λ i. subst (λ y. y < m.nodes) (sym (eqb-true x n i)) q.0) (λ g. number_in ns x q.1 g) (or_cases (eqb x n) (has_number ns x) e)

  pub from_numbers : (ns : List ℕ) → ((x : ℕ) → has_number ns x ≡ true → x < m.nodes) → AllByRecursion (NodeIs m) ns
  from_numbers [] f = tt
  from_numbers (n ∷ ns) f = (record { born = f n (has_first n ns) }, from_numbers ns (λ x e. f x (or_right (eqb x n) (has_number ns x) e)))

  step_finds : (q : Step) (ns : List ℕ) → NodesAre m (all_filtered (sight s).links.look (sight s).focus q.filters (in_order (sight s).document (flat_map (hunted (sight s).links q.hunter) ns)))
  step_finds q ns = record {
    each = from_numbers _ (λ x e. number_in (numbers s.own.forest) x (numbers_in (λ i. i < m.nodes) s.own.forest page_in)
        (kept_is _ (numbers s.own.forest) x (all_filtered_is _ _ q.filters _ x e)));
  }

  found_are : (qs : List Step) (ns : List ℕ) → NodesAre m ns → NodesAre m (finds s ns qs)
  found_are [] ns q = q
  found_are (t ∷ qs) ns q = found_are qs _ (step_finds t ns)

  starts_are : (qs : List Step) (ns : List ℕ) → NodesAre m ns → NodesAre m (starts s qs ns)
  starts_are [] ns q = q
  starts_are (t ∷ qs) ns q = by (is_next t.hunter)
    where
      by : (b : Bool) → NodesAre m (if b then filter (λ n. not (kept_at s n).is_protected) ns else ns)
      by true = record { each = each_filtered (NodeIs m) (λ n. not (kept_at s n).is_protected) ns q.each }
      by false = q

  pub query_finds : (qs : List Step) (ns : List ℕ) → NodesAre m ns → NodesAre m (finds s (starts s qs ns) qs)
  query_finds qs ns q = found_are qs (starts s qs ns) (starts_are qs ns q)

  -- the parents
  once_are : (seen ns : List ℕ) → AllByRecursion (NodeIs m) seen → AllByRecursion (NodeIs m) ns → AllByRecursion (NodeIs m) (once seen ns)
  once_are seen [] q r = q
  once_are seen (n ∷ ns) q r = by (has_number seen n) (once_are seen ns q r.1) (once_are (seen ++ n ∷ []) ns (each_both (NodeIs m) seen (n ∷ []) q (r.0, tt)) r.1)
    where
      by : (b : Bool) → AllByRecursion (NodeIs m) (once seen ns) → AllByRecursion (NodeIs m) (once (seen ++ n ∷ []) ns)
          → AllByRecursion (NodeIs m) (if b then once seen ns else once (seen ++ n ∷ []) ns)
      by true e f = e
      by false e f = f

  parents_of : (ns : List ℕ) → AllByRecursion (NodeIs m) (filter_map (λ n. parent n s.own.forest) ns)
  parents_of [] = tt
  parents_of (n ∷ ns) = by (parent n s.own.forest) (parent_is n) (parents_of ns)
    where
      by : (o : Option ℕ) → OfNode m o → AllByRecursion (NodeIs m) (filter_map (λ i. parent i s.own.forest) ns)
          → AllByRecursion (NodeIs m) (cons_option o (filter_map (λ i. parent i s.own.forest) ns))
      by None q e = e
      by (Some p) q e = (q, e)

  pub parents_are : (ns : List ℕ) → NodesAre m (once [] (filter_map (λ n. parent n s.own.forest) ns))
  parents_are ns = record { each = once_are [] _ tt (parents_of ns) }

  -- and below how many there are now
  pub nodes_below : (ns : List ℕ) → AllByRecursion (NodeIs m) ns → AllByRecursion (λ n. n < length s.own.kept) ns
  nodes_below ns q = every (NodeIs m) (λ n. n < length s.own.kept) (λ n k. less n m.nodes (length s.own.kept) k.born h.wide.nodes) ns q
