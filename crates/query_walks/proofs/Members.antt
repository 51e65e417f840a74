-- What is found are nodes.
use Rattle.std.proofs.Common.{◌≡◌, ℕ, zero, suc, ◌+◌, ◌<◌, List, [], ◌∷◌, true, false, refl, sym, ap, ◌∙◌, subst, length, drop, get_or, arith, eqb, eqb-true, Some, None, Option, ⊎_elim}
use Rattle.std.proofs.lemmas.Bool.{or_cases}
use Rattle.std.proofs.lemmas.List.{at_drop_more}
use Rattle.std.specs.Prelude.{option_to_list, slice_get}
use Rattle.std.specs.List.{filter, flat_map, range_with_len}
use Rattle.code_units.specs.declared.owner.Owner.{Owner}
use Rattle.page_tree.specs.declared.page.Page.{Page}
use Rattle.page_tree.specs.Owners.{is_owner}
use Rattle.page_tree.specs.Entries.{Entry, at}
use Rattle.page_tree.specs.Pages.{nodes, root}
use Rattle.page_nodes.proofs.Walk.{child_in}
use Rattle.query_grammar.specs.declared.query.Hunter.{Hunter}
use Rattle.query_grammar.specs.declared.query.Hunter.TheVariants as hunter
use Rattle.query_grammar.specs.declared.query.StepFilter.{StepFilter}
use Rattle.query_grammar.specs.Steps.{Step}
use Rattle.query_walks.specs.Nodes.{look, is_element}
use Rattle.page_tree.specs.Documents.{within, below, parent_within, is_loose, tops, document}
use Rattle.query_walks.specs.Finds.{links, is_tagged, has_id, hunted, in_order, filtered, all_filtered, sight, finds}
use Rattle.query_grammar.specs.Finds.{after_number, has_number, element_behind, next_element}
use Rattle.query_walks.specs.Walks.{AreNodes, HaveSame}
use Rattle.query_walks.proofs.Downward.{sound, rooted}
use Rattle.query_walks.proofs.Ordered.{has_listed, same_filter, in_tree_node}
use Rattle.query_grammar.proofs.Kept as query
use Rattle.query_grammar.proofs.Kept.{filtered_is, all_filtered_is}
use Rattle.query_grammar.proofs.Numbers.{has_both, has_first, has_at, kept_is, from_piece, taken_is, behind_is}
use Rattle.query_grammar.proofs.Truths.{no_true}

-- ## Hunters

module _ (p : Page) where
  child_nodes : (n x : ℕ) → has_number (at (nodes p) n).children x ≡ true → x < length (nodes p)
  child_nodes n x h = child_in (nodes p) (sound p) n x (sym (has_listed x (at (nodes p) n).children) ∙ h)

  below_nodes : (n x : ℕ) → has_number (below (nodes p) n) x ≡ true → x < length (nodes p)
  below_nodes n x h = let q = from_piece (within (nodes p)) (at (nodes p) n).children x h in in_tree_node (nodes p) (sound p) x (q.0) (child_nodes n (q.0) (q.1)) (q.2)

  behind_nodes : (r u : Option ℕ) (n x : ℕ) → has_number (element_behind (links (nodes p) r) u n) x ≡ true → x < length (nodes p)
  behind_nodes r None n x h = absurd (no_true h)
  behind_nodes r (Some q) n x h =
      let rest = after_number n (at (nodes p) q).children in
      child_nodes q x (behind_is n (at (nodes p) q).children x (kept_is (is_element (nodes p)) rest x (taken_is 1 (filter (is_element (nodes p)) rest) x h)))

  next_nodes : (r : Option ℕ) (n x : ℕ) → has_number (next_element (links (nodes p) r) n) x ≡ true → x < length (nodes p)
  next_nodes r n x h = behind_nodes r (parent_within (nodes p) r n) n x h

  hunted_nodes : (r : Option ℕ) (h : Hunter) (n x : ℕ) → has_number (hunted (nodes p) r h n) x ≡ true → x < length (nodes p)
  hunted_nodes r (hunter.Tag tag) n x h = below_nodes n x (kept_is (is_tagged (nodes p) tag) (below (nodes p) n) x h)
  hunted_nodes r (hunter.Id w) n x h = below_nodes n x (kept_is (has_id (nodes p) w) (below (nodes p) n) x h)
  hunted_nodes r (hunter.Child tag) n x h = child_nodes n x (kept_is (is_tagged (nodes p) tag) (at (nodes p) n).children x h)
  hunted_nodes r (hunter.Next tag) n x h = next_nodes r n x (kept_is (is_tagged (nodes p) tag) (next_element (links (nodes p) r) n) x h)
  hunted_nodes r hunter.Children n x h = child_nodes n x (kept_is (is_element (nodes p)) (at (nodes p) n).children x h)
  hunted_nodes r hunter.All n x h = below_nodes n x (kept_is (is_element (nodes p)) (below (nodes p) n) x h)

  pub all_hunted_nodes : (r : Option ℕ) (h : Hunter) (ns found : List ℕ) → ((x : ℕ) → has_number found x ≡ has_number (flat_map (hunted (nodes p) r h) ns) x) → AreNodes p found
  all_hunted_nodes r h ns found e x there =
      let q = from_piece (hunted (nodes p) r h) ns x (sym (e x) ∙ there) in
      hunted_nodes r h (q.0) x (q.2)

-- ## Document order

pub in_range : (n a x : ℕ) → has_number (range_with_len a n) x ≡ true → x < a + n
in_range zero a x h = absurd (no_true h)
in_range (suc n) a x h = ⊎_elim (λ e. let same = eqb-true x a e in omega (arith, same)) (λ e. omega (arith, in_range n (a + 1) x e)) (or_cases (eqb x a) (has_number (range_with_len (a + 1) n) x) h)

root_node : (p : Page) (o : Owner) → is_owner o ≡ true → (r : Option ℕ) → root p o ≡ r → (x : ℕ) → has_number (option_to_list r) x ≡ true → x < length (nodes p)
root_node p o own None e x h = absurd (no_true h)
root_node p o own (Some r) e x h = ⊎_elim
    (λ same. subst (λ y. y < length (nodes p)) (sym (eqb-true x r same)) ((rooted p).is_in o r own e))
    (λ none. absurd (no_true none))
    (or_cases (eqb x r) false h)

pub top_node : (p : Page) (o : Owner) → is_owner o ≡ true → (x : ℕ) → has_number (tops (nodes p) (root p o) o) x ≡ true → x < length (nodes p)
top_node p o own x h = ⊎_elim
    (λ e. root_node p o own (root p o) refl x e)
    (λ e. omega (arith, in_range (length (nodes p)) 0 x (kept_is (is_loose (nodes p) (root p o) o) (range_with_len 0 (length (nodes p))) x e)))
    (or_cases _ _ (sym (has_both x (option_to_list (root p o)) (filter (is_loose (nodes p) (root p o) o) (range_with_len 0 (length (nodes p))))) ∙ h))

ordered_nodes : (p : Page) (o : Owner) → is_owner o ≡ true → (ns : List ℕ) → AreNodes p (in_order (nodes p) (root p o) o ns)
ordered_nodes p o own ns x h =
    let q = from_piece (within (nodes p)) (tops (nodes p) (root p o) o) x (kept_is (has_number ns) (document (nodes p) (root p o) o) x h) in
    in_tree_node (nodes p) (sound p) x (q.0) (top_node p o own (q.0) (q.1)) (q.2)

pub in_order_nodes : (p : Page) (o : Owner) → is_owner o ≡ true → (ns list : List ℕ) → list ≡ in_order (nodes p) (root p o) o ns → AreNodes p list
in_order_nodes p o own ns list e = subst (λ l. AreNodes p l) (sym e) (ordered_nodes p o own ns)

-- the order goes by what is found of the owner's trees
pub same_order : (p : Page) (o : Owner) (ns ms : List ℕ) → HaveSame p o ns ms → in_order (nodes p) (root p o) o ns ≡ in_order (nodes p) (root p o) o ms
same_order p o ns ms h = same_filter (has_number ns) (has_number ms) (document (nodes p) (root p o) o) h

-- what a step finds
pub step_same : (p : Page) (o : Owner) (focus : Option ℕ) (h : Hunter) (fs : List StepFilter) (s : Step) (starts list : List ℕ) → h ≡ s.hunter → fs ≡ s.filters →
    list ≡ in_order (nodes p) (root p o) o (flat_map (hunted (nodes p) (root p o) h) starts) →
    all_filtered (nodes p) focus fs list ≡ all_filtered (nodes p) focus s.filters (in_order (nodes p) (root p o) o (flat_map (hunted (nodes p) (root p o) s.hunter) starts))
step_same p o focus h fs s starts list eh ef el =
    ap (λ gs. all_filtered (nodes p) focus gs list) ef
    ∙ ap (all_filtered (nodes p) focus s.filters) (el ∙ ap (λ g. in_order (nodes p) (root p o) o (flat_map (hunted (nodes p) (root p o) g) starts)) eh)

-- ## Filters

pub filter_nodes : (p : Page) (focus : Option ℕ) (f : StepFilter) (ns list : List ℕ) → AreNodes p ns → list ≡ filtered (nodes p) focus f ns → AreNodes p list
filter_nodes p focus f ns list h e x there = h x (filtered_is (look (nodes p)) focus f ns x (sym (ap (λ l. has_number l x) e) ∙ there))

pub step_nodes : (p : Page) (o : Owner) → is_owner o ≡ true → (focus : Option ℕ) (fs : List StepFilter) (ns list : List ℕ) → list ≡ all_filtered (nodes p) focus fs (in_order (nodes p) (root p o) o ns) → AreNodes p list
step_nodes p o own focus fs ns list e x there =
    ordered_nodes p o own ns x (all_filtered_is (look (nodes p)) focus fs (in_order (nodes p) (root p o) o ns) x (sym (ap (λ l. has_number l x) e) ∙ there))

pub node_at : (p : Page) (ns : List ℕ) (i d : ℕ) → AreNodes p ns → i < length ns → get_or ns i d < length (nodes p)
node_at p ns i d h lt = h (get_or ns i d) (has_at ns i d lt)

-- ## No starts

pub finds_none : (p : Page) (o : Owner) (focus : Option ℕ) (q : List Step) → finds p o focus [] q ≡ []
finds_none p o focus q = query.finds_none (sight p o focus) q

-- ## Steps and filters, one by one

pub filter_left : (k : List Entry) (focus : Option ℕ) (fs : List StepFilter) (i : ℕ) (f : StepFilter) (ns list all : List ℕ) → i < length fs → f ≡ get_or fs i f → list ≡ filtered k focus f ns → all_filtered k focus (drop i fs) ns ≡ all → all_filtered k focus (drop (i + 1) fs) list ≡ all
filter_left k focus fs i f ns list all lt e en inv =
    ap (λ l. all_filtered k focus (drop (i + 1) fs) l) (en ∙ ap (λ g. filtered k focus g ns) e)
    ∙ sym (at_drop_more (λ gs. all_filtered k focus gs ns) fs i f lt) ∙ inv

pub steps_left : (p : Page) (o : Owner) (focus : Option ℕ) (q : List Step) (i : ℕ) (s : Step) (ns starts list all : List ℕ) → i < length q → s ≡ get_or q i s → starts ≡ ns →
    list ≡ all_filtered (nodes p) focus s.filters (in_order (nodes p) (root p o) o (flat_map (hunted (nodes p) (root p o) s.hunter) starts)) →
    finds p o focus ns (drop i q) ≡ all → finds p o focus list (drop (i + 1) q) ≡ all
steps_left p o focus q i s ns starts list all lt e es en inv =
    ap (λ l. finds p o focus l (drop (i + 1) q)) (en ∙ ap (λ l. all_filtered (nodes p) focus s.filters (in_order (nodes p) (root p o) o (flat_map (hunted (nodes p) (root p o) s.hunter) l))) es
    ∙ ap (λ u. all_filtered (nodes p) focus u.filters (in_order (nodes p) (root p o) o (flat_map (hunted (nodes p) (root p o) u.hunter) ns))) e)
    ∙ sym (at_drop_more (λ r. finds p o focus ns r) q i s lt) ∙ inv

-- ## The first start

pub first_has : (xs : List ℕ) (x : ℕ) → slice_get xs 0 ≡ Some x → has_number xs x ≡ true
first_has [] x h = cc
first_has (y ∷ xs) x h = let same : y ≡ x = cc in subst (λ z. has_number (y ∷ xs) z ≡ true) same (has_first y xs)

pub no_first : (xs : List ℕ) → slice_get xs 0 ≡ None → xs ≡ []
no_first [] h = refl
no_first (y ∷ xs) h = cc
