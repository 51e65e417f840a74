-- Plain trees, child by child.
use Rattle.std.proofs.Common.{◌≡◌, ℕ, zero, suc, ◌+◌, ◌<◌, ◌≤◌, max, List, [], ◌∷◌, ◌++◌, map, Bool, true, false, refl, sym, ap, ◌∙◌, arith, length, get_or, drop}
use Rattle.std.specs.Global.{Vec}
use Rattle.std.proofs.lemmas.List.{at_drop_more, at_drop_all}
use Rattle.plain_tree.specs.declared.plain.Plain.{Plain}
use Rattle.plain_tree.specs.declared.plain.Attr.{Attr}
use Rattle.plain_tree.specs.declared.plain.Plain.TheVariants as plain
use Rattle.plain_tree.specs.Trees.{Attribute, Label, TextOf, ElementOf, Trees, End, Node, PlainTrees, beside, joined, unmarked, height, size}
use Rattle.plain_tree.specs.Plains.{attribute_of, placed, placed_all, unplaced, unplaced_all}
use Rattle.plain_tree.proofs.Lists.{placed_text, placed_element, placed_more, beside_assoc, beside_end}
use Rattle.tree_ops.specs.Labels.{is_text}
use Rattle.std.specs.List.{filter}
use Rattle.page_nodes.specs.Copies.{taken, taken_label, is_taken}
use Rattle.page_nodes.specs.Entries.{Entry, at, tree, IsSound}
use Rattle.page_nodes.proofs.Shows.{Shows, none, one_more, shows_one, shows_tree}

pub unmarked_beside : {M : Type 0} (a b : Trees M) → unmarked (beside a b) ≡ beside (unmarked a) (unmarked b)
unmarked_beside End b = refl
unmarked_beside (Node m l ks ts) b = ap (Node tt l (unmarked ks)) (unmarked_beside ts b)

pub unplaced_first : (p : Plain) (ps : List Plain) → unplaced_all (p ∷ ps) ≡ beside (unplaced p) (unplaced_all ps)
unplaced_first p ps = unmarked_beside (placed p) (placed_all ps)

pub unplaced_more : (ps : List Plain) (p : Plain) → unplaced_all (ps ++ p ∷ []) ≡ beside (unplaced_all ps) (unplaced p)
unplaced_more ps p = ap unmarked (placed_more ps p) ∙ unmarked_beside (placed_all ps) (placed p)

pub unplaced_text : (p : Plain) (text : List ℕ) (at : ℕ) → p ≡ plain.Text text at → unplaced p ≡ Node tt (TextOf text) End End
unplaced_text p text at e = ap unplaced e ∙ ap unmarked (placed_text text at)

pub unplaced_element : (p : Plain) (tag : List ℕ) (attrs : Vec Attr) (children : Vec Plain) (at : ℕ) → p ≡ plain.Element tag attrs children at → unplaced p ≡ Node tt (ElementOf tag (map attribute_of attrs.items)) (unplaced_all children.items) End
unplaced_element p tag attrs children at e = ap unplaced e ∙ ap unmarked (placed_element tag attrs children at)

pub height_both : {M : Type 0} (a b : Trees M) → height (beside a b) ≡ max (height a) (height b)
height_both End b = omega arith
height_both (Node m l ks ts) b = omega (arith, height_both ts b)

pub size_both : {M : Type 0} (a b : Trees M) → size (beside a b) ≡ size a + size b
size_both End b = omega arith
size_both (Node m l ks ts) b = omega (arith, size_both ts b)

-- heights of the children of an element
height_first : (p : Plain) (ps : List Plain) → height (unplaced_all (p ∷ ps)) ≡ max (height (unplaced p)) (height (unplaced_all ps))
height_first p ps = ap height (unplaced_first p ps) ∙ height_both (unplaced p) (unplaced_all ps)

pub height_element : (p : Plain) (tag : List ℕ) (attrs : Vec Attr) (children : Vec Plain) (at : ℕ) → p ≡ plain.Element tag attrs children at → height (unplaced p) ≡ height (unplaced_all children.items) + 1
height_element p tag attrs children at e = let h = ap height (unplaced_element p tag attrs children at e) in omega (arith, h)

pub height_child : (ps : List Plain) (i : ℕ) (p : Plain) → i < length ps → p ≡ get_or ps i p → height (unplaced p) ≤ height (unplaced_all ps)
height_child [] i p lt e = absurd (omega (arith, lt))
height_child (q ∷ ps) zero p lt e = omega (arith, height_first q ps, ap (λ r. height (unplaced r)) e)
height_child (q ∷ ps) (suc i) p lt e = omega (arith, height_first q ps, height_child ps i p (omega (arith, lt)) e)

pub low_step : (ps : List Plain) (i most : ℕ) (p : Plain) → i < length ps → p ≡ get_or ps i p → height (unplaced p) + 1 ≤ most → height (unplaced_all ps) + 1 ≤ max most (height (unplaced_all (drop i ps)) + 1) → height (unplaced_all ps) + 1 ≤ max most (height (unplaced_all (drop (i + 1) ps)) + 1)
low_step ps i most p lt e low inv =
    let d : height (unplaced_all (drop i ps)) ≡ height (unplaced_all (get_or ps i p ∷ drop (i + 1) ps)) = at_drop_more (λ l. height (unplaced_all l)) ps i p lt in
    omega (arith, inv, d, height_first (get_or ps i p) (drop (i + 1) ps), ap (λ q. height (unplaced q)) e, low)

pub low_done : (ps : List Plain) (i most : ℕ) → length ps ≤ i → 0 < most → height (unplaced_all ps) + 1 ≤ max most (height (unplaced_all (drop i ps)) + 1) → height (unplaced_all ps) + 1 ≤ most
low_done ps i most le pos inv = let d = at_drop_all (λ l. height (unplaced_all l)) ps i le in omega (arith, d, inv, pos)

-- a node, and what its copy is
taken_node : (ids : Bool) (m : ℕ) (l : Label) (ks ts : Trees ℕ) → taken ids (Node m l ks ts) ≡ Node tt (taken_label ids l) (taken ids ks) (taken ids ts)
taken_node true m l ks ts = refl
taken_node false m l ks ts = refl

-- an element, and its copy
taken_element : (ids : Bool) (tag : List ℕ) (attributes : List Attribute) → taken_label ids (ElementOf tag attributes) ≡ ElementOf tag (filter (is_taken ids) attributes)
taken_element false tag attributes = refl
taken_element true tag attributes = ap (ElementOf tag) (all_kept attributes)
  where
    all_kept : (xs : List Attribute) → xs ≡ filter (is_taken true) xs
    all_kept [] = refl
    all_kept (x ∷ xs) = ap (λ y. x ∷ y) (all_kept xs)

-- the plain tree of an element
pub element_taken : (ids : Bool) (l : Label) (tag : List ℕ) (attributes : List Attribute) (attrs : Vec Attr) (children : Vec Plain) (at : ℕ) → l ≡ ElementOf tag attributes → map attribute_of attrs.items ≡ filter (is_taken ids) attributes → unplaced (plain.Element tag attrs children at) ≡ Node tt (taken_label ids l) (unplaced_all children.items) End
element_taken ids l tag attributes attrs children at e same =
    unplaced_element _ tag attrs children at refl
    ∙ ap (λ y. Node tt (ElementOf tag y) (unplaced_all children.items) End) same
    ∙ ap (λ y. Node tt y (unplaced_all children.items) End) (sym (ap (taken_label ids) e ∙ taken_element ids tag attributes))

taken_end : (ids : Bool) → taken ids End ≡ End
taken_end true = refl
taken_end false = refl

-- the plain trees of some nodes
abbrev pub taken_at : List Entry → Bool → List ℕ → PlainTrees
taken_at k ids ns = joined (map (λ n. taken ids (tree k n)) ns)

taken_shown : (k : List Entry) → IsSound k → (ids : Bool) (ns : List ℕ) (ts : Trees ℕ) → Shows k ns ts → taken ids ts ≡ taken_at k ids ns
taken_shown k s true [] _ none = refl
taken_shown k s false [] _ none = refl
taken_shown k s ids (n ∷ ns) _ (one_more {ks = ks} {ts = ts} hk hs) =
    let e : tree k n ≡ Node n (at k n).label ks End = shows_one k (n ∷ []) _ _ (shows_tree k s n) (one_more hk none) in
    taken_node ids n (at k n).label ks ts ∙ ap (Node tt (taken_label ids (at k n).label) (taken ids ks)) (taken_shown k s ids ns ts hs) ∙ ap (λ t. beside t (taken_at k ids ns)) (sym (ap (taken ids) e ∙ taken_node ids n (at k n).label ks End ∙ ap (Node tt (taken_label ids (at k n).label) (taken ids ks)) (taken_end ids)))

pub taken_tree : (k : List Entry) → IsSound k → (ids : Bool) (n : ℕ) → taken ids (tree k n) ≡ Node tt (taken_label ids (at k n).label) (taken_at k ids (at k n).children) End
taken_tree k s ids n = of (tree k n) (shows_tree k s n)
  where
    of : (ts : Trees ℕ) → Shows k (n ∷ []) ts → taken ids ts ≡ Node tt (taken_label ids (at k n).label) (taken_at k ids (at k n).children) End
    of _ (one_more {ks = ks} {ts = ts} hk none) = taken_node ids n (at k n).label ks End ∙ ap (Node tt (taken_label ids (at k n).label) (taken ids ks)) (taken_end ids) ∙ ap (λ t. Node tt (taken_label ids (at k n).label) t End) (taken_shown k s ids (at k n).children ks hk)

-- one more child done
pub taken_step : (k : List Entry) (ids : Bool) (ps qs : List Plain) (p : Plain) (xs : List ℕ) (i : ℕ) (all : PlainTrees) → i < length xs → qs ≡ ps ++ p ∷ [] → unplaced p ≡ taken ids (tree k (get_or xs i 0)) → beside (unplaced_all ps) (taken_at k ids (drop i xs)) ≡ all → beside (unplaced_all qs) (taken_at k ids (drop (i + 1) xs)) ≡ all
taken_step k ids ps qs p xs i all lt eq ep inv =
    let rest = taken_at k ids (drop (i + 1) xs) in
    ap (λ l. beside (unplaced_all l) rest) eq
    ∙ ap (λ t. beside t rest) (unplaced_more ps p)
    ∙ beside_assoc (unplaced_all ps) (unplaced p) rest
    ∙ ap (λ t. beside (unplaced_all ps) (beside t rest)) ep
    ∙ ap (beside (unplaced_all ps)) (sym (at_drop_more (taken_at k ids) xs i 0 lt))
    ∙ inv

pub taken_done : (k : List Entry) → IsSound k → (ids : Bool) (n : ℕ) (l : Label) (ps : List Plain) (xs : List ℕ) (i : ℕ) → length xs ≤ i → l ≡ (at k n).label → beside (unplaced_all ps) (taken_at k ids (drop i xs)) ≡ taken_at k ids (at k n).children → Node tt (taken_label ids l) (unplaced_all ps) End ≡ taken ids (tree k n)
taken_done k s ids n l ps xs i le el inv =
    let e : unplaced_all ps ≡ taken_at k ids (at k n).children = sym (beside_end (unplaced_all ps)) ∙ ap (beside (unplaced_all ps)) (sym (at_drop_all (taken_at k ids) xs i le)) ∙ inv in
    ap (λ y. Node tt (taken_label ids y) (unplaced_all ps) End) el ∙ ap (λ t. Node tt (taken_label ids (at k n).label) t End) e ∙ sym (taken_tree k s ids n)

-- a text node has no plain children
pub no_plains : (k : List Entry) → IsSound k → (n : ℕ) (l : Label) (ps : List Plain) (xs : List ℕ) (i : ℕ) → l ≡ (at k n).label → xs ≡ (at k n).children → length ps ≡ i → i ≤ length xs → is_text l ≡ true → ps ≡ []
no_plains k s n l [] xs i el ex c le t = refl
no_plains k s n l (p ∷ ps) xs i el ex c le t = absurd (omega (arith, c, le, ap length ex, s.texts n (ap is_text (sym el) ∙ t)))

-- a child is lower than its element
pub height_below : (p : Plain) (tag : List ℕ) (attrs : Vec Attr) (children : Vec Plain) (at : ℕ) (items : List Plain) (i : ℕ) (child : Plain) → p ≡ plain.Element tag attrs children at → items ≡ children.items → i < length items → child ≡ get_or items i child → height (unplaced child) + 1 ≤ height (unplaced p)
height_below p tag attrs children at items i child e ei lt ec = omega (arith, height_element p tag attrs children at e, ap (λ l. height (unplaced_all l)) ei, height_child items i child lt ec)
