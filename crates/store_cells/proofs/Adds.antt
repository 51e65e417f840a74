-- A cell is added.
use Rattle.std.proofs.Common.{◌≡◌, ℕ, zero, suc, ◌+◌, ◌<◌, ◌≤◌, List, [], ◌∷◌, ◌++◌, length, refl, sym, ap, ◌∙◌, subst, Option, Some, None, arith, Bool, true, false, eqb, if◌then◌else◌, length-append}
use Rattle.std.specs.List.{count_by}
use Rattle.std.specs.Prelude.{Result, Ok, Err, IfOk, IfSome}
use Rattle.std.specs.Option.{option_map, option_map_or}
use Rattle.std.specs.Map.{lookup}
use Rattle.std.proofs.lemmas.List.{length-map, map-append}
use Rattle.std.proofs.lemmas.Bool.Decides.{nat_tests}
use Rattle.indexmap.specs.IndexMap.{insert_entry}
use Rattle.store_cells.specs.declared.cell.Head.{Head}
use Rattle.store_cells.specs.declared.counts.Counts.{Counts}
use Rattle.store_cells.specs.Lists.{changed}
use Rattle.store_cells.specs.Cells.{PlainCell, is_bunch, is_raw, kept_cells, is_scope, node_in}
use Rattle.store_cells.specs.Numbered.{NumberedCell, cells_of, heads, own_head, node_head, plain}
use Rattle.store_cells.specs.Shape.{AreClosed, IsWellFormed, AreWellFormed, AreOrdered, IsOrdered, AreRaws, AreWithin, IsBase, IsShape, bunch_at, scope_at, links_at, scope_in, node_head_at, Added}
use Rattle.store_cells.specs.Costs.{paid}
use Rattle.store_cells.specs.Born.{raw_place}
use Rattle.store_cells.proofs.Lists.{none_some, some_same, by_push, get_older, get_within, count_before-push, count_by-push, length-changed}
use Rattle.store_cells.proofs.Places.{position_push, position_step}
use Rattle.store_cells.proofs.Entries.{node_found, node_other}
use Rattle.store_cells.proofs.Writes.{all_fine_stay}

-- lookups do not see a later cell
pub scope_older : (hs : List Head) (x : Head) (j : ℕ) → j < length hs → scope_at (hs ++ x ∷ []) j ≡ scope_at hs j
scope_older hs x j lt = ap (λ (p : Option Head). option_map_or (λ h. is_scope h.form) p false) (get_older hs x j lt)

pub bunch_older : (hs : List Head) (x : Head) (j : ℕ) → j < length hs → bunch_at (hs ++ x ∷ []) j ≡ bunch_at hs j
bunch_older hs x j lt = ap (λ (p : Option Head). option_map_or (λ h. is_bunch h.form) p false) (get_older hs x j lt)

pub links_older : (hs : List Head) (x : Head) (j : ℕ) → j < length hs → links_at (hs ++ x ∷ []) j ≡ links_at hs j
links_older hs x j lt = ap (λ (p : Option Head). option_map_or (λ h. h.links) p 0) (get_older hs x j lt)

module _ (hs : List Head) (x : Head) where
  ordered_older : (i : ℕ) (h : Head) → i ≤ length hs → IsOrdered hs i h → IsOrdered (hs ++ x ∷ []) i h
  ordered_older i h le o = record {
    up = up h.up o.up;
    scope = scope (scope_in h.form) o.scope;
    links = o.links ∙ ap (λ n. if is_scope h.form then 0 else n) (sym (links h.up o.up));
    few = o.few;
    below = o.below;
    owned = o.owned;
    based = o.based;
    unbunched = λ g. unbunched h.up o.up (o.unbunched g);
    number = λ w g. o.number w g ∙ sym (count_before-push (own_head w) hs x i le);
  }
    where
      up : (p : Option ℕ) → IfSome p (λ j. (j < i) × (scope_at hs j ≡ is_scope h.form)) → IfSome p (λ j. (j < i) × (scope_at (hs ++ x ∷ []) j ≡ is_scope h.form))
      up None g = tt
      up (Some j) g = (g.0, scope_older hs x j (omega (arith, g.0, le)) ∙ g.1)

      unbunched : (p : Option ℕ) → IfSome p (λ j. (j < i) × (scope_at hs j ≡ is_scope h.form)) → IfSome p (λ j. bunch_at hs j ≡ false) → IfSome p (λ j. bunch_at (hs ++ x ∷ []) j ≡ false)
      unbunched None g k = tt
      unbunched (Some j) g k = bunch_older hs x j (omega (arith, g.0, le)) ∙ k

      scope : (p : Option ℕ) → IfSome p (λ j. (j < i) × (scope_at hs j ≡ true)) → IfSome p (λ j. (j < i) × (scope_at (hs ++ x ∷ []) j ≡ true))
      scope None g = tt
      scope (Some j) g = (g.0, scope_older hs x j (omega (arith, g.0, le)) ∙ g.1)

      links : (p : Option ℕ) → IfSome p (λ j. (j < i) × (scope_at hs j ≡ is_scope h.form)) → option_map_or (λ j. suc (links_at (hs ++ x ∷ []) j)) p 0 ≡ option_map_or (λ j. suc (links_at hs j)) p 0
      links None g = refl
      links (Some j) g = ap suc (links_older hs x j (omega (arith, g.0, le)))

  pub ordered_push : AreOrdered hs → IsOrdered hs (length hs) x → AreOrdered (hs ++ x ∷ [])
  ordered_push all new = record {
    each = by_push hs x (λ i h. IsOrdered (hs ++ x ∷ []) i h) (λ i h g. ordered_older i h (omega (arith, get_within hs i h g)) (all.each i h g)) (ordered_older (length hs) x (omega arith) new);
  }

pub fine_push : (names : List (List ℕ)) (size : ℕ) (cs : List NumberedCell) (c : NumberedCell) → AreWellFormed names size cs → IsWellFormed names size c → AreWellFormed names size (cs ++ c ∷ [])
fine_push names size [] c h k = (k, tt)
fine_push names size (x ∷ cs) c h k = (h.0, fine_push names size cs c h.1 k)

pub heads_push : (cs : List NumberedCell) (c : NumberedCell) → heads (cs ++ c ∷ []) ≡ heads cs ++ c.head ∷ []
heads_push cs c = map-append (λ d. d.head) cs (c ∷ [])

pub base_push : (names : List (List ℕ)) (cs : List NumberedCell) (c : NumberedCell) → IsBase names cs → IsWellFormed names (length cs + 1) c → IsOrdered (heads cs) (length cs) c.head → IsBase names (cs ++ c ∷ [])
base_push names cs c base fine new = record {
  table = base.table;
  words = base.words;
  fine = subst (λ n. AreWellFormed names n (cs ++ c ∷ [])) (sym (length-append cs (c ∷ []))) (fine_push names (length cs + 1) cs c (all_fine_stay names names (omega arith) (λ k lt. refl) (length cs) (length cs + 1) cs (omega arith) base.fine) fine);
  ordered = subst AreOrdered (sym (heads_push cs c)) (ordered_push (heads cs) c.head base.ordered (subst (λ n. IsOrdered (heads cs) n c.head) (sym (length-map cs (λ d. d.head))) new));
}

-- `add`
pub added_ok : (names : List (List ℕ)) (cs after : List NumberedCell) (c : NumberedCell) {E : Type 0} (r : Result ℕ E) → IsBase names cs → IsWellFormed names (length cs + 1) c → IsOrdered (heads cs) (length cs) c.head → IfOk r (λ id. (id ≡ length cs) × (after ≡ cs ++ c ∷ [])) → IfOk r (λ id. Added names cs names after c id)
added_ok names cs after c (Ok id) base fine new ok = record {
  place = ok.0;
  items = ok.1;
  base = subst (IsBase names) (sym ok.1) (base_push names cs c base fine new);
}
added_ok names cs after c (Err e) base fine new ok = tt

-- the cells of nodes
pushed : (n : ℕ) (hs : List Head) (x : Head) → node_head_at n (hs ++ x ∷ []) ≡ option_map_or (λ i. Some i) (node_head_at n hs) (if is_raw n x.form then Some (length hs) else None)
pushed n hs x = position_push (λ (h : Head). is_raw n h.form) hs x

some_again : (o : Option ℕ) → option_map_or (λ i. Some i) o None ≡ o
some_again None = refl
some_again (Some i) = refl

-- a cell of no node
pub raws_push : (hs : List Head) (raws : List (ℕ × ℕ)) (x : Head) → AreRaws hs raws → node_in x.form ≡ None → AreRaws (hs ++ x ∷ []) raws
raws_push hs raws x h none = record {
  found = λ n. h.found n ∙ sym (stay n);
  one = λ i n y at node. stay n ∙ by_push hs x (λ i y. node_in y.form ≡ Some n → node_head_at n hs ≡ Some i) (λ k z g e. h.one k n z g e) (λ e. absurd (none_some (sym none ∙ e))) i y at node;
}
  where
    stay : (n : ℕ) → node_head_at n (hs ++ x ∷ []) ≡ node_head_at n hs
    stay n =
        let no_node : is_raw n x.form ≡ false = ap (λ (o : Option ℕ). option_map_or (λ m. eqb n m) o false) none in
        pushed n hs x ∙ ap (λ b. option_map_or (λ i. Some i) (node_head_at n hs) (if b then Some (length hs) else None)) no_node ∙ some_again (node_head_at n hs)

-- the cell of a node that had none
pub raws_node : (hs : List Head) (raws : List (ℕ × ℕ)) (node : ℕ) → AreRaws hs raws → lookup (eqb node) raws ≡ None → AreRaws (hs ++ node_head node ∷ []) (insert_entry eqb raws node (length hs))
raws_node hs raws node h none = record {
  found = λ n. by n (eqb n node) refl;
  one = λ i n y at is. by_push hs (node_head node) (λ i y. node_in y.form ≡ Some n → node_head_at n (hs ++ node_head node ∷ []) ≡ Some i) (λ k z g e. pushed n hs (node_head node) ∙ ap (λ (o : Option ℕ). option_map_or (λ i. Some i) o (if eqb n node then Some (length hs) else None)) (h.one k n z g e)) (λ e. let same : node ≡ n = some_same node n e in subst (λ m. node_head_at m (hs ++ node_head node ∷ []) ≡ Some (length hs)) same here) i y at is;
}
  where
    absent : node_head_at node hs ≡ None
    absent = sym (h.found node) ∙ none

    self : eqb node node ≡ true
    self = grind (arith, nat_tests)

    here : node_head_at node (hs ++ node_head node ∷ []) ≡ Some (length hs)
    here = pushed node hs (node_head node) ∙ ap (λ (o : Option ℕ). option_map_or (λ i. Some i) o (if eqb node node then Some (length hs) else None)) absent ∙ ap (λ b. if b then Some (length hs) else None) self

    equal : (n : ℕ) → eqb n node ≡ true → node ≡ n
    equal n e = grind (arith, nat_tests, e)

    apart : (n : ℕ) → eqb n node ≡ false → eqb n node ≡ false
    apart n e = e

    by : (n : ℕ) (b : Bool) → eqb n node ≡ b → lookup (eqb n) (insert_entry eqb raws node (length hs)) ≡ node_head_at n (hs ++ node_head node ∷ [])
    by n true e = subst (λ m. lookup (eqb m) (insert_entry eqb raws node (length hs)) ≡ node_head_at m (hs ++ node_head node ∷ [])) (equal n e) (node_found node (length hs) raws ∙ sym here)
    by n false e = node_other n node (length hs) raws e ∙ h.found n ∙ sym (pushed n hs (node_head node) ∙ ap (λ b. option_map_or (λ i. Some i) (node_head_at n hs) (if b then Some (length hs) else None)) e ∙ some_again (node_head_at n hs))

-- the same place in plain data
pub raw_place_is : (names : List (List ℕ)) (n : ℕ) (cs : List NumberedCell) → node_head_at n (heads cs) ≡ raw_place n (cells_of names cs)
raw_place_is names n [] = refl
raw_place_is names n (c ∷ cs) =
    position_step (λ (h : Head). is_raw n h.form) c.head (heads cs) ∙ ap (λ (o : Option ℕ). if is_raw n c.head.form then Some 0 else option_map suc o) (raw_place_is names n cs) ∙ sym (position_step (λ (d : PlainCell). is_raw n d.form) (plain names c) (cells_of names cs))

-- counts
pub cells_paid_own : (ks : List Counts) (w c s u v : ℕ) → w < length ks → kept_cells (changed ks w (paid c s u)) v ≡ kept_cells ks v + (if eqb w v then c else 0)
cells_paid_own [] w c s u v lt = absurd (omega (arith, lt))
cells_paid_own (k ∷ ks) zero c s u zero lt = ap (λ b. k.cells + (if b then c else 0)) (sym zero_self)
  where
    zero_self : eqb 0 0 ≡ true
    zero_self = refl
cells_paid_own (k ∷ ks) zero c s u (suc v) lt = sym (ap (λ b. kept_cells ks v + (if b then c else 0)) (apart v) ∙ add_zero)
  where
    apart : (v : ℕ) → eqb 0 (suc v) ≡ false
    apart v = grind (arith, nat_tests)

    add_zero : kept_cells ks v + 0 ≡ kept_cells ks v
    add_zero = omega arith
cells_paid_own (k ∷ ks) (suc w) c s u zero lt = sym (ap (λ b. k.cells + (if b then c else 0)) (apart w) ∙ add_zero)
  where
    apart : (w : ℕ) → eqb (suc w) 0 ≡ false
    apart w = grind (arith, nat_tests)

    add_zero : k.cells + 0 ≡ k.cells
    add_zero = omega arith
cells_paid_own (k ∷ ks) (suc w) c s u (suc v) lt = cells_paid_own ks w c s u v (omega (arith, lt)) ∙ ap (λ b. kept_cells ks v + (if b then c else 0)) (sucs w v)
  where
    sucs : (w v : ℕ) → eqb w v ≡ eqb (suc w) (suc v)
    sucs w v = by (eqb w v) refl
      where
        by : (b : Bool) → eqb w v ≡ b → b ≡ eqb (suc w) (suc v)
        by true e = grind (arith, nat_tests, e)
        by false e = grind (arith, nat_tests, e)

-- a shape with one cell more
pub shape_added : (names new : List (List ℕ)) (cs after : List NumberedCell) (raws : List (ℕ × ℕ)) (kept counts : List Counts) (h : Head) (w c s : ℕ) → IsShape names cs raws kept → w < 32 → IsBase new after → AreClosed (cells_of new after) → heads after ≡ heads cs ++ h ∷ [] → node_in h.form ≡ None → ((v : ℕ) → (if own_head v h then 1 else 0) ≡ (if eqb w v then c else 0)) → AreWithin counts → counts ≡ changed kept w (paid c s 0) → IsShape new after raws counts
shape_added names new cs after raws kept counts h w c s shape lt base closed hs none own within e = record {
  base = base;
  closed = closed;
  nodes = subst (λ (l : List Head). AreRaws l raws) (sym hs) (raws_push (heads cs) raws h shape.nodes none);
  counted = ap length e ∙ length-changed kept w (paid c s 0) ∙ shape.counted;
  within = within;
  exact = λ v g.
      ap (λ (ks : List Counts). kept_cells ks v) e ∙ cells_paid_own kept w c s 0 v (omega (arith, lt, shape.counted)) ∙ ap (λ n. n + (if eqb w v then c else 0)) (shape.exact v g) ∙ ap (λ n. count_by (own_head v) (heads cs) + n) (sym (own v))
      ∙ sym (ap (count_by (own_head v)) hs ∙ count_by-push (own_head v) (heads cs) h);
}
