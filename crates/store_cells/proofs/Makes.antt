-- What `make` and `add_raw` answer.
use Rattle.std.proofs.Common.{◌≡◌, ℕ, suc, ◌+◌, ◌<◌, ◌≤◌, List, [], ◌∷◌, ◌++◌, length, refl, sym, ap, ◌∙◌, subst, Option, Some, None, arith, Bool, true, false, eqb, if◌then◌else◌}
use Rattle.std.specs.List.{count_by}
use Rattle.std.specs.Prelude.{IfSome, ◌&&◌, MatchOption}
use Rattle.std.specs.Option.{option_map_or}
use Rattle.std.specs.Map.{lookup}
use Rattle.std.proofs.lemmas.List.{length-map, map-append}
use Rattle.std.proofs.lemmas.Bool.Decides.{nat_tests}
use Rattle.indexmap.specs.IndexMap.{insert_entry}
use Rattle.keyed_names.specs.Interned.{IsTable}
use Rattle.code_units.specs.declared.owner.Owner.TheVariants as whose
use Rattle.store_cells.specs.declared.kind.Form.{Form}
use Rattle.store_cells.specs.declared.kind.Form.TheVariants as form
use Rattle.store_cells.specs.declared.cell.Head.{Head}
use Rattle.store_cells.specs.declared.counts.Counts.{Counts}
use Rattle.store_cells.specs.Lists.{changed, count_before}
use Rattle.store_cells.specs.Cells.{is_bunch, is_bunch_at, PlainCell, Cells, kept_cells, is_scope, is_array, is_own, is_visible_form, is_scope_at, node_in, prototypes, raw_cell}
use Rattle.store_cells.specs.Arrays.{end_of, length_name, count_value}
use Rattle.store_cells.specs.Numbered.{NumberedCell, plain, named, cells_of, heads, own_head, first_numbered, node_head}
use Rattle.store_cells.specs.Shape.{AreClosed, AreEntries, IsArrayTable, IsWellFormed, IsOrdered, AreRaws, AreWords, IsShape, bunch_at, scope_at, links_at, scope_in, Added, head_on}
use Rattle.store_cells.specs.Costs.{paid}
use Rattle.store_cells.specs.Born.{new_cell, made, raw_place}
use Rattle.store_cells.proofs.Lists.{count_before-all, count_by-push}
use Rattle.store_cells.proofs.Indexed.{indexed_written, indexed_none}
use Rattle.store_cells.proofs.Referring.{referring_written}
use Rattle.store_cells.proofs.Writes.{length_here, zero_within}
use Rattle.store_cells.proofs.Heads.{bunch_same, head_at, some_at, links_are, scope_same}
use Rattle.store_cells.proofs.Closed.{closed_push}
use Rattle.store_cells.proofs.Adds.{heads_push, raws_node, raw_place_is}

false_true : false ≡ true → ⊥
false_true g = cc

pub visible_no_scope : (f : Form) → is_visible_form f ≡ true → is_scope f ≡ false
visible_no_scope form.Object e = refl
visible_no_scope form.Array e = refl
visible_no_scope (form.Function p) e = refl
visible_no_scope (form.Native p) e = refl
visible_no_scope form.Scope e = absurd (false_true e)
visible_no_scope form.Bunch e = refl
visible_no_scope (form.RawNode p) e = refl
visible_no_scope form.Global e = refl

pub visible_no_node : (f : Form) → is_visible_form f ≡ true → node_in f ≡ None
visible_no_node form.Object e = refl
visible_no_node form.Array e = refl
visible_no_node (form.Function p) e = refl
visible_no_node (form.Native p) e = refl
visible_no_node form.Scope e = refl
visible_no_node form.Bunch e = refl
visible_no_node (form.RawNode p) e = absurd (false_true e)
visible_no_node form.Global e = refl

same_number : (w v : ℕ) → eqb w v ≡ true → w ≡ v
same_number w v e = grind (arith, nat_tests, e)

first_and : (a b : Bool) → (a && b) ≡ true → a ≡ true
first_and true b e = refl
first_and false b e = e

-- a visible cell of a widget counts for it alone
pub own_visible : (w v : ℕ) (f : Form) → is_visible_form f ≡ true → is_own v (whose.Widget w) f ≡ eqb w v
own_visible w v f e = ap (λ b. eqb w v && b) e ∙ and_true (eqb w v)
  where
    and_true : (b : Bool) → (b && true) ≡ b
    and_true true = refl
    and_true false = refl

-- a new cell on a prototype
module _ (names : List (List ℕ)) (cs : List NumberedCell) (kept : List Counts) {raws : List (ℕ × ℕ)} (shape : IsShape names cs raws kept) (w up number : ℕ) (f : Form) (lt : up < length cs) (no_scope : scope_at (heads cs) up ≡ false) (no_bunch : bunch_at (heads cs) up ≡ false) (few : links_at (heads cs) up < 100) (visible : is_visible_form f ≡ true) (scope : IfSome (scope_in f) (λ j. (j < length cs) × (scope_at (heads cs) j ≡ true))) (widget : w < 32) (counted : number ≡ kept_cells kept w) where
  links_below : links_at (heads cs) up ≤ up
  links_below =
      let k = some_at cs up lt in
      let g = head_at cs up k.0 k.1 in
      let n : links_at (heads cs) up ≡ k.0.head.links = ap (λ (p : Option Head). option_map_or (λ h. h.links) p 0) g in
      omega (arith, n, (shape.base.ordered.each up k.0.head g).below)

  pub new_ordered : IsOrdered (heads cs) (length cs) (head_on (heads cs) w f up number)
  new_ordered = record {
    up = (lt, no_scope ∙ sym (visible_no_scope f visible));
    scope = scope;
    links = sym (ap (λ b. if b then 0 else suc (links_at (heads cs) up)) (visible_no_scope f visible));
    few = omega (arith, few);
    below = omega (arith, lt, links_below);
    owned = λ e. refl;
    based = λ e g. refl;
    unbunched = λ g. no_bunch;
    number = λ v e.
        let is : w ≡ v = same_number w v (first_and (eqb w v) (is_visible_form f) e) in
        counted ∙ shape.exact w widget ∙ sym (count_before-all (own_head w) (heads cs)) ∙ ap (λ n. count_before (own_head w) (heads cs) n) (length-map cs (λ c. c.head)) ∙ ap (λ u. count_before (own_head u) (heads cs) (length cs)) is;
  }

pub first_fine : (names : List (List ℕ)) (size : ℕ) → IsTable names → AreWords names → (h : Head) → IsWellFormed names size (first_numbered h)
first_fine names size table words h = record {
  entries = entries (is_array h.form);
  array = λ a. subst (λ b. IsArrayTable names (record { head = h; elements = []; references = 0; entries = if b then (0, count_value 0) ∷ [] else [] })) (sym a) table_one;
}
  where
    entries : (b : Bool) → AreEntries (length names) size (if b then (0, count_value 0) ∷ [] else [])
    entries true = ((zero_within names table words, tt), tt)
    entries false = tt

    table_one : IsArrayTable names (record { head = h; elements = []; references = 0; entries = (0, count_value 0) ∷ [] })
    table_one = record {
      length = refl;
      indexed = indexed_written names table 0 (zero_within names table words) [] 0 (count_value 0) [] tt (ap end_of (sym (length_here names table words))) (indexed_none names);
      counted = referring_written names 0 0 (count_value 0) [] (ap end_of (sym (length_here names table words)));
    }

pub first_plain : (names : List (List ℕ)) → IsTable names → AreWords names → (hs : List Head) (w number up : ℕ) (f : Form) → plain names (first_numbered (head_on hs w f up number)) ≡ new_cell w f up
first_plain names table words hs w number up f = by (is_array f)
  where
    by : (b : Bool) → (let d : PlainCell = record { owner = whose.Widget w; form = f; up = Some up; pairs = named names (if b then (0, count_value 0) ∷ [] else []) } in d) ≡ record { owner = whose.Widget w; form = f; up = Some up; pairs = if b then (length_name, count_value 0) ∷ [] else [] }
    by true = let p = length_here names table words in λ j. record { owner = whose.Widget w; form = f; up = Some up; pairs = (p j, count_value 0) ∷ [] }
    by false = refl

pub node_head_ordered : (hs : List Head) (node : ℕ) → IsOrdered hs (length hs) (node_head node)
node_head_ordered hs node = record {
  up = tt;
  scope = tt;
  links = refl;
  few = omega arith;
  below = omega arith;
  owned = λ e. absurd (false_true e);
  based = λ e g. absurd (false_true e);
  unbunched = λ g. tt;
  number = λ w e. absurd (false_true e);
}

-- what a store becomes
module _ (s : Cells) (names : List (List ℕ)) (cs : List NumberedCell) {raws : List (ℕ × ℕ)} (kept : List Counts) (view : (let c : Cells = record { cells = cells_of names cs; kept = kept } in c ≡ s)) (shape : IsShape names cs raws kept) where
  pub scope_in_store : (i : ℕ) (b : Bool) → is_scope_at s.cells i ≡ b → scope_at (heads cs) i ≡ b
  scope_in_store i b e = sym (scope_same names cs i) ∙ ap (λ (t : Cells). is_scope_at t.cells i) view ∙ e

  pub bunch_in_store : (i : ℕ) (b : Bool) → is_bunch_at s.cells i ≡ b → bunch_at (heads cs) i ≡ b
  bunch_in_store i b e = sym (bunch_same names cs i) ∙ ap (λ (t : Cells). is_bunch_at t.cells i) view ∙ e

  pub length_in_store : length s.cells ≡ length cs
  length_in_store = ap (λ (t : Cells). length t.cells) (sym view) ∙ length-map cs (plain names)

  pub links_in_store : (i : ℕ) → i < length cs → links_at (heads cs) i ≡ prototypes s.cells i
  links_in_store i lt =
      let k = some_at cs i lt in
      ap (λ (p : Option Head). option_map_or (λ h. h.links) p 0) (head_at cs i k.0 k.1) ∙ links_are names cs shape.base.ordered i k.0 k.1 ∙ ap (λ (t : Cells). prototypes t.cells i) view

  pub scopes_in_store : (o : Option ℕ) → IfSome o (λ j. (j < length s.cells) × (is_scope_at s.cells j ≡ true)) → IfSome o (λ j. (j < length cs) × (scope_at (heads cs) j ≡ true))
  scopes_in_store None h = tt
  scopes_in_store (Some j) h = (omega (arith, h.0, length_in_store), scope_in_store j true h.1)

  pub made_is : (new : List (List ℕ)) (after : List NumberedCell) (counts : List Counts) (w c n : ℕ) (p : PlainCell) → cells_of new after ≡ cells_of names cs ++ p ∷ [] → counts ≡ changed kept w (paid c n 0) → (let d : Cells = record { cells = cells_of new after; kept = counts } in d ≡ made s w (p ∷ []) c n)
  made_is new after counts w c n p e g = (λ j. record { cells = e j; kept = g j }) ∙ ap (λ (t : Cells). made t w (p ∷ []) c n) view

  pub added_cells : (after : List NumberedCell) (c : NumberedCell) (p : PlainCell) → after ≡ cs ++ c ∷ [] → plain names c ≡ p → cells_of names after ≡ cells_of names cs ++ p ∷ []
  added_cells after c p e g = ap (cells_of names) e ∙ map-append (plain names) cs (c ∷ []) ∙ ap (λ q. cells_of names cs ++ q ∷ []) g

  pub added_heads : (after : List NumberedCell) (c : NumberedCell) → after ≡ cs ++ c ∷ [] → heads after ≡ heads cs ++ c.head ∷ []
  added_heads after c e = ap heads e ∙ heads_push cs c

  pub added_closed : (after : List NumberedCell) (new : List (List ℕ)) (p : PlainCell) → is_bunch p.form ≡ false → cells_of new after ≡ cells_of names cs ++ p ∷ [] → AreClosed (cells_of new after)
  added_closed after new p none e = subst AreClosed (sym e) (closed_push (cells_of names cs) p shape.closed none)

  -- `add_raw`
  pub node_ordered : (node : ℕ) → IsOrdered (heads cs) (length cs) (node_head node)
  node_ordered node = record {
    up = tt;
    scope = tt;
    links = refl;
    few = omega arith;
    below = omega arith;
    owned = λ e. absurd (false_true e);
    based = λ e g. absurd (false_true e);
    unbunched = λ g. tt;
    number = λ w e. absurd (false_true e);
  }

  pub node_fine : (node size : ℕ) → IsWellFormed names size (record { head = node_head node; elements = []; references = 0; entries = [] })
  node_fine node size = record {
    entries = tt;
    array = λ e. absurd (false_true e);
  }

  pub node_found_is : (node : ℕ) → lookup (eqb node) raws ≡ raw_place node s.cells
  node_found_is node = shape.nodes.found node ∙ raw_place_is names node cs ∙ ap (λ (t : Cells). raw_place node t.cells) view

  pub node_shape : (after : List NumberedCell) (c : NumberedCell) (raws' : List (ℕ × ℕ)) (node id : ℕ) → c ≡ record { head = node_head node; elements = []; references = 0; entries = [] } → lookup (eqb node) raws ≡ None → Added names cs names after c id → raws' ≡ insert_entry eqb raws node id → IsShape names after raws' kept
  node_shape after c raws' node id is none added e = record {
    base = added.base;
    closed = added_closed after names (plain names c) (ap (λ (d : NumberedCell). is_bunch d.head.form) is) (added_cells after c (plain names c) added.items refl);
    nodes = subst (λ (l : List Head). AreRaws l raws') (sym hs) (subst (λ (r : List (ℕ × ℕ)). AreRaws (heads cs ++ node_head node ∷ []) r) (sym (e ∙ ap (insert_entry eqb raws node) (added.place ∙ sym (length-map cs (λ c. c.head))))) (raws_node (heads cs) raws node shape.nodes none));
    counted = shape.counted;
    within = shape.within;
    exact = λ v g. shape.exact v g ∙ sym (ap (count_by (own_head v)) hs ∙ count_by-push (own_head v) (heads cs) (node_head node) ∙ add_zero (count_by (own_head v) (heads cs)));
  }
    where
      hs : heads after ≡ heads cs ++ node_head node ∷ []
      hs = added_heads after c added.items ∙ ap (λ (d : NumberedCell). heads cs ++ d.head ∷ []) is

      add_zero : (n : ℕ) → n + 0 ≡ n
      add_zero n = omega arith

  pub node_done : (after : List NumberedCell) (c : NumberedCell) (node id : ℕ) → c ≡ record { head = node_head node; elements = []; references = 0; entries = [] } → Added names cs names after c id → (let d : Cells = record { cells = cells_of names after; kept = kept } in d ≡ record { cells = s.cells ++ raw_cell node ∷ []; kept = s.kept })
  node_done after c node id is added = (λ j. record { cells = added_cells after c (raw_cell node) added.items (ap (plain names) is) j; kept = kept }) ∙ ap (λ (t : Cells). let u : Cells = record { cells = t.cells ++ raw_cell node ∷ []; kept = t.kept } in u) view

  pub node_old : (node i : ℕ) → lookup (eqb node) raws ≡ Some i → MatchOption (raw_place node s.cells) ((i ≡ length s.cells) × (s ≡ record { cells = s.cells ++ raw_cell node ∷ []; kept = s.kept })) (λ k. (i ≡ k) × (s ≡ s))
  node_old node i e = subst (λ (o : Option ℕ). MatchOption o ((i ≡ length s.cells) × (s ≡ record { cells = s.cells ++ raw_cell node ∷ []; kept = s.kept })) (λ k. (i ≡ k) × (s ≡ s))) (sym e ∙ node_found_is node) (refl, refl)

  pub node_new : (after : List NumberedCell) (c : NumberedCell) (node id : ℕ) → lookup (eqb node) raws ≡ None → c ≡ record { head = node_head node; elements = []; references = 0; entries = [] } → Added names cs names after c id
      → MatchOption (raw_place node s.cells) ((id ≡ length s.cells) × (let d : Cells = record { cells = cells_of names after; kept = kept } in d ≡ record { cells = s.cells ++ raw_cell node ∷ []; kept = s.kept })) (λ k. (id ≡ k) × (let d : Cells = record { cells = cells_of names after; kept = kept } in d ≡ s))
  node_new after c node id none is added =
      subst (λ (o : Option ℕ). MatchOption o ((id ≡ length s.cells) × (let d : Cells = record { cells = cells_of names after; kept = kept } in d ≡ record { cells = s.cells ++ raw_cell node ∷ []; kept = s.kept })) (λ k. (id ≡ k) × (let d : Cells = record { cells = cells_of names after; kept = kept } in d ≡ s))) (sym none ∙ node_found_is node) (added.place ∙ sym length_in_store, node_done after c node id is added)

  pub kept_in_store : s.kept ≡ kept
  kept_in_store = ap (λ (t : Cells). t.kept) (sym view)

-- a scope counts for nobody
pub own_scope : (w v : ℕ) → (let n : ℕ = if eqb w v && false then 1 else 0 in n) ≡ (if eqb w v then 0 else 0)
own_scope w v = by (eqb w v)
  where
    by : (b : Bool) → (let n : ℕ = if b && false then 1 else 0 in n) ≡ (if b then 0 else 0)
    by true = refl
    by false = refl
