-- The shape of a new store.
use Rattle.std.proofs.Common.{◌≡◌, ℕ, List, [], ◌∷◌, ◌++◌, length, map, refl, sym, ap, ◌∙◌, subst, Some, None, arith, Bool, true, false, slice_get, not, true≢false}
use Rattle.std.specs.Prelude.{replicate}
use Rattle.std.specs.List.{list_all, count_by}
use Rattle.keyed_names.specs.Interned.{IsTable}
use Rattle.store_cells.specs.declared.cell.Head.{Head}
use Rattle.store_cells.specs.declared.kind.Form.{Form}
use Rattle.store_cells.specs.declared.kind.Form.TheVariants as form
use Rattle.permitted_table.specs.declared.native.NativeId.TheVariants as native
use Rattle.permitted_table.specs.Natives.{rows}
use Rattle.store_cells.specs.declared.counts.Counts.{Counts}
use Rattle.store_cells.specs.Numbered.{NumberedCell, cells_of, heads, own_head, node_head}
use Rattle.store_cells.specs.Host.{AreHost, host_cells, host_count, nothing_paid}
use Rattle.store_table.specs.Bare.{native_gift}
use Rattle.store_table.specs.Bare.{host_head, bare_numbered, no_arrays, with_gifts, reference_gifts, AreFirst}
use Rattle.store_cells.specs.Shape.{AreClosed, AreWords, AreOrdered, AreRaws, AreWithin, IsBase, IsShape}
use Rattle.store_cells.specs.Cells.{PlainCell, is_bunch, kept_cells}
use Rattle.store_cells.proofs.Lists.{none_some}
use Rattle.store_cells.proofs.Adds.{ordered_push, raws_node}
use Rattle.store_table.proofs.Gifts.{all_at}
use Rattle.store_cells.proofs.Makes.{node_head_ordered}
use Rattle.store_table.proofs.Bares.{ordered_group, raws_group, is_empty_cell, are_empty, empty_fine, none_paid, within_none}

-- the forms of the natives
abbrev native_forms : List Form
native_forms = form.Native native.Bubble ∷ map (λ r. form.Native r.2) rows

abbrev globals : List Head
globals = host_head None 0 form.Global ∷ []

abbrev upto_object : List Head
upto_object = (globals ++ node_head 0 ∷ []) ++ map (host_head None 0) (form.Object ∷ [])

abbrev upto_text : List Head
upto_text = upto_object ++ map (host_head (Some 2) 1) (form.Object ∷ form.Object ∷ form.Object ∷ form.Object ∷ [])

abbrev upto_boolean : List Head
upto_boolean = upto_text ++ map (host_head None 0) (form.Object ∷ form.Object ∷ [])

abbrev upto_dom : List Head
upto_dom = upto_boolean ++ map (host_head (Some 2) 1) (form.Object ∷ form.Object ∷ form.Object ∷ [])

none_ordered : AreOrdered []
none_ordered = record { each = λ i h e. absurd (none_some e) }

none_raws : AreRaws [] []
none_raws = record {
  found = λ n. refl;
  one = λ i n h e g. absurd (none_some e);
}

pub bare_ordered : AreOrdered (heads bare_numbered)
unfolding bare_numbered
bare_ordered =
    let a = ordered_group [] None 0 (form.Global ∷ []) none_ordered refl refl in
    let b = ordered_push globals (node_head 0) a (node_head_ordered globals 0) in
    let d = ordered_group (globals ++ node_head 0 ∷ []) None 0 (form.Object ∷ []) b refl refl in
    let e = ordered_group upto_object (Some 2) 1 (form.Object ∷ form.Object ∷ form.Object ∷ form.Object ∷ []) d refl (omega arith, refl, refl, omega arith, omega arith, refl) in
    let f = ordered_group upto_text None 0 (form.Object ∷ form.Object ∷ []) e refl refl in
    let g = ordered_group upto_boolean (Some 2) 1 (form.Object ∷ form.Object ∷ form.Object ∷ []) f refl (omega arith, refl, refl, omega arith, omega arith, refl) in
    ordered_group upto_dom (Some 4) 2 native_forms g refl (omega arith, refl, refl, omega arith, omega arith, refl)

pub bare_nodes : AreRaws (heads bare_numbered) ((0, 1) ∷ [])
unfolding bare_numbered
bare_nodes =
    let a = raws_group [] [] None 0 (form.Global ∷ []) none_raws refl in
    let b = raws_node globals [] 0 a refl in
    let d = raws_group (globals ++ node_head 0 ∷ []) ((0, 1) ∷ []) None 0 (form.Object ∷ []) b refl in
    let e = raws_group upto_object ((0, 1) ∷ []) (Some 2) 1 (form.Object ∷ form.Object ∷ form.Object ∷ form.Object ∷ []) d refl in
    let f = raws_group upto_text ((0, 1) ∷ []) None 0 (form.Object ∷ form.Object ∷ []) e refl in
    let g = raws_group upto_boolean ((0, 1) ∷ []) (Some 2) 1 (form.Object ∷ form.Object ∷ form.Object ∷ []) f refl in
    raws_group upto_dom ((0, 1) ∷ []) (Some 4) 2 native_forms g refl

all_empty : list_all is_empty_cell bare_numbered ≡ true
unfolding bare_numbered
all_empty = refl

pub bare_base : (names : List (List ℕ)) → IsTable names → AreWords names → IsBase names bare_numbered
bare_base names table words = record {
  table = table;
  words = words;
  fine = empty_fine names (length bare_numbered) bare_numbered (are_empty bare_numbered all_empty);
  ordered = bare_ordered;
}

pub bare_plain : no_arrays (heads bare_numbered) ≡ true
unfolding bare_numbered
bare_plain = refl

pub bare_length : length bare_numbered ≡ host_count
unfolding bare_numbered
bare_length = refl

host_length : length host_cells ≡ host_count
unfolding host_cells
host_length = refl

pub first_host : (cells : List PlainCell) → cells ≡ host_cells → AreHost cells
first_host cells e = record {
  enough = omega (arith, ap length e, host_length);
  same = λ i lt. ap (λ l. slice_get l i) e;
}

all_open : list_all (λ c. not (is_bunch c.form)) host_cells ≡ true
unfolding host_cells
all_open = refl

first_closed : (cells : List PlainCell) → cells ≡ host_cells → AreClosed cells
first_closed cells e = record {
  host = first_host cells e;
  bunches = record { each = λ i c at bunch. absurd (both (is_bunch c.form) bunch (all_at (λ (d : PlainCell). not (is_bunch d.form)) host_cells i c all_open (ap (λ l. slice_get l i) (sym e) ∙ at))) };
}
  where
    both : (b : Bool) → b ≡ true → not b ≡ true → ⊥
    both true e g = true≢false (sym g)
    both false e g = true≢false (sym e)

no_own : (w : ℕ) → count_by (own_head w) (heads bare_numbered) ≡ 0
unfolding bare_numbered
no_own w = refl

pub first_shape : (names : List (List ℕ)) (cs : List NumberedCell) (raws : List (ℕ × ℕ)) (kept : List Counts) → AreFirst names cs → raws ≡ (0, 1) ∷ [] → kept ≡ replicate 32 nothing_paid → IsShape names cs raws kept
first_shape names cs raws kept first e g = record {
  base = first.base;
  closed = first_closed (cells_of names cs) first.done;
  nodes = subst (λ (l : List Head). AreRaws l raws) (sym first.heads) (subst (λ (r : List (ℕ × ℕ)). AreRaws (heads bare_numbered) r) (sym e) bare_nodes);
  counted = ap length g;
  within = subst AreWithin (sym g) (within_none 32);
  exact = λ w lt. ap (λ (ks : List Counts). kept_cells ks w) g ∙ none_paid 32 w ∙ sym (ap (count_by (own_head w)) first.heads ∙ no_own w);
}

-- the gifts give the host's cells
pub first_gifts : (names : List (List ℕ)) → with_gifts (map native_gift rows) reference_gifts (cells_of names bare_numbered) ≡ host_cells
unfolding with_gifts host_cells bare_numbered
first_gifts names = refl
