-- What `put` answers.
use Rattle.std.proofs.Common.{◌≡◌, ℕ, List, length, sym, ap, ◌∙◌, subst, Option, Some, None, false, if◌then◌else◌, slice_get, is_some}
use Rattle.std.specs.List.{count_by}
use Rattle.std.specs.Prelude.{Result, Ok, Err, IsErr, IfErr}
use Rattle.std.specs.Result.{IsErrAnd}
use Rattle.std.specs.Option.{option_map, option_map_or}
use Rattle.std.proofs.lemmas.Option.{slice_get-map}
use Rattle.keyed_names.proofs.Interning.{same_test, none_test}
use Rattle.store_cells.specs.declared.value.Value.{Value}
use Rattle.store_cells.specs.declared.cell.Head.{Head}
use Rattle.store_cells.specs.declared.cell.Write.{Write}
use Rattle.store_cells.specs.declared.counts.Counts.{Counts}
use Rattle.store_cells.specs.declared.counts.StoreFault.{StoreFault}
use Rattle.store_cells.specs.declared.counts.StoreFault.TheVariants as fault
use Rattle.store_cells.specs.Lists.{changed}
use Rattle.store_cells.specs.Cells.{kept_cells, PlainCell, Cells, has_own, writer_in}
use Rattle.store_cells.specs.Arrays.{stored, is_bad_length}
use Rattle.store_cells.specs.Numbered.{NumberedCell, plain, cells_of, heads, own_head, numbered_has, IsNumberOf, plan_of, by_plan}
use Rattle.store_cells.specs.Shape.{AreClosed, IsBase, IsShape, AreRaws, AreWithin, Wrote}
use Rattle.store_cells.specs.Costs.{Refuses, cost_refusal, paid}
use Rattle.object_store.specs.Calls.{slots_for, put_refusal, put_refusal_of, put_done, kept_after}
use Rattle.store_cells.proofs.Lists.{length-changed, changed_alike}
use Rattle.store_cells.proofs.Look.{known_cells, known_at, has_same, look_none}
use Rattle.store_cells.proofs.Closed.{closed_wrote}
use Rattle.store_cells.proofs.Plans.{no_plan, some_plan, plan_done, length_alike}
use Rattle.store_cells.proofs.Costs.{cells_paid}

pub refuses_some : (e : StoreFault) (r : Option StoreFault) → r ≡ Some e → Refuses e r
refuses_some (fault.Cells k) r h = h
refuses_some (fault.Slots k) r h = h
refuses_some (fault.Units k) r h = h
refuses_some fault.Closed r h = h
refuses_some fault.BadLength r h = h
refuses_some fault.Memory r h = tt

-- a refusal that is handed on
pub refuses_err : {X : Type 0} (r : Result X StoreFault) (P : StoreFault → Type 0) (x : StoreFault) (o : Option StoreFault) → IsErr r × IsErrAnd r P → ((e : StoreFault) → P e → e ≡ x) → o ≡ Some x → IfErr r (λ e. Refuses e o)
refuses_err (Ok u) P x o h f is = tt
refuses_err (Err e) P x o h f is = refuses_some e o (is ∙ ap Some (sym (f e h.1)))

-- after a call that pays no cells
pub shape_paid : (names new : List (List ℕ)) (cs after : List NumberedCell) (raws : List (ℕ × ℕ)) (kept counts : List Counts) → IsShape names cs raws kept → IsBase new after → AreClosed (cells_of new after) → heads after ≡ heads cs → AreWithin counts → (w s u : ℕ) → counts ≡ changed kept w (paid 0 s u) → IsShape new after raws counts
shape_paid names new cs after raws kept counts shape base closed same within w s u e = record {
  base = base;
  closed = closed;
  nodes = subst (λ (hs : List Head). AreRaws hs raws) (sym same) shape.nodes;
  counted = ap length e ∙ length-changed kept w (paid 0 s u) ∙ shape.counted;
  within = within;
  exact = λ v lt. ap (λ (ks : List Counts). kept_cells ks v) e ∙ cells_paid kept w s u v ∙ shape.exact v lt ∙ ap (count_by (own_head v)) (sym same);
}

module _ (s : Cells) (names : List (List ℕ)) (cs : List NumberedCell) {raws : List (ℕ × ℕ)} (kept : List Counts) (view : (let c : Cells = record { cells = cells_of names cs; kept = kept } in c ≡ s)) (shape : IsShape names cs raws kept) (i : ℕ) (c : NumberedCell) (at : slice_get cs i ≡ Some c) where
  pub seen : slice_get s.cells i ≡ Some (plain names c)
  seen = ap (λ (t : Cells). slice_get t.cells i) (sym view) ∙ slice_get-map (plain names) cs i ∙ ap (option_map (plain names)) at

  kept_is : s.kept ≡ kept
  kept_is = ap (λ (t : Cells). t.kept) (sym view)

  pub closed_after : (w : ℕ) → writer_in c.head.owner c.head.form ≡ Some w → (new : List (List ℕ)) (after : List NumberedCell) (f : PlainCell → PlainCell) → Wrote names cs new after i f → AreClosed (cells_of new after)
  closed_after w writer new after f wrote = closed_wrote names new cs after i w c f shape.closed at writer wrote

  module _ (name : List ℕ) (v : Value) where
    refusal_is : put_refusal s i name v ≡ put_refusal_of kept name v (plain names c)
    refusal_is = ap (λ o. option_map_or (put_refusal_of s.kept name v) o None) seen ∙ ap (λ ks. put_refusal_of ks name v (plain names c)) kept_is

    pub put_closed : writer_in c.head.owner c.head.form ≡ None → put_refusal s i name v ≡ Some fault.Closed
    put_closed e = refusal_is ∙ ap (λ (o : Option ℕ). option_map_or (λ w. if is_bad_length name v (plain names c) then Some fault.BadLength else cost_refusal kept w 0 (slots_for name (plain names c))) o (Some fault.Closed)) e

    module _ (w : ℕ) (writer : writer_in c.head.owner c.head.form ≡ Some w) where
      open_refusal : put_refusal s i name v ≡ (if is_bad_length name v (plain names c) then Some fault.BadLength else cost_refusal kept w 0 (slots_for name (plain names c)))
      open_refusal = refusal_is ∙ ap (λ (o : Option ℕ). option_map_or (λ w. if is_bad_length name v (plain names c) then Some fault.BadLength else cost_refusal kept w 0 (slots_for name (plain names c))) o (Some fault.Closed)) writer

      pub put_bad : plan_of name v c ≡ None → put_refusal s i name v ≡ Some fault.BadLength
      put_bad e = open_refusal ∙ ap (λ b. if b then Some fault.BadLength else cost_refusal kept w 0 (slots_for name (plain names c))) (no_plan name v c e names)

      module _ (p : Write) (plan : plan_of name v c ≡ Some p) (number : Option ℕ) (found : IsNumberOf names name number) (slots : ℕ) (cost : slots ≡ (if option_map_or (λ n. numbered_has n c) number false then 0 else 1)) where
        has_number : (number : Option ℕ) → IsNumberOf names name number → option_map_or (λ n. numbered_has n c) number false ≡ has_own name (plain names c)
        has_number None h = sym (ap is_some (look_none names name (none_test names name h) c.entries (known_at (length names) cs i c (known_cells names (length cs) cs shape.base.fine) at)))
        has_number (Some n) h = has_same names name n (same_test names name n shape.base.table h.0) c (known_at (length names) cs i c (known_cells names (length cs) cs shape.base.fine) at)

        cost_is : slots ≡ slots_for name (plain names c)
        cost_is = cost ∙ ap (λ b. if b then 0 else 1) (has_number number found)

        pub put_cost : put_refusal s i name v ≡ cost_refusal kept w 0 slots
        put_cost = open_refusal ∙ ap (λ b. if b then Some fault.BadLength else cost_refusal kept w 0 (slots_for name (plain names c))) (some_plan name v c p plan names) ∙ ap (cost_refusal kept w 0) (sym cost_is)

        pub put_is : (new : List (List ℕ)) (after : List NumberedCell) (counts : List Counts) → Wrote names cs new after i (by_plan p name v) → counts ≡ changed kept w (paid 0 slots 0) → (let d : Cells = record { cells = cells_of new after; kept = counts } in d ≡ put_done s i name v)
        put_is new after counts wrote e =
            let same : changed (cells_of names cs) i (by_plan p name v) ≡ changed (cells_of names cs) i (stored name v) =
            changed_alike (cells_of names cs) i (by_plan p name v) (stored name v) (λ x g.
            let is : x ≡ plain names c = one x (plain names c) (sym g ∙ slice_get-map (plain names) cs i ∙ ap (option_map (plain names)) at) in
            ap (by_plan p name v) is ∙ plan_done name v c names (length_alike names shape.base.table shape.base.words c.entries (known_at (length names) cs i c (known_cells names (length cs) cs shape.base.fine) at)) p plan ∙ ap (stored name v) (sym is)) in
            let costs : counts ≡ option_map_or (kept_after s.kept name) (slice_get s.cells i) s.kept =
            e ∙ ap (λ n. changed kept w (paid 0 n 0)) cost_is
            ∙ sym (ap (λ o. option_map_or (kept_after s.kept name) o s.kept) seen ∙ ap (λ ks. kept_after ks name (plain names c)) kept_is ∙ ap (λ (o : Option ℕ). option_map_or (λ w. changed kept w (paid 0 (slots_for name (plain names c)) 0)) o kept) writer) in
            λ j. record { cells = (wrote.done ∙ same ∙ ap (λ (t : Cells). changed t.cells i (stored name v)) view) j; kept = costs j }
          where
            one : (x y : PlainCell) → Some x ≡ Some y → x ≡ y
            one x y h = cc
