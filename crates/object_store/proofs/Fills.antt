-- Cells that are made with their first pairs.
use Rattle.std.proofs.Common.{◌≡◌, ℕ, ◌+◌, ◌<◌, List, [], ◌∷◌, length, map, refl, sym, ap, ◌∙◌, subst, Option, None, Some, ◌++◌, arith, false, eqb, if◌then◌else◌, length-append}
use Rattle.std.specs.Prelude.{Result, IfOk, IfErr, option_to_list}
use Rattle.std.specs.List.{IsDistinct}
use Rattle.std.specs.Str.{bytes_eq}
use Rattle.std.proofs.lemmas.List.{length-map}
use Rattle.store_cells.specs.declared.value.Value.{Value}
use Rattle.store_cells.specs.declared.value.Value.TheVariants as value
use Rattle.store_cells.specs.declared.cell.Head.{Head}
use Rattle.store_cells.specs.declared.counts.Counts.{Counts}
use Rattle.store_cells.specs.declared.counts.StoreFault.{StoreFault}
use Rattle.store_cells.specs.Lists.{changed}
use Rattle.store_cells.specs.Cells.{Cells, PlainCell, is_bunch, kept_cells, node_in}
use Rattle.store_cells.specs.Host.{array_prototype}
use Rattle.store_cells.specs.Numbered.{NumberedCell, cells_of, heads, own_head, plain}
use Rattle.store_cells.specs.Shape.{AreElements, AreRefs, AreWithin, Grew, IsOrdered, IsShape, head_on, links_at}
use Rattle.store_cells.specs.Costs.{Refuses, cost_refusal, paid}
use Rattle.store_cells.specs.Born.{scope_cell, unset}
use Rattle.store_cells.specs.First.{first_value, own_value, placed_values}
use Rattle.js_tree.specs.declared.nodes.ScopeName.{ScopeName}
use Rattle.object_store.specs.Calls.{Adds, AreFirstPairs}
use Rattle.store_cells.specs.declared.kind.Form.TheVariants as form
use Rattle.store_cells.proofs.Adds.{shape_added}
use Rattle.store_table.proofs.Births.{links_short}
use Rattle.store_cells.proofs.Heads.{bunch_same, scope_same}
use Rattle.store_cells.proofs.Makes.{added_closed, kept_in_store, length_in_store, made_is, new_ordered}
use Rattle.store_table.proofs.Protos.{host_object, host_open}

-- variables that are not set
first_names : (names : List (List ℕ)) → map (λ (p : List ℕ × Value). p.0) (unset names) ≡ names
first_names [] = refl
first_names (x ∷ names) = ap (λ l. x ∷ l) (first_names names)

no_refs : (size : ℕ) (names : List (List ℕ)) → AreRefs size (unset names)
no_refs size [] = tt
no_refs size (x ∷ names) = (tt, no_refs size names)

pub unset_first : (cells : List PlainCell) (names : List (List ℕ)) (ps : List (List ℕ × Value)) → ps ≡ unset names → IsDistinct bytes_eq names → AreFirstPairs cells ps
unset_first cells names ps e d = subst (AreFirstPairs cells) (sym e) (record {
  distinct = subst (IsDistinct bytes_eq) (sym (first_names names)) d;
  refs = no_refs (length cells) names;
})

pub unset_adds : {E : Type 0} (r : Result ℕ E) (old new : Cells) (w : ℕ) (outer : Option ℕ) (names : List (List ℕ)) (ps : List (List ℕ × Value)) → ps ≡ unset names → IfOk r (λ id. Adds old new w id (scope_cell w outer ps ∷ []) 0 (length ps + 1)) → IfOk r (λ id. Adds old new w id (scope_cell w outer (unset names) ∷ []) 0 (length names + 1))
unset_adds r old new w outer names ps e ok =
    subst (λ n. IfOk r (λ id. Adds old new w id (scope_cell w outer (unset names) ∷ []) 0 (n + 1))) (length-map names (λ name. (name, value.Undefined))) (subst (λ (l : List (List ℕ × Value)). IfOk r (λ id. Adds old new w id (scope_cell w outer l ∷ []) 0 (length l + 1))) e ok)

pub unset_refuses : {X : Type 0} (r : Result X StoreFault) (kept : List Counts) (w : ℕ) (names : List (List ℕ)) (ps : List (List ℕ × Value)) → ps ≡ unset names → IfErr r (λ e. Refuses e (cost_refusal kept w 0 (length ps + 1))) → IfErr r (λ e. Refuses e (cost_refusal kept w 0 (length names + 1)))
unset_refuses r kept w names ps e err = subst (λ n. IfErr r (λ e. Refuses e (cost_refusal kept w 0 (n + 1)))) (ap (λ (l : List (List ℕ × Value)). length l) e ∙ length-map names (λ name. (name, value.Undefined))) err

-- the slots of the scope of a call
module _ (names : List ScopeName) (vs : List Value) (own : Option (List ℕ)) (f : Value) (many : ℕ) (len : many ≡ length names) where
  slots_of : (o : Option (List ℕ)) → length (placed_values names vs ++ own_value o f) ≡ length names + length (option_to_list o)
  slots_of o = length-append (placed_values names vs) (own_value o f) ∙ (λ j. length-map {B = List ℕ × Value} names (λ n. (n.text, first_value n.argument vs)) j + length-map {B = List ℕ × Value} (option_to_list o) (λ x. (x, f)) j)

  pub slots_none : own ≡ None → many + 1 ≡ length (placed_values names vs ++ own_value own f) + 1
  slots_none e = omega (arith, len, ap (λ (o : Option (List ℕ)). length (placed_values names vs ++ own_value o f)) e ∙ slots_of None)

  pub slots_own : (name : List ℕ) → own ≡ Some name → many + 2 ≡ length (placed_values names vs ++ own_value own f) + 1
  slots_own name e = omega (arith, len, ap (λ (o : Option (List ℕ)). length (placed_values names vs ++ own_value o f)) e ∙ slots_of (Some name))

-- what a store becomes
module _ (s : Cells) (names : List (List ℕ)) (cs : List NumberedCell) {raws : List (ℕ × ℕ)} (kept : List Counts) (view : (let c : Cells = record { cells = cells_of names cs; kept = kept } in c ≡ s)) (shape : IsShape names cs raws kept) where
  pub refs_in_store : (ps : List (List ℕ × Value)) → AreRefs (length s.cells) ps → AreRefs (length cs) ps
  refs_in_store ps h = subst (λ n. AreRefs n ps) (length_in_store s names cs kept view shape) h

  pub elements_in_store : (vs : List Value) → AreElements (length s.cells) vs → AreElements (length cs) vs
  elements_in_store vs h = subst (λ n. AreElements n vs) (length_in_store s names cs kept view shape) h

  module _ (new : List (List ℕ)) (after : List NumberedCell) (counts : List Counts) (w c n : ℕ) (p : PlainCell) (h : Head) (grew : Grew names cs new after p h) (done : counts ≡ changed kept w (paid c n 0)) where
    pub grew_adds : (id : ℕ) → id ≡ length cs → cost_refusal kept w c n ≡ None → (let d : Cells = record { cells = cells_of new after; kept = counts } in Adds s d w id (p ∷ []) c n)
    grew_adds id place none = record {
      paid = ap (λ (ks : List Counts). cost_refusal ks w c n) (kept_in_store s names cs kept view shape) ∙ none;
      place = place ∙ sym (length_in_store s names cs kept view shape);
      done = made_is s names cs kept view shape new after counts w c n p grew.done done;
    }

    pub grew_shape : w < 32 → is_bunch p.form ≡ false → node_in h.form ≡ None → ((v : ℕ) → (if own_head v h then 1 else 0) ≡ (if eqb w v then c else 0)) → AreWithin counts → IsShape new after raws counts
    grew_shape lt unbunched none own within = shape_added names new cs after raws kept counts h w c n shape lt grew.base (added_closed s names cs kept view shape after new p unbunched grew.done) grew.heads none own within done

-- the fixed part of a new Array
module _ (names : List (List ℕ)) (cs : List NumberedCell) (kept : List Counts) {raws : List (ℕ × ℕ)} (shape : IsShape names cs raws kept) where
  pub array_up : array_prototype < length cs
  array_up = omega (arith, shape.closed.host.enough, length-map cs (plain names))

  pub array_few : links_at (heads cs) array_prototype < 100
  array_few = omega (arith, links_short names cs shape.base.ordered shape.closed.host array_prototype (omega arith))

  pub array_ordered : (w number : ℕ) → w < 32 → number ≡ kept_cells kept w → IsOrdered (heads cs) (length cs) (head_on (heads cs) w form.Array array_prototype number)
  array_ordered w number lt counted =
      new_ordered names cs kept shape w array_prototype number form.Array array_up (sym (scope_same names cs array_prototype) ∙ host_object names cs shape.base.ordered shape.closed.host array_prototype (omega arith)) (sym (bunch_same names cs array_prototype) ∙ host_open names cs shape.base.ordered shape.closed.host array_prototype (omega arith)) array_few refl tt lt counted
