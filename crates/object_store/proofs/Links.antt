-- What every cell keeps, in plain data.
use Rattle.std.proofs.Common.{◌≡◌, ℕ, ◌<◌, List, [], ◌∷◌, length, sym, ap, ◌∙◌, subst, Option, Some, None, arith, Bool, true, false, eqb, refl, true≢false, is_some, slice_get}
use Rattle.std.specs.Prelude.{IfSome, ◌&&◌}
use Rattle.std.specs.Option.{option_map, option_map_or}
use Rattle.std.proofs.lemmas.Option.{slice_get-map}
use Rattle.std.proofs.lemmas.List.{length-map}
use Rattle.store_cells.specs.declared.kind.Form.{Form}
use Rattle.store_cells.specs.declared.value.Value.{Value}
use Rattle.store_cells.specs.Cells.{PlainCell, is_bunch_at, is_scope, is_scope_at, is_visible, is_visible_form, node_in, widget_of}
use Rattle.store_cells.specs.Numbered.{NumberedCell, plain, named, cells_of, heads}
use Rattle.store_cells.specs.Shape.{AreEntries, AreRaws, AreRefs, HasPrototype, IsBase, IsLinked, bunch_at, scope_at, scope_in}
use Rattle.store_cells.specs.Born.{raw_place}
use Rattle.store_cells.proofs.Lists.{some_same, get_within}
use Rattle.store_cells.proofs.Adds.{raw_place_is}
use Rattle.store_cells.proofs.Heads.{bunch_same, head_at, some_at, scope_same}
use Rattle.store_cells.proofs.Makes.{visible_no_scope}
use Rattle.store_cells.proofs.Writes.{fine_at}

named_refs : (names : List (List ℕ)) (n size : ℕ) (es : List (ℕ × Value)) → AreEntries n size es → AreRefs size (named names es)
named_refs names n size [] h = tt
named_refs names n size (e ∷ es) h = (h.0.1, named_refs names n size es h.1)

module _ (names : List (List ℕ)) (cs : List NumberedCell) (base : IsBase names cs) where
  up_plain : (i : ℕ) (b : Bool) (o : Option ℕ) → IfSome o (λ j. (j < i) × (scope_at (heads cs) j ≡ b)) → IfSome o (λ j. (j < i) × (is_scope_at (cells_of names cs) j ≡ b))
  up_plain i b None h = tt
  up_plain i b (Some j) h = (h.0, scope_same names cs j ∙ h.1)

  linked_raw : (i : ℕ) (c : NumberedCell) → slice_get cs i ≡ Some c → IsLinked (cells_of names cs) i (plain names c)
  linked_raw i c at =
      let o = base.ordered.each i c.head (head_at cs i c at) in
      record {
        refs = subst (λ n. AreRefs n (named names c.entries)) (sym (length-map cs (plain names))) (named_refs names (length names) (length cs) c.entries (fine_at names (length cs) cs i c base.fine at).entries);
        up = up_plain i (is_scope c.head.form) c.head.up o.up;
        scope = up_plain i true (scope_in c.head.form) o.scope;
        owned = o.owned;
      }

  pub linked : (i : ℕ) (c : PlainCell) → slice_get (cells_of names cs) i ≡ Some c → IsLinked (cells_of names cs) i c
  linked i c at =
      let lt : i < length cs = omega (arith, get_within (cells_of names cs) i c at, length-map cs (plain names)) in
      let k = some_at cs i lt in
      let is : plain names k.0 ≡ c = some_same (plain names k.0) c (sym (slice_get-map (plain names) cs i ∙ ap (option_map (plain names)) k.1) ∙ at) in
      subst (λ (d : PlainCell). IsLinked (cells_of names cs) i d) is (linked_raw i k.0 k.1)

  -- a visible cell has a prototype, which is no Bunch
  up_unbunched : (o : Option ℕ) → IfSome o (λ j. bunch_at (heads cs) j ≡ false) → IfSome o (λ j. is_bunch_at (cells_of names cs) j ≡ false)
  up_unbunched None h = tt
  up_unbunched (Some j) h = bunch_same names cs j ∙ h

  owned_form : (o : Option ℕ) (f : Form) (w : ℕ) → option_map_or (λ v. eqb v w && is_visible_form f) o false ≡ true → (is_some o ≡ true) × (is_scope f ≡ false)
  owned_form None f w e = absurd (true≢false (sym e))
  owned_form (Some v) f w e = (refl, visible_no_scope f (second (eqb v w) (is_visible_form f) e))
    where
      second : (a b : Bool) → (a && b) ≡ true → b ≡ true
      second true b g = g
      second false b g = absurd (true≢false (sym g))

  pub prototyped : (w i : ℕ) (c : PlainCell) → slice_get (cells_of names cs) i ≡ Some c → is_visible w c ≡ true → HasPrototype (cells_of names cs) c
  prototyped w i c at seen =
      let lt : i < length cs = omega (arith, get_within (cells_of names cs) i c at, length-map cs (plain names)) in
      let k = some_at cs i lt in
      let is : plain names k.0 ≡ c = some_same (plain names k.0) c (sym (slice_get-map (plain names) cs i ∙ ap (option_map (plain names)) k.1) ∙ at) in
      let o = base.ordered.each i k.0.head (head_at cs i k.0 k.1) in
      let g = owned_form (widget_of k.0.head.owner) k.0.head.form w (ap (is_visible w) is ∙ seen) in
      subst (λ (d : PlainCell). HasPrototype (cells_of names cs) d) is (record {
        based = o.based g.0 g.1;
        unbunched = up_unbunched k.0.head.up (o.unbunched g.1);
      })

-- each node has one cell
module _ (names : List (List ℕ)) (cs : List NumberedCell) {raws : List (ℕ × ℕ)} (h : AreRaws (heads cs) raws) where
  pub one_cell : (i n : ℕ) (c : PlainCell) → slice_get (cells_of names cs) i ≡ Some c → node_in c.form ≡ Some n → raw_place n (cells_of names cs) ≡ Some i
  one_cell i n c at node =
      let lt : i < length cs = omega (arith, get_within (cells_of names cs) i c at, length-map cs (plain names)) in
      let k = some_at cs i lt in
      let is : plain names k.0 ≡ c = some_same (plain names k.0) c (sym (slice_get-map (plain names) cs i ∙ ap (option_map (plain names)) k.1) ∙ at) in
      sym (raw_place_is names n cs) ∙ h.one i n k.0.head (head_at cs i k.0 k.1) (ap (λ (d : PlainCell). node_in d.form) is ∙ node)
