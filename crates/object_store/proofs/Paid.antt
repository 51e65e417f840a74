-- What a widget pays for a write, as it sees it.
use Rattle.std.proofs.Common.{◌≡◌, ℕ, ◌+◌, List, refl, ap, sym, ◌∙◌, Option, Some, None, arith, Bool, true, false, eqb, if◌then◌else◌, slice_get}
use Rattle.std.specs.Prelude.{◌&&◌}
use Rattle.std.specs.Option.{option_map, option_map_or}
use Rattle.std.proofs.lemmas.Bool.Decides.{nat_tests}
use Rattle.code_units.specs.declared.owner.Owner.{Owner}
use Rattle.code_units.specs.declared.owner.Owner.TheVariants as whose
use Rattle.store_cells.specs.declared.kind.Form.{Form}
use Rattle.store_cells.specs.declared.counts.Counts.{Counts}
use Rattle.store_cells.specs.declared.value.Value.{Value}
use Rattle.store_cells.specs.Lists.{changed}
use Rattle.store_cells.specs.Cells.{Cells, PlainCell, is_bunch, is_own, is_visible, is_visible_form, widget_of, writer_in}
use Rattle.object_store.specs.Calls.{kept_after, put_done, slots_at, slots_for}
use Rattle.store_cells.specs.Costs.{paid}
use Rattle.store_cells.proofs.Lists.{changed_here, none_some, some_same}

false_true : false ≡ true → ⊥
false_true e = cc

-- who may write to a visible cell is the widget that has it
writer_own : (o : Owner) (f : Form) (v w : ℕ) → writer_in o f ≡ Some v → is_own w o f ≡ true → v ≡ w
writer_own whose.Host f v w e h = absurd (false_true h)
writer_own (whose.Widget u) f v w e h = by (is_bunch f) e
  where
    first : (a b : Bool) → (a && b) ≡ true → a ≡ true
    first true b g = refl
    first false b g = g

    equal : (a b : ℕ) → eqb a b ≡ true → a ≡ b
    equal a b g = grind (arith, nat_tests, g)

    by : (b : Bool) → (if b then None else widget_of (whose.Widget u)) ≡ Some v → v ≡ w
    by true g = absurd (none_some g)
    by false g = sym (some_same u v g) ∙ equal u w (first (eqb u w) (is_visible_form f) h)

-- a write costs the slots of its name
pub put_paid : (s : Cells) (i : ℕ) (name : List ℕ) (u : Value) (c : PlainCell) (v w : ℕ) → slice_get s.cells i ≡ Some c → writer_in c.owner c.form ≡ Some v → is_visible w c ≡ true → slice_get (put_done s i name u).kept w ≡ option_map (paid 0 (slots_at s.cells i name) 0) (slice_get s.kept w)
put_paid s i name u c v w at writer visible =
    ap (λ (o : Option PlainCell). slice_get (option_map_or (kept_after s.kept name) o s.kept) w) at
    ∙ ap (λ (o : Option ℕ). slice_get (option_map_or (λ x. changed s.kept x (paid 0 (slots_for name c) 0)) o s.kept) w) (writer ∙ ap Some (writer_own c.owner c.form v w writer visible))
    ∙ changed_here s.kept w (paid 0 (slots_for name c) 0)
    ∙ ap (λ (o : Option PlainCell). option_map (paid 0 (option_map_or (slots_for name) o 0) 0) (slice_get s.kept w)) (sym at)

-- nothing is paid
pub none_paid : (o : Option Counts) → o ≡ option_map (paid 0 0 0) o
none_paid None = refl
none_paid (Some k) = ap Some (same k.cells k.slots k.units)
  where
    same : (c s u : ℕ) → (let d : Counts = record { cells = c; slots = s; units = u } in d) ≡ record { cells = c + 0; slots = s + 0; units = u + 0 }
    same c s u =
        let e : c ≡ c + 0 = omega arith in
        let f : s ≡ s + 0 = omega arith in
        let g : u ≡ u + 0 = omega arith in
        λ j. record { cells = e j; slots = f j; units = g j }
