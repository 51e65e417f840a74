-- The host's cells stay.
use Rattle.std.proofs.Common.{◌≡◌, ℕ, zero, suc, ◌<◌, ◌≤◌, List, [], ◌∷◌, ◌++◌, refl, sym, ap, ◌∙◌, subst, Some, None, arith, Bool, true, false, eqb, if◌then◌else◌, slice_get, length-append}
use Rattle.std.specs.Prelude.{◌&&◌, IfSome}
use Rattle.std.specs.List.{list_all}
use Rattle.std.proofs.lemmas.Bool.Decides.{nat_tests}
use Rattle.code_units.specs.declared.owner.Owner.{Owner}
use Rattle.code_units.specs.declared.owner.Owner.TheVariants as whose
use Rattle.store_cells.specs.Lists.{changed}
use Rattle.store_cells.specs.Cells.{PlainCell, kind_of, widget_of, writer_in, is_bunch}
use Rattle.store_cells.specs.Host.{AreHost, host_cells, host_count, place_of, is_permitted_cell}
use Rattle.permitted_table.specs.declared.table.TheConstants.{COUNT}
use Rattle.permitted_table.specs.Natives.{number_of}
use Rattle.permitted_table.specs.declared.native.NativeId.{NativeId}
use Rattle.permitted_table.specs.declared.native.NativeId.TheVariants as native
use Rattle.permitted_table.specs.declared.native.GlobalNative.TheVariants.{BooleanOf}
use Rattle.permitted_table.specs.declared.native.MathNative.TheVariants.{Abs}
use Rattle.permitted_table.specs.declared.native.PrototypeNative.TheVariants.{HasOwnProperty}
use Rattle.permitted_table.specs.declared.native.TextNative.TheVariants.{CharAt}
use Rattle.permitted_table.specs.declared.native.ListNative.TheVariants.{Join}
use Rattle.permitted_table.specs.declared.native.AdsafeNative.TheVariants.{Create}
use Rattle.permitted_table.specs.declared.native.DomNative.TheVariants.{DomQuery}
use Rattle.permitted_table.specs.declared.native.ReadNative.TheVariants.{Query}
use Rattle.permitted_table.specs.declared.native.WriteNative.TheVariants.{Append}
use Rattle.permitted_table.specs.declared.native.HostEntry.{HostEntry}
use Rattle.permitted_table.specs.declared.native.HostEntry.TheVariants as entry
use Rattle.store_cells.specs.declared.kind.CellKind.TheVariants as kind
use Rattle.store_cells.proofs.Lists.{none_some, some_same, length-changed, get_older}

abbrev is_hosts : PlainCell → Bool
is_hosts c = elim c.owner [ whose.Host ↦ true | whose.Widget w ↦ false ]

-- each of them is the host's
all_hosts : list_all is_hosts host_cells ≡ true
unfolding host_cells
all_hosts = refl

from_all : (cells : List PlainCell) (i : ℕ) (c : PlainCell) → list_all is_hosts cells ≡ true → slice_get cells i ≡ Some c → is_hosts c ≡ true
from_all [] i c h e = absurd (none_some e)
from_all (x ∷ cells) zero c h e = subst (λ y. is_hosts y ≡ true) (some_same x c e) (first (is_hosts x) (list_all is_hosts cells) h)
  where
    first : (a b : Bool) → (a && b) ≡ true → a ≡ true
    first true b g = refl
    first false b g = g
from_all (x ∷ cells) (suc i) c h e = from_all cells i c (rest (is_hosts x) (list_all is_hosts cells) h) e
  where
    rest : (a b : Bool) → (a && b) ≡ true → b ≡ true
    rest true b g = g
    rest false b g = absurd (false_true g)
      where
        false_true : false ≡ true → ⊥
        false_true g = cc

no_widget : (c : PlainCell) (w : ℕ) → is_hosts c ≡ true → widget_of c.owner ≡ Some w → ⊥
no_widget c w h e = by c.owner h e
  where
    by : (o : Owner) → (elim o [ whose.Host ↦ true | whose.Widget w ↦ false ]) ≡ true → widget_of o ≡ Some w → ⊥
    by whose.Host h e = none_some e
    by (whose.Widget v) h e = false_true h
      where
        false_true : false ≡ true → ⊥
        false_true g = cc

pub changed_apart : {X : Type 0} (xs : List X) (i k : ℕ) (f : X → X) → (i ≡ k → ⊥) → slice_get (changed xs i f) k ≡ slice_get xs k
changed_apart [] i k f h = refl
changed_apart (x ∷ xs) zero zero f h = absurd (h refl)
changed_apart (x ∷ xs) zero (suc k) f h = refl
changed_apart (x ∷ xs) (suc i) zero f h = refl
changed_apart (x ∷ xs) (suc i) (suc k) f h = changed_apart xs i k f (λ e. h (ap suc e))

pub apart : (i k : ℕ) → eqb i k ≡ false → i ≡ k → ⊥
apart i k f e = grind (arith, nat_tests, f, e)

pub is_same : (i k : ℕ) → eqb i k ≡ true → i ≡ k
is_same i k e = grind (arith, nat_tests, e)

-- a widget's cell is changed
pub host_changed : (cells : List PlainCell) (i : ℕ) (c : PlainCell) (w : ℕ) (f : PlainCell → PlainCell) → AreHost cells → slice_get cells i ≡ Some c → widget_of c.owner ≡ Some w → AreHost (changed cells i f)
host_changed cells i c w f h at owner = record {
  enough = subst (λ n. host_count ≤ n) (sym (length-changed cells i f)) h.enough;
  same = λ k lt. by k lt (eqb i k) refl;
}
  where
    by : (k : ℕ) → k < host_count → (b : Bool) → eqb i k ≡ b → slice_get (changed cells i f) k ≡ slice_get host_cells k
    by k lt false e = changed_apart cells i k f (apart i k e) ∙ h.same k lt
    by k lt true e = absurd (no_widget c w (from_all host_cells k c all_hosts (sym (h.same k lt) ∙ ap (slice_get cells) (sym (is_same i k e)) ∙ at)) owner)

-- one more cell
pub host_push : (cells : List PlainCell) (c : PlainCell) → AreHost cells → AreHost (cells ++ c ∷ [])
host_push cells c h = record {
  enough = omega (arith, h.enough, length-append cells (c ∷ []));
  same = λ k lt. get_older cells c k (omega (arith, lt, h.enough)) ∙ h.same k lt;
}

pub writer_widget : (c : PlainCell) (w : ℕ) → writer_in c.owner c.form ≡ Some w → widget_of c.owner ≡ Some w
writer_widget c w e = by (is_bunch c.form) e
  where
    by : (b : Bool) → (if b then None else widget_of c.owner) ≡ Some w → widget_of c.owner ≡ Some w
    by true e = absurd (none_some e)
    by false e = e

-- what stands at the host's places
pub global_is : (cells : List PlainCell) → AreHost cells → slice_get cells 0 ≡ slice_get host_cells 0
global_is cells h = h.same 0 (omega arith)

pub global_form : IfSome (slice_get host_cells 0) (λ c. kind_of c.form ≡ kind.Global)
unfolding host_cells
global_form = refl

-- one of each family is named, and `_` are all others
pub number_within : (n : NativeId) → number_of n < COUNT
number_within native.Bubble = omega arith
number_within (native.Global BooleanOf) = omega arith
number_within (native.Global _) = omega arith
number_within (native.Math Abs) = omega arith
number_within (native.Math _) = omega arith
number_within (native.Prototype HasOwnProperty) = omega arith
number_within (native.Prototype _) = omega arith
number_within (native.Text CharAt) = omega arith
number_within (native.Text _) = omega arith
number_within (native.List Join) = omega arith
number_within (native.List _) = omega arith
number_within (native.Adsafe Create) = omega arith
number_within (native.Adsafe _) = omega arith
number_within (native.Dom DomQuery) = omega arith
number_within (native.Dom _) = omega arith
number_within (native.Read Query) = omega arith
number_within (native.Read _) = omega arith
number_within (native.Write Append) = omega arith
number_within (native.Write _) = omega arith

pub place_within : (e : HostEntry) → place_of e < host_count
place_within entry.ObjectPrototype = omega arith
place_within entry.ArrayPrototype = omega arith
place_within entry.FunctionPrototype = omega arith
place_within entry.BunchPrototype = omega arith
place_within entry.TextPrototype = omega arith
place_within entry.NumberPrototype = omega arith
place_within entry.BooleanPrototype = omega arith
place_within entry.Math = omega arith
place_within entry.Adsafe = omega arith
place_within entry.Dom = omega arith
place_within (entry.Native n) = omega (arith, number_within n)

pub place_permitted : (e : HostEntry) → is_permitted_cell (place_of e) ≡ true
place_permitted entry.ObjectPrototype = refl
place_permitted entry.ArrayPrototype = refl
place_permitted entry.FunctionPrototype = refl
place_permitted entry.BunchPrototype = refl
place_permitted entry.TextPrototype = refl
place_permitted entry.NumberPrototype = refl
place_permitted entry.BooleanPrototype = refl
place_permitted entry.Math = refl
place_permitted entry.Adsafe = refl
place_permitted entry.Dom = refl
place_permitted (entry.Native n) = grind (arith, nat_tests, number_within n)
