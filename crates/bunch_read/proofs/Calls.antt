-- What the natives of this crate are in the meaning.
use Rattle.std.proofs.Common.{◌≡◌, ℕ, ◌<◌, arith, eqb, eqb-true, Bool, ◌||◌, List, [], ◌∷◌, true, false, refl, sym, ap, ◌∙◌, subst, map, Option, None, Some}
use Rattle.std.specs.Prelude.{Result, IfSome}
use Rattle.code_units.specs.declared.memory.Memory.{Memory}
use Rattle.std.specs.declared.vec.Vec.{Vec}
use Rattle.std.specs.declared.alloc.Global.{Global}
use Rattle.std.specs.Option.{option_and_then}
use Rattle.std.specs.List.{IsDistinct}
use Rattle.std.specs.Prelude.{nat_eq, slice_get, unwrap_or}
use Rattle.permitted_table.specs.declared.native.NativeId.{NativeId}
use Rattle.permitted_table.specs.declared.native.NativeId.TheVariants as native
use Rattle.store_cells.specs.declared.value.Value.{Value}
use Rattle.store_cells.specs.declared.value.Value.TheVariants as value
use Rattle.js_image.specs.Image.{all_seen, seen}
use Rattle.native_common.proofs.Seen.{nth_seen}
use Rattle.widget_meaning.specs.Values as meaning
use Rattle.permitted_table.specs.declared.native.DomNative.{DomNative}
use Rattle.permitted_table.specs.declared.native.DomNative.TheVariants as dom_names
use Rattle.permitted_table.specs.declared.native.ReadNative.TheVariants as read_names
use Rattle.permitted_table.specs.declared.native.ReadNative.{ReadNative}
use Rattle.widget_meaning.specs.Natives.{run_native}
use Rattle.widget_meaning.specs.BunchReads.{query, read_method}
use Rattle.widget_meaning.specs.OwnState as state
use Rattle.widget_meaning.specs.OwnState.{State}
use Rattle.widget_meaning.specs.Costs.{or_throw, throw}
use Rattle.store_cells.specs.Cells.{PlainCell}
use Rattle.code_units.specs.declared.owner.Owner.TheVariants as owner
use Rattle.page_tree.specs.declared.page.Page.{Page}
use Rattle.page_tree.specs.Pages.{root}
use Rattle.page_image.specs.Image.{HasRoot, number, owns, root_of}
use Rattle.page_image.proofs.Looks.{root_owned}
use Rattle.page_image.proofs.Pages.{is_widget}
use Rattle.query_grammar.specs.Finds.{has_number}
use Rattle.native_image.specs.Sound.{AreNodes}
use Rattle.js_values.specs.Fuel.{Fuel}
use Rattle.js_values.specs.declared.outcome.NativeOut.{NativeOut}
use Rattle.native_image.specs.Handed.{Reads, numbers, sees}
use Rattle.native_image.specs.declared.handed.Shared.{Shared}
use Rattle.native_image.specs.declared.handed.Widget.{Widget}
use Rattle.bunch_read.specs.Part.{is_part}

not_here : false ≡ true → ⊥
not_here e = cc

-- a method reads only its first argument; one is named, and `_` are all others
pub first_alone : (m : ReadNative) (ns : List ℕ) (vs : List meaning.Value) (s : State) → read_method m ns vs s ≡ read_method m ns (meaning.nth 0 vs ∷ []) s
first_alone read_names.Query ns vs s = refl
first_alone _ ns vs s = refl

-- the first argument
pub first_seen : (w : ℕ) (cells : List PlainCell) (vs : List Value) (v : Value) → v ≡ unwrap_or (slice_get vs 0) value.Undefined → meaning.nth 0 (all_seen w cells vs) ≡ seen w cells v
first_seen w cells vs v e = nth_seen w cells vs 0 ∙ ap (seen w cells) (sym e)

-- one method
pub of_method : (h new : Shared) (v : Widget) (had has : Fuel) (list : List ℕ) (first : Value) (r : Result NativeOut Memory) {m k : ReadNative} → m ≡ k → Reads h new v had has (λ d s. read_method k (numbers h v list) (sees h v first ∷ []) s) r → Reads h new v had has (λ d s. read_method m (numbers h v list) (sees h v first ∷ []) s) r
of_method h new v had has list first r e m = subst (λ n. Reads h new v had has (λ d s. read_method n (numbers h v list) (sees h v first ∷ []) s) r) (sym e) m

-- ## A native of this crate

module _ (which : NativeId) (part : is_part which ≡ true) (this : Option meaning.Value) (vs : List meaning.Value) (v : meaning.Value) (first : meaning.nth 0 vs ≡ v) (d : ℕ) (s : State) where
  -- `dom.q`
  pub dom_same : (n : DomNative) → which ≡ native.Dom n → (ns : List ℕ) → ns ≡ 0 ∷ [] → run_native which this vs d s ≡ query ns v s
  dom_same n is ns h = by n is (sym (ap is_part is) ∙ part)
    where
      by : (k : DomNative) → which ≡ native.Dom k → is_part (native.Dom k) ≡ true → run_native which this vs d s ≡ query ns v s
      by dom_names.DomQuery e g = ap (λ w. run_native w this vs d s) e ∙ (λ j. query (sym h j) (first j) s)
      by _ e g = absurd (not_here g)

  -- a method of a Bunch
  pub method_same : (m : ReadNative) → which ≡ native.Read m → (ns : List ℕ) → option_and_then (λ u. state.bunch_nodes (state.kind_of s u)) this ≡ Some ns → run_native which this vs d s ≡ read_method m ns (v ∷ []) s
  method_same m is ns h =
      ap (λ w. run_native w this vs d s) is
      ∙ ap (λ o. or_throw meaning.E3 o s (λ ms. read_method m ms vs s)) h
      ∙ first_alone m ns vs s
      ∙ ap (λ u. read_method m ns (u ∷ []) s) first

  -- of what is no Bunch
  pub method_none : (m : ReadNative) → which ≡ native.Read m → option_and_then (λ u. state.bunch_nodes (state.kind_of s u)) this ≡ None → run_native which this vs d s ≡ throw meaning.E3 s
  method_none m is h =
      ap (λ w. run_native w this vs d s) is
      ∙ ap (λ o. or_throw meaning.E3 o s (λ ms. read_method m ms vs s)) h

-- ## The root of a widget

one_distinct : (r : ℕ) → IsDistinct nat_eq (r ∷ [])
unfolding IsDistinct
one_distinct r = (tt, tt)

some_is : (a b : ℕ) → Some a ≡ Some b → a ≡ b
some_is a b e = cc

none_is : (a : ℕ) → None ≡ Some a → ⊥
none_is a e = cc

alone : (n r : ℕ) → has_number (r ∷ []) n ≡ true → n ≡ r
alone n r e = by (eqb n r) refl e
  where
    by : (b : Bool) → eqb n r ≡ b → (b || false) ≡ true → n ≡ r
    by true f g = eqb-true n r f
    by false f g = absurd (not_here g)

module _ (p : Page) (w : ℕ) (lt : w < 32) (home : HasRoot p w) (o : Option ℕ) (e : o ≡ root p (owner.Widget w)) where
  root_is : o ≡ Some home.root
  unfolding root_of
  root_is = e ∙ home.is

  pub no_root : o ≡ None → ⊥
  no_root h = none_is home.root (sym h ∙ root_is)

  module _ (r : ℕ) (h : o ≡ Some r) where
    same_root : r ≡ home.root
    same_root = some_is r home.root (sym h ∙ root_is)

    pub root_nodes : AreNodes p w (r ∷ [])
    root_nodes = record {
      own = λ n f. ap (owns p w) (alone n r f ∙ same_root) ∙ root_owned p w home (is_widget w lt);
      apart = one_distinct r;
      few = omega arith;
    }

    pub root_numbers : map (number p w) (r ∷ []) ≡ 0 ∷ []
    root_numbers = ap (λ n. n ∷ []) (ap (number p w) same_root ∙ home.first)

-- the nodes of a receiver
pub some_nodes : (p : Page) (w : ℕ) (o : Option (Vec ℕ Global)) (ns : Vec ℕ Global) (l : List ℕ) → o ≡ Some ns → l ≡ ns.items → IfSome o (λ v. AreNodes p w v.items) → AreNodes p w l
some_nodes p w o ns l e f h = subst (AreNodes p w) (sym f) (subst (λ u. IfSome u (λ v. AreNodes p w v.items)) e h)
