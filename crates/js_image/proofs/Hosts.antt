-- The host's cells are the entries of the permitted table.
use Rattle.std.proofs.Common.{◌≡◌, ℕ, suc, ◌+◌, ◌<◌, ◌≤◌, List, [], ◌∷◌, length, refl, sym, ap, ◌∙◌, subst, Option, Some, None, arith, Bool, true, false, if◌then◌else◌, slice_get, zero}
use Rattle.std.specs.Prelude.{IfSome, ◌&&◌, ◌||◌, ◌-◌, slice_index_or}
use Rattle.std.specs.Option.{option_map, option_map_or}
use Rattle.std.specs.Str.{bytes_eq}
use Rattle.std.specs.Map.{lookup}
use Rattle.std.proofs.lemmas.Bool.Decides.{nat_tests}
use Rattle.std.proofs.lemmas.Option.{get_or_from_slice_get, slice_get-map}
use Rattle.std.proofs.lemmas.Map.Made.{lookup-map_values}
use Rattle.code_units.specs.declared.owner.Owner.{Owner}
use Rattle.code_units.specs.declared.owner.Owner.TheVariants as whose
use Rattle.permitted_table.specs.declared.native.HostEntry.{HostEntry}
use Rattle.permitted_table.specs.declared.native.HostEntry.TheVariants as entry
use Rattle.permitted_table.specs.Table.{entries, entry_number, names_of, prototype_of}
use Rattle.permitted_table.proofs.Entries.{stands}
use Rattle.store_cells.specs.declared.value.Value.TheVariants as value
use Rattle.store_cells.specs.Cells.{PlainCell, is_own, is_visible, value_of, own_count}
use Rattle.store_cells.specs.Host.{entry_cell, host_cells, host_count, is_host_owner, is_permitted_cell, leads_on, place_of}
use Rattle.store_cells.proofs.Hosts.{place_permitted}
use Rattle.object_store.specs.Owned as store
use Rattle.object_store.specs.Owned.{visible_at}
use Rattle.widget_meaning.specs.Values as meaning
use Rattle.widget_meaning.specs.OwnState as state
use Rattle.widget_meaning.specs.HostTable.{host_pairs, host_prototype}
use Rattle.js_image.specs.Image.{entry_at, meant, seen}
use Rattle.js_image.specs.Held.{IsHeld}
use Rattle.js_image.specs.Laws.{AreLawful}

false_true : false ≡ true → ⊥
false_true h = cc

none_some : {A : Type 0} {a : A} → None ≡ Some a → ⊥
none_some h = cc

some_same : {A : Type 0} (a b : A) → Some a ≡ Some b → a ≡ b
some_same a b e = cc

either : (a : Bool) {b : Bool} → b ≡ true → (a || b) ≡ true
either true h = refl
either false h = h

first_is : (a b : Bool) → (a && b) ≡ true → a ≡ true
first_is true b g = refl
first_is false b g = g

pub get_there : {X : Type 0} (xs : List X) (i : ℕ) → i < length xs → (x : X) × (slice_get xs i ≡ Some x)
get_there [] i lt = absurd (omega (arith, lt))
get_there (x ∷ xs) zero lt = (x, refl)
get_there (x ∷ xs) (suc i) lt = get_there xs i (omega (arith, lt))

-- the entry of a place
entry_place : (e : HostEntry) → entry_at (place_of e) ≡ e
entry_place e = ap (λ i. slice_index_or entries i entry.ObjectPrototype) (number e) ∙ get_or_from_slice_get entries (entry_number e) e entry.ObjectPrototype (stands e)
  where
    sub : (m : ℕ) → (12 + m) - 2 ≡ 10 + m
    sub m = omega arith

    number : (e : HostEntry) → place_of e - 2 ≡ entry_number e
    number entry.ObjectPrototype = refl
    number entry.ArrayPrototype = refl
    number entry.FunctionPrototype = refl
    number entry.BunchPrototype = refl
    number entry.TextPrototype = refl
    number entry.NumberPrototype = refl
    number entry.BooleanPrototype = refl
    number entry.Math = refl
    number entry.Adsafe = refl
    number entry.Dom = refl
    number (entry.Native n) = sub _

pub permitted_two : (i : ℕ) → is_permitted_cell i ≡ true → (2 ≤ i) × (i < host_count)
permitted_two i h = (grind (arith, nat_tests, h), grind (arith, nat_tests, h))

-- a cell of the host
pub host_invisible : (w : ℕ) (c : PlainCell) → leads_on c ≡ true → is_visible w c ≡ false
host_invisible w c h = by c.owner (first_is (is_host_owner c.owner) _ h)
  where
    by : (o : Owner) → is_host_owner o ≡ true → is_own w o c.form ≡ false
    by whose.Host g = refl
    by (whose.Widget v) g = absurd (false_true g)

module _ (w : ℕ) (cells : List PlainCell) (laws : AreLawful cells) where
  pub leads_at : (i : ℕ) (c : PlainCell) → slice_get cells i ≡ Some c → is_permitted_cell i ≡ true → leads_on c ≡ true
  leads_at i c at p = subst (λ (o : Option PlainCell). IfSome o (λ d. leads_on d ≡ true)) at (laws.leads i p)

  pub permitted_held : (i : ℕ) → is_permitted_cell i ≡ true → IsHeld w cells i
  permitted_held i p = (omega (arith, (permitted_two i p).1, laws.enough), either (visible_at w cells i) p)

  pub permitted_unseen : (i : ℕ) → is_permitted_cell i ≡ true → visible_at w cells i ≡ false
  permitted_unseen i p =
      let c = get_there cells i (permitted_held i p).0 in
      ap (λ (o : Option PlainCell). option_map_or (is_visible w) o false) c.1 ∙ host_invisible w c.0 (leads_at i c.0 c.1 p)

  -- a reference to a cell of the table
  pub host_link : (i : ℕ) → is_permitted_cell i ≡ true → seen w cells (value.Ref i) ≡ meaning.Host (entry_at i)
  host_link i p = ap (λ b. meant (if b then store.Own (own_count w cells i) else store.Other i)) (permitted_unseen i p)

  pub entry_link : (e : HostEntry) → seen w cells (value.Ref (place_of e)) ≡ meaning.Host e
  entry_link e = host_link (place_of e) (place_permitted e) ∙ ap meaning.Host (entry_place e)

  -- the cell of a place of the table
  pub host_is : (i : ℕ) (c : PlainCell) → is_permitted_cell i ≡ true → slice_get cells i ≡ Some c → c ≡ entry_cell (entry_at i)
  unfolding host_cells
  host_is i c p at = by (slice_get entries k) refl
    where
      k : ℕ
      k = i - 2

      back : suc (suc k) ≡ i
      back = omega (arith, (permitted_two i p).0)

      there : option_map entry_cell (slice_get entries k) ≡ Some c
      there = sym (slice_get-map entry_cell entries k) ∙ ap (slice_get host_cells) back ∙ sym (laws.same i (permitted_two i p).1) ∙ at

      by : (o : Option HostEntry) → slice_get entries k ≡ o → c ≡ entry_cell (entry_at i)
      by None e = absurd (none_some (sym (ap (option_map entry_cell) e) ∙ there))
      by (Some h) e = sym (some_same (entry_cell h) c (sym (ap (option_map entry_cell) e) ∙ there)) ∙ ap entry_cell (sym (get_or_from_slice_get entries k h entry.ObjectPrototype e))

  -- what a cell of the table has under a name
  pub entry_own : (e : HostEntry) (x : List ℕ) → state.lookup (host_pairs e) x ≡ option_map (seen w cells) (value_of (entry_cell e).pairs x)
  entry_own e x =
      lookup-map_values meaning.Host (bytes_eq x) (names_of e)
      ∙ by (lookup (bytes_eq x) (names_of e))
      ∙ sym (ap (option_map (seen w cells)) (lookup-map_values (λ h. value.Ref (place_of h)) (bytes_eq x) (names_of e)))
    where
      by : (o : Option HostEntry) → option_map meaning.Host o ≡ option_map (seen w cells) (option_map (λ h. value.Ref (place_of h)) o)
      by None = refl
      by (Some h) = ap Some (sym (entry_link h))

  -- the prototype of a cell of the table
  pub entry_proto : (e : HostEntry) → host_prototype e ≡ option_map (λ j. seen w cells (value.Ref j)) (entry_cell e).up
  entry_proto e = by (prototype_of e)
    where
      by : (o : Option HostEntry) → option_map meaning.Host o ≡ option_map (λ j. seen w cells (value.Ref j)) (option_map place_of o)
      by None = refl
      by (Some h) = ap Some (sym (entry_link h))
