-- What is read is what the meaning reads, and what the widget may hold.
use Rattle.std.proofs.Common.{◌≡◌, ℕ, ◌≤◌, List, length, refl, sym, ap, ◌∙◌, subst, Option, Some, None, Bool, true, false, if◌then◌else◌}
use Rattle.std.specs.Prelude.{IfSome, is_some, pos, unwrap_or, ◌||◌}
use Rattle.std.specs.Option.{option_map, option_map_or}
use Rattle.js_tree.specs.Forest.{Forest}
use Rattle.permitted_table.specs.declared.native.HostEntry.{HostEntry}
use Rattle.permitted_table.specs.declared.native.HostEntry.TheVariants as entry
use Rattle.store_cells.specs.declared.value.Value.{Value}
use Rattle.store_cells.specs.declared.value.Value.TheVariants as value
use Rattle.store_cells.specs.declared.value.Number.TheVariants as number
use Rattle.store_cells.specs.Cells.{Cells, chain, first_own, prototypes}
use Rattle.store_cells.specs.Host.{boolean_prototype, global, number_prototype, place_of, text_prototype}
use Rattle.store_cells.specs.Arrays.{count_value}
use Rattle.store_cells.proofs.Hosts.{place_permitted}
use Rattle.object_store.specs.Calls.{readable}
use Rattle.object_store.specs.Owned.{scope_number}
use Rattle.widget_meaning.specs.Values as meaning
use Rattle.widget_meaning.specs.Properties.{along, get, is_length, property}
use Rattle.widget_meaning.specs.Scopes.{value_in, variable}
use Rattle.js_image.specs.Image.{Rest, image, no_rest, seen}
use Rattle.js_image.specs.Held.{IsConfined, IsFine, IsHeld, IsPlaceScope}
use Rattle.js_image.specs.Laws.{AreLawful}
use Rattle.js_image.specs.Reads.{reader, shown_global, stored_found, stored_property, stored_read, stored_value}
use Rattle.js_image.proofs.Hosts.{entry_link, permitted_held}
use Rattle.js_image.proofs.Chains.{property_is, some_is, value_is}
use Rattle.js_image.proofs.Variables.{global_is, none_scope, variable_is}

module _ (fs : List Forest) (w : ℕ) (s : Cells) (confined : IsConfined fs w s) (laws : AreLawful s.cells) (x : List ℕ) where
  -- a property of a held cell
  pub held_property : (i : ℕ) → IsHeld w s.cells i → prototypes s.cells i ≤ 100 → (v : Value) → v ≡ stored_property s.cells i x
      → ((r : Rest) → seen w s.cells v ≡ get (image fs r w s) (seen w s.cells (value.Ref i)) x) × IsFine w s.cells v
  held_property i held few v e = (
    λ r. (value_is fs r w s confined laws x i held (prototypes s.cells i) refl few v e).0 ∙ sym (ap (λ o. unwrap_or o meaning.Undefined) (property_is fs r w s confined laws x i held)),
    (value_is fs no_rest w s confined laws x i held (prototypes s.cells i) refl few v e).1,
  )

  -- a property of a cell of the table
  pub entry_property : (e : HostEntry) (i : ℕ) → i ≡ place_of e → prototypes s.cells i ≤ 100 → (v : Value) → v ≡ stored_property s.cells i x
      → ((r : Rest) → seen w s.cells v ≡ unwrap_or (along (image fs r w s) (meaning.Host e) x) meaning.Undefined) × IsFine w s.cells v
  entry_property e i place few v is =
      let held : IsHeld w s.cells i = subst (IsHeld w s.cells) (sym place) (permitted_held w s.cells laws (place_of e) (place_permitted e)) in
      let link : seen w s.cells (value.Ref i) ≡ meaning.Host e = ap (λ k. seen w s.cells (value.Ref k)) place ∙ entry_link w s.cells laws e in (
        λ r. (value_is fs r w s confined laws x i held (prototypes s.cells i) refl few v is).0 ∙ ap (λ o. unwrap_or (along (image fs r w s) o x) meaning.Undefined) link,
        (value_is fs no_rest w s confined laws x i held (prototypes s.cells i) refl few v is).1,
      )

  -- a property of a value
  pub read_found : (base : Value) → IsFine w s.cells base → IfSome (reader base) (λ i. prototypes s.cells i ≤ 100) → (v : Value) → v ≡ stored_read s.cells base x
      → ((r : Rest) → seen w s.cells v ≡ get (image fs r w s) (seen w s.cells base) x) × IsFine w s.cells v
  read_found value.Undefined h few v e = (λ r. ap (seen w s.cells) e, subst (IsFine w s.cells) (sym e) tt)
  read_found value.Null h few v e = (λ r. ap (seen w s.cells) e, subst (IsFine w s.cells) (sym e) tt)
  read_found (value.Bool b) h few v e = entry_property entry.BooleanPrototype boolean_prototype refl few v e
  read_found (value.Num number.NaN) h few v e = entry_property entry.NumberPrototype number_prototype refl few v e
  read_found (value.Num (number.Whole z)) h few v e = entry_property entry.NumberPrototype number_prototype refl few v e
  read_found (value.Text t) h few v e = by (is_length x) e
    where
      by : (b : Bool) → v ≡ (if b then count_value (length t) else stored_property s.cells text_prototype x)
          → ((r : Rest) → seen w s.cells v ≡ unwrap_or (if b then Some (meaning.Num (pos (length t))) else along (image fs r w s) (meaning.Host entry.TextPrototype) x) meaning.Undefined) × IsFine w s.cells v
      by true e = (λ r. ap (seen w s.cells) e, subst (IsFine w s.cells) (sym e) tt)
      by false e = entry_property entry.TextPrototype text_prototype refl few v e
  read_found (value.Ref i) h few v e = held_property i h few v e

  -- whether a value has a property
  held_some : (i : ℕ) → IsHeld w s.cells i → prototypes s.cells i ≤ 100 → (r : Rest) → is_some (first_own x (readable s.cells i)) ≡ is_some (property (image fs r w s) (seen w s.cells (value.Ref i)) x)
  held_some i held few r = some_is fs r w s confined laws x i held few ∙ sym (ap is_some (property_is fs r w s confined laws x i held))

  entry_some : (e : HostEntry) (i : ℕ) → i ≡ place_of e → prototypes s.cells i ≤ 100 → (r : Rest) → is_some (first_own x (readable s.cells i)) ≡ is_some (along (image fs r w s) (meaning.Host e) x)
  entry_some e i place few r =
      let held : IsHeld w s.cells i = subst (IsHeld w s.cells) (sym place) (permitted_held w s.cells laws (place_of e) (place_permitted e)) in
      let link : seen w s.cells (value.Ref i) ≡ meaning.Host e = ap (λ k. seen w s.cells (value.Ref k)) place ∙ entry_link w s.cells laws e in
      some_is fs r w s confined laws x i held few ∙ ap (λ o. is_some (along (image fs r w s) o x)) link

  pub some_found : (base : Value) → IsFine w s.cells base → IfSome (reader base) (λ i. prototypes s.cells i ≤ 100) → (r : Rest) → stored_found s.cells base x ≡ is_some (property (image fs r w s) (seen w s.cells base) x)
  some_found value.Undefined h few r = refl
  some_found value.Null h few r = refl
  some_found (value.Bool b) h few r = entry_some entry.BooleanPrototype boolean_prototype refl few r
  some_found (value.Num number.NaN) h few r = entry_some entry.NumberPrototype number_prototype refl few r
  some_found (value.Num (number.Whole z)) h few r = entry_some entry.NumberPrototype number_prototype refl few r
  some_found (value.Text t) h few r = by (is_length x)
    where
      by : (b : Bool) → (b || is_some (first_own x (readable s.cells text_prototype))) ≡ is_some (if b then Some (meaning.Num (pos (length t))) else along (image fs r w s) (meaning.Host entry.TextPrototype) x)
      by true = refl
      by false = entry_some entry.TextPrototype text_prototype refl few r
  some_found (value.Ref i) h few r = held_some i h few r

  -- a variable
  pub value_found : (o : Option ℕ) → IsPlaceScope w s.cells o → (v : Value) → v ≡ stored_value s.cells o x
      → ((r : Rest) (d : ℕ) → seen w s.cells v ≡ variable (image fs r w s) (record { scope = option_map (scope_number w s.cells) o; depth = d }) x) × IsFine w s.cells v
  value_found None own v e =
      let g = global_is w s.cells laws x in (
        λ r d. ap (seen w s.cells) e ∙ g.0 ∙ sym (ap (λ o. value_in (image fs r w s) o x) (none_scope fs r w s confined laws x (length (image fs r w s).own.scopes))),
        subst (IsFine w s.cells) (sym e) g.1,
      )
  value_found (Some i) own v e =
      let g = global_is w s.cells laws x in
      let h = by (first_own x (chain s.cells i)) (variable_is fs no_rest w s confined laws x i own).fine in (
        λ r d. ap (seen w s.cells) e ∙ h.0 (value_in (image fs r w s) None x) g.0 ∙ sym (variable_is fs r w s confined laws x i own).same,
        subst (IsFine w s.cells) (sym e) (h.1 g.1),
      )
    where
      by : (o : Option Value) → IfSome o (IsFine w s.cells) → ((m : meaning.Value) → seen w s.cells (shown_global (first_own x (readable s.cells global))) ≡ m → seen w s.cells (option_map_or (λ u. u) o (shown_global (first_own x (readable s.cells global)))) ≡ option_map_or (seen w s.cells) o m)
          × (IsFine w s.cells (shown_global (first_own x (readable s.cells global))) → IsFine w s.cells (option_map_or (λ u. u) o (shown_global (first_own x (readable s.cells global)))))
      by None f = (λ m h. h, λ h. h)
      by (Some u) f = (λ m h. refl, λ h. f)
