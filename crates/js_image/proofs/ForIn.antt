-- The names that `for-in` lists.
use Rattle.std.proofs.Common.{◌≡◌, ℕ, zero, suc, ◌<◌, List, [], ◌∷◌, ◌++◌, length, get_or, refl, sym, ap, ◌∙◌, subst, arith, Option, Some, None, Bool, true, false, cond, if◌then◌else◌, is_some, slice_get, filter, not, append_assoc}
use Rattle.std.specs.Prelude.{IfSome, ◌||◌}
use Rattle.std.specs.List.{AllByRecursion, list_any}
use Rattle.std.specs.Option.{option_map, option_map_or}
use Rattle.std.specs.Str.{bytes_eq}
use Rattle.std.proofs.lemmas.List.Folds.{list_any-append}
use Rattle.std.proofs.lemmas.Map.Views.{any-filter_same}
use Rattle.std.proofs.lemmas.Slice.Eq.{bytes_eq-Decides}
use Rattle.js_tree.specs.Forest.{Forest}
use Rattle.store_cells.specs.declared.value.Value.{Value}
use Rattle.store_cells.specs.declared.value.Value.TheVariants as value
use Rattle.store_cells.specs.declared.value.Number.TheVariants as number
use Rattle.store_cells.specs.Arrays.{keys_of}
use Rattle.store_cells.specs.Bunches.{IsBunch}
use Rattle.store_cells.specs.Cells.{Cells, PlainCell, is_bunch, is_scope, is_scope_at, own_count, proto_in, widget_of}
use Rattle.store_cells.specs.Shape.{IsLinked}
use Rattle.object_store.specs.Calls.{keys_at}
use Rattle.object_store.specs.Owned.{visible_at}
use Rattle.widget_meaning.specs.Values as meaning
use Rattle.widget_meaning.specs.OwnState.{State, cell_at}
use Rattle.widget_meaning.specs.Properties.{is_listed, keys, listed, names_of, names_on_chain, permitted_names, prototype}
use Rattle.js_image.specs.Image.{Rest, image, seen}
use Rattle.js_image.specs.Held.{IsConfined, IsFine, IsHeld}
use Rattle.js_image.specs.Laws.{AreLawful}
use Rattle.js_image.specs.Reads.{cell_in}
use Rattle.js_image.specs.Elements.{is_listed_in, stored_names}
use Rattle.js_image.proofs.Chains.{not_scope, own_link_is, proto_is, up_held}
use Rattle.js_image.proofs.Hosts.{get_there, host_link}
use Rattle.js_image.proofs.Listed.{keys_are}
use Rattle.js_image.proofs.Puts.{hosts_cell, owner_is, permitted_else, shows}

none_some : {A : Type 0} {a : A} → None ≡ Some a → ⊥
none_some h = cc

some_same : {A : Type 0} (a b : A) → Some a ≡ Some b → a ≡ b
some_same a b e = cc

-- no cell is left
pub names_none : (m : ℕ) (cells : List PlainCell) (xs : List (List ℕ)) → stored_names m cells None xs ≡ xs
names_none zero cells xs = refl
names_none (suc m) cells xs = refl

-- a cell of the host gives none
pub names_host : (m : ℕ) (cells : List PlainCell) (i : ℕ) (xs : List (List ℕ)) → i < length cells → IfSome (slice_get cells i) (λ c. is_some (widget_of c.owner) ≡ false) → stored_names m cells (Some i) xs ≡ xs
names_host zero cells i xs lt h = refl
names_host (suc m) cells i xs lt h =
    let c = get_there cells i lt in
    let e : is_some (widget_of c.0.owner) ≡ false = subst (λ (o : Option PlainCell). IfSome o (λ d. is_some (widget_of d.owner) ≡ false)) c.1 h in
    ap (λ (o : Option PlainCell). option_map_or (λ d. if is_some (widget_of d.owner) then stored_names m cells (proto_in d) (listed xs (keys_of d)) else xs) o xs) c.1
    ∙ ap (λ b. if b then stored_names m cells (proto_in c.0) (listed xs (keys_of c.0)) else xs) e

-- a cell of a widget
pub names_own : (m : ℕ) (cells : List PlainCell) (i : ℕ) (xs : List (List ℕ)) (up : Option ℕ) → i < length cells → IfSome (slice_get cells i) (λ c. is_some (widget_of c.owner) ≡ true) → IfSome (slice_get cells i) (λ c. up ≡ proto_in c)
    → stored_names (suc m) cells (Some i) xs ≡ stored_names m cells up (listed xs (keys_at cells i))
names_own m cells i xs up lt h u =
    let c = get_there cells i lt in
    let e : is_some (widget_of c.0.owner) ≡ true = subst (λ (o : Option PlainCell). IfSome o (λ d. is_some (widget_of d.owner) ≡ true)) c.1 h in
    let p : up ≡ proto_in c.0 = subst (λ (o : Option PlainCell). IfSome o (λ d. up ≡ proto_in d)) c.1 u in
    ap (λ (o : Option PlainCell). option_map_or (λ d. if is_some (widget_of d.owner) then stored_names m cells (proto_in d) (listed xs (keys_of d)) else xs) o xs) c.1
    ∙ ap (λ b. if b then stored_names m cells (proto_in c.0) (listed xs (keys_of c.0)) else xs) e
    ∙ (λ j. stored_names m cells (sym p j) (listed xs (option_map_or keys_of (sym c.1 j) [])))

-- a prototype is a cell of the store
pub up_within : (cells : List PlainCell) → ((i : ℕ) (c : PlainCell) → slice_get cells i ≡ Some c → IsLinked cells i c) → (i : ℕ) (up : Option ℕ) → i < length cells → IfSome (slice_get cells i) (λ c. up ≡ proto_in c) → IfSome up (λ j. j < length cells)
up_within cells linked i up lt u =
    let c = get_there cells i lt in
    let p : up ≡ proto_in c.0 = subst (λ (o : Option PlainCell). IfSome o (λ d. up ≡ proto_in d)) c.1 u in
    subst (λ (o : Option ℕ). IfSome o (λ j. j < length cells)) (sym p) (by c.0 (is_scope c.0.form) c.0.up (linked i c.0 c.1).up)
  where
    by : (c : PlainCell) (b : Bool) (o : Option ℕ) → IfSome o (λ j. (j < i) × (is_scope_at cells j ≡ is_scope c.form)) → IfSome (if b then None else o) (λ j. j < length cells)
    by c true o h = tt
    by c false None h = tt
    by c false (Some j) h = omega (arith, h.0, lt)

-- whose a cell is, by a test
pub hosts_cell_is : (cells : List PlainCell) (i : ℕ) (b : Bool) → IfSome (slice_get cells i) (λ c. b ≡ not (is_some (widget_of c.owner))) → b ≡ true → IfSome (slice_get cells i) (λ c. is_some (widget_of c.owner) ≡ false)
hosts_cell_is cells i b h e = by (slice_get cells i) h
  where
    by : (o : Option PlainCell) → IfSome o (λ c. b ≡ not (is_some (widget_of c.owner))) → IfSome o (λ c. is_some (widget_of c.owner) ≡ false)
    by None h = tt
    by (Some c) h = flip (is_some (widget_of c.owner)) h
      where
        flip : (x : Bool) → b ≡ not x → x ≡ false
        flip false g = refl
        flip true g = sym e ∙ g

pub own_cell_is : (cells : List PlainCell) (i : ℕ) (b : Bool) → IfSome (slice_get cells i) (λ c. b ≡ not (is_some (widget_of c.owner))) → b ≡ false → IfSome (slice_get cells i) (λ c. is_some (widget_of c.owner) ≡ true)
own_cell_is cells i b h e = by (slice_get cells i) h
  where
    by : (o : Option PlainCell) → IfSome o (λ c. b ≡ not (is_some (widget_of c.owner))) → IfSome o (λ c. is_some (widget_of c.owner) ≡ true)
    by None h = tt
    by (Some c) h = flip (is_some (widget_of c.owner)) h
      where
        flip : (x : Bool) → b ≡ not x → x ≡ true
        flip true g = refl
        flip false g = sym e ∙ g

-- what is listed once more names are
pub listed_more : (xs ys : List (List ℕ)) (y : List ℕ) → is_listed (listed xs ys) y ≡ (is_listed xs y || is_listed ys y)
listed_more xs ys y = list_any-append (bytes_eq y) xs (filter (λ z. not (is_listed xs z)) ys) ∙ by (is_listed xs y) refl
  where
    same : (z : List ℕ) → bytes_eq y z ≡ true → not (is_listed xs z) ≡ not (is_listed xs y)
    same z e = ap (λ t. not (is_listed xs t)) (sym ((bytes_eq-Decides y z).0 e))

    by : (b : Bool) → is_listed xs y ≡ b → (b || list_any (bytes_eq y) (filter (λ z. not (is_listed xs z)) ys)) ≡ (b || is_listed ys y)
    by true e = refl
    by false e = any-filter_same (bytes_eq y) (λ z. not (is_listed xs z)) true (λ z h. same z h ∙ ap not e) ys

pub behind_more : (cells : List PlainCell) (xs : List (List ℕ)) (behind : List ℕ) (i : ℕ) → ((y : List ℕ) → is_listed xs y ≡ list_any (is_listed_in cells y) behind) → (y : List ℕ) → is_listed (listed xs (keys_at cells i)) y ≡ list_any (is_listed_in cells y) (behind ++ i ∷ [])
behind_more cells xs behind i h y =
    listed_more xs (keys_at cells i) y ∙ ap (λ b. b || is_listed_in cells y i) (h y)
    ∙ ap (λ b. list_any (is_listed_in cells y) behind || b) (sym (or_false (is_listed_in cells y i)))
    ∙ sym (list_any-append (is_listed_in cells y) behind (i ∷ []))
  where
    or_false : (b : Bool) → (b || false) ≡ b
    or_false true = refl
    or_false false = refl

pub all_push : (n : ℕ) (is : List ℕ) (i : ℕ) → AllByRecursion (λ j. j < n) is → i < n → AllByRecursion (λ j. j < n) (is ++ i ∷ [])
all_push n [] i h lt = (lt, tt)
all_push n (j ∷ is) i h lt = (h.0, all_push n is i h.1 lt)

pub all_at : (n : ℕ) (is : List ℕ) (k : ℕ) → AllByRecursion (λ j. j < n) is → k < length is → get_or is k 0 < n
all_at n [] k h lt = absurd (omega (arith, lt))
all_at n (j ∷ is) zero h lt = h.0
all_at n (j ∷ is) (suc k) h lt = all_at n is k h.1 (omega (arith, lt))

-- a cell lists a name
pub lists_at : (cells : List PlainCell) (i : ℕ) (name : List ℕ) (b : Bool) → i < length cells → IfSome (slice_get cells i) (λ c. b ≡ list_any (bytes_eq name) (keys_of c)) → b ≡ is_listed_in cells name i
lists_at cells i name b lt h =
    let c = get_there cells i lt in
    let e : b ≡ list_any (bytes_eq name) (keys_of c.0) = subst (λ (o : Option PlainCell). IfSome o (λ d. b ≡ list_any (bytes_eq name) (keys_of d))) c.1 h in
    e ∙ sym (ap (λ (o : Option PlainCell). list_any (bytes_eq name) (option_map_or keys_of o [])) c.1)

-- a search among cells
pub any_here : (p : ℕ → Bool) (is : List ℕ) (k : ℕ) → k < length is → p (get_or is k 0) ≡ true → list_any p is ≡ true
any_here p [] k lt h = absurd (omega (arith, lt))
any_here p (j ∷ is) zero lt h = ap (λ b. b || list_any p is) h
any_here p (j ∷ is) (suc k) lt h = by (p j) (any_here p is k (omega (arith, lt)) h)
  where
    by : (b : Bool) → list_any p is ≡ true → (b || list_any p is) ≡ true
    by true e = refl
    by false e = e

pub any_nowhere : (p : ℕ → Bool) (is : List ℕ) → ((k : ℕ) → k < length is → p (get_or is k 0) ≡ false) → list_any p is ≡ false
any_nowhere p [] h = refl
any_nowhere p (j ∷ is) h = ap (λ b. b || list_any p is) (h 0 (omega arith)) ∙ any_nowhere p is (λ k lt. h (suc k) (omega (arith, lt)))

-- one name more
pub name_put : (old now after part : List (List ℕ)) (x : List ℕ) (b : Bool) → now ≡ old ++ part → b ≡ is_listed old x → after ≡ now ++ (if b then [] else x ∷ []) → after ≡ old ++ (part ++ cond (not (is_listed old x)) (x ∷ []) [])
name_put old now after part x b e f g =
    g ∙ (λ j. e j ++ (if f j then [] else x ∷ [])) ∙ ap (λ l. (old ++ part) ++ l) (by (is_listed old x)) ∙ append_assoc old part (cond (not (is_listed old x)) (x ∷ []) [])
  where
    by : (b : Bool) → (if b then [] else x ∷ []) ≡ cond (not b) (x ∷ []) []
    by true = refl
    by false = refl

module _ (fs : List Forest) (r : Rest) (w : ℕ) (s : Cells) (confined : IsConfined fs w s) (laws : AreLawful s.cells) (bunches : (i : ℕ) (c : PlainCell) → slice_get s.cells i ≡ Some c → is_bunch c.form ≡ true → IsBunch s.cells c) where
  abbrev st : State
  st = image fs r w s

  -- the names along the prototypes of a cell that the widget holds
  names_are : (m i : ℕ) → IsHeld w s.cells i → (xs : List (List ℕ)) → stored_names m s.cells (Some i) xs ≡ names_on_chain m st (Some (seen w s.cells (value.Ref i))) xs
  names_are zero i held xs = refl
  names_are (suc m) i held xs = by (λ j h ys. names_are m j h ys) (get_there s.cells i held.0) (visible_at w s.cells i) refl
    where
      ups : (o : Option ℕ) → ((j : ℕ) → o ≡ Some j → IsHeld w s.cells j) → IfSome o (IsHeld w s.cells)
      ups None h = tt
      ups (Some j) h = h j refl

      up : ((j : ℕ) → IsHeld w s.cells j → (ys : List (List ℕ)) → stored_names m s.cells (Some j) ys ≡ names_on_chain m st (Some (seen w s.cells (value.Ref j))) ys)
          → (ys : List (List ℕ)) (o : Option ℕ) (p : meaning.Value) → IfSome o (IsHeld w s.cells) → Some p ≡ option_map (λ j. seen w s.cells (value.Ref j)) o → stored_names m s.cells o ys ≡ names_on_chain m st (Some p) ys
      up again ys None p h e = absurd (none_some (sym e))
      up again ys (Some j) p h e = again j h ys ∙ ap (λ v. names_on_chain m st (Some v) ys) (sym (some_same _ _ e))

      by : ((j : ℕ) → IsHeld w s.cells j → (ys : List (List ℕ)) → stored_names m s.cells (Some j) ys ≡ names_on_chain m st (Some (seen w s.cells (value.Ref j))) ys)
          → (there : (c : PlainCell) × (slice_get s.cells i ≡ Some c)) (b : Bool) → visible_at w s.cells i ≡ b → stored_names (suc m) s.cells (Some i) xs ≡ names_on_chain (suc m) st (Some (seen w s.cells (value.Ref i))) xs
      by again there true e =
          let c = there.0 in
          let at = there.1 in
          let link = own_link_is fs r w s confined laws [] i e in
          let mine = shows w s.cells i c at ∙ e in
          let object : is_scope c.form ≡ false = sym (ap (λ (o : Option PlainCell). option_map_or (λ d. is_scope d.form) o false) at) ∙ not_scope fs r w s confined laws [] i c at held in
          let names : keys_at s.cells i ≡ permitted_names (cell_at st (own_count w s.cells i)).pairs = keys_are fs r w s laws bunches i held ∙ ap (keys st) link in
          let proto : Some (cell_at st (own_count w s.cells i)).prototype ≡ option_map (λ j. seen w s.cells (value.Ref j)) c.up = sym (ap (prototype st) link) ∙ proto_is fs r w s confined laws [] i c at held in
          names_own m s.cells i xs c.up held.0 (subst (λ (o : Option PlainCell). IfSome o (λ d. is_some (widget_of d.owner) ≡ true)) (sym at) (ap is_some (owner_is w c mine))) (subst (λ (o : Option PlainCell). IfSome o (λ d. c.up ≡ proto_in d)) (sym at) (ap (λ b. if b then None else c.up) (sym object)))
          ∙ up again (listed xs (keys_at s.cells i)) c.up (cell_at st (own_count w s.cells i)).prototype (ups c.up (λ j u. (up_held fs r w s confined laws [] i j c at held u).0)) proto
          ∙ ap (λ ys. names_on_chain m st (Some (cell_at st (own_count w s.cells i)).prototype) (listed xs ys)) names
          ∙ sym (ap (λ v. names_on_chain (suc m) st (Some v) xs) link)
      by again there false e =
          let c = there.0 in
          let at = there.1 in
          let p = permitted_else w s.cells i held e in
          names_host (suc m) s.cells i xs held.0 (subst (λ (o : Option PlainCell). IfSome o (λ d. is_some (widget_of d.owner) ≡ false)) (sym at) (ap is_some (hosts_cell w s.cells laws i c at p)))
          ∙ sym (ap (λ v. names_on_chain (suc m) st (Some v) xs) (host_link w s.cells laws i p))

  -- the names of a value
  pub names_value : (v : Value) → IsFine w s.cells v → stored_names 101 s.cells (cell_in v) [] ≡ names_of st (seen w s.cells v)
  names_value value.Undefined h = refl
  names_value value.Null h = refl
  names_value (value.Bool b) h = refl
  names_value (value.Num number.NaN) h = refl
  names_value (value.Num (number.Whole z)) h = refl
  names_value (value.Text t) h = refl
  names_value (value.Ref i) h = names_are 101 i h []
