-- A variable is found in the scope in which the meaning finds it.
use Rattle.std.proofs.Common.{◌≡◌, ℕ, zero, suc, ◌<◌, List, [], ◌∷◌, ◌++◌, length, refl, sym, ap, ◌∙◌, subst, Option, Some, None, arith, Bool, true, false, cond, if◌then◌else◌, slice_get, filter, map, take, is_some}
use Rattle.std.specs.Prelude.{IfSome, codes, nat_eq, unwrap_or}
use Rattle.std.specs.List.{count_by}
use Rattle.std.specs.Option.{option_map, option_map_or, option_and_then}
use Rattle.std.specs.Str.{bytes_eq}
use Rattle.std.proofs.lemmas.Bool.Decides.{nat_tests}
use Rattle.std.proofs.lemmas.List.{length-map}
use Rattle.std.proofs.lemmas.List.Sums.{length-filter}
use Rattle.std.proofs.lemmas.Option.{get_or_from_slice_get, slice_get-map}
use Rattle.js_tree.specs.Forest.{Forest}
use Rattle.permitted_table.specs.Table as table
use Rattle.permitted_table.specs.Table.{Global, Leads}
use Rattle.store_cells.specs.declared.value.Value.{Value}
use Rattle.store_cells.specs.declared.value.Value.TheVariants as value
use Rattle.store_cells.specs.Lists.{climb, count_before, links}
use Rattle.store_cells.specs.Cells.{Cells, PlainCell, chain, first_own, has_own, holder, is_bunch, is_scope, is_scope_at, value_of}
use Rattle.store_cells.specs.Host.{body, global_cell, global_value, host_cells, is_permitted_cell, place_of}
use Rattle.store_cells.proofs.Hosts.{place_permitted}
use Rattle.store_cells.proofs.Lists.{count_before-all, count_step}
use Rattle.object_store.specs.Calls.{readable}
use Rattle.object_store.specs.Owned.{is_own_scope, own_scope, own_scopes, owned, scope_number}
use Rattle.object_store.proofs.Chains.{along_first}
use Rattle.widget_meaning.specs.Values as meaning
use Rattle.widget_meaning.specs.OwnState as state
use Rattle.widget_meaning.specs.OwnState.{State, scope_at}
use Rattle.widget_meaning.specs.HostTable as host
use Rattle.widget_meaning.specs.Properties.{or_else}
use Rattle.widget_meaning.specs.Scopes.{scope_having, value_in}
use Rattle.js_image.specs.Image.{Rest, image, meant_scope, seen}
use Rattle.js_image.specs.Held.{IsConfined, IsFine, IsOwnScope, IsPlaceScope}
use Rattle.js_image.specs.Laws.{AreLawful}
use Rattle.js_image.specs.Reads.{shown_global}
use Rattle.js_image.proofs.Chains.{first_step, found_fine, heap_at, looked}
use Rattle.js_image.proofs.Hosts.{entry_link, permitted_held, permitted_two}

false_true : false ≡ true → ⊥
false_true h = cc

none_some : {A : Type 0} {a : A} → None ≡ Some a → ⊥
none_some h = cc

some_same : {A : Type 0} (a b : A) → Some a ≡ Some b → a ≡ b
some_same a b e = cc

-- an earlier one has a smaller number
count_less : {X : Type 0} (p : X → Bool) (xs : List X) (j i : ℕ) (x : X) → j < i → slice_get xs j ≡ Some x → p x ≡ true → count_before p xs j < count_before p xs i
count_less p [] j i x lt at mine = absurd (none_some at)
count_less p (y ∷ xs) j zero x lt at mine = absurd (omega (arith, lt))
count_less p (y ∷ xs) zero (suc i) x lt at mine = subst (λ n. 0 < n) (sym (count_step p y (take i xs) ∙ ap (λ b. if b then suc (count_by p (take i xs)) else count_by p (take i xs)) (ap p (some_same y x at) ∙ mine))) (omega arith)
count_less p (y ∷ xs) (suc j) (suc i) x lt at mine = subst (λ m. m < count_by p (y ∷ take i xs)) (sym (count_step p y (take j xs))) (subst (λ n. (if p y then suc (count_by p (take j xs)) else count_by p (take j xs)) < n) (sym (count_step p y (take i xs))) (by (p y) (count_less p xs j i x (omega (arith, lt)) at mine)))
  where
    by : (b : Bool) → count_before p xs j < count_before p xs i → (if b then suc (count_before p xs j) else count_before p xs j) < (if b then suc (count_before p xs i) else count_before p xs i)
    by true h = omega (arith, h)
    by false h = h

module _ (fs : List Forest) (r : Rest) (w : ℕ) (s : Cells) (confined : IsConfined fs w s) (laws : AreLawful s.cells) (x : List ℕ) where
  abbrev st : State
  st = image fs r w s

  abbrev at_scope : ℕ → ℕ
  at_scope i = scope_number w s.cells i

  -- the scope at a number
  pub scope_is : (i : ℕ) (c : PlainCell) → slice_get s.cells i ≡ Some c → is_own_scope w c ≡ true → scope_at st (at_scope i) ≡ meant_scope (own_scope w s.cells c)
  unfolding owned
  scope_is i c at mine =
      get_or_from_slice_get (map meant_scope (own_scopes w s.cells s.cells)) (at_scope i) (meant_scope (own_scope w s.cells c)) _
      (slice_get-map meant_scope (own_scopes w s.cells s.cells) (at_scope i) ∙ ap (option_map meant_scope) (heap_at (is_own_scope w) (own_scope w s.cells) s.cells i c at mine))

  pub own_there : (i : ℕ) → IsOwnScope w s.cells i → (c : PlainCell) × (slice_get s.cells i ≡ Some c) × (is_own_scope w c ≡ true)
  own_there i h = by (slice_get s.cells i) refl h.1
    where
      by : (o : Option PlainCell) → slice_get s.cells i ≡ o → option_map_or (is_own_scope w) o false ≡ true → (c : PlainCell) × (slice_get s.cells i ≡ Some c) × (is_own_scope w c ≡ true)
      by None e g = absurd (false_true g)
      by (Some c) e g = (c, e, g)

  -- the scope around one
  around : (i j : ℕ) (c : PlainCell) → slice_get s.cells i ≡ Some c → is_own_scope w c ≡ true → c.up ≡ Some j → (j < i) × IsOwnScope w s.cells j
  around i j c at mine e = (
    (subst (λ (o : Option ℕ). IfSome o (λ k. (k < i) × (is_scope_at s.cells k ≡ is_scope c.form))) e (laws.linked i c at).up).0,
    subst (λ (o : Option ℕ). IsPlaceScope w s.cells o) e ((confined.each i c at).scope mine).outer,
  )

  abbrev climbs : ℕ → Option ℕ → Option ℕ
  climbs f o = climb (has_own x) (λ c. c.up) f s.cells o

  abbrev Finds : ℕ → Type 0
  Finds f = (n i : ℕ) → i < f → IsOwnScope w s.cells i → at_scope i < n → scope_having n st (Some (at_scope i)) x ≡ option_map at_scope (climbs f (Some i))

  having : (f : ℕ) → Finds f
  having zero n i lt own less = absurd (omega (arith, lt))
  having (suc f) zero i lt own less = absurd (omega (arith, less))
  having (suc f) (suc n) i lt own less =
      let c = own_there i own in
      step c.0 c.1 c.2 (value_of c.0.pairs x) refl (λ o e. outer c.0 c.1 c.2 (λ m j l h g. having f m j l h g) o e)
      ∙ ap (λ (o : Option PlainCell). option_map at_scope (option_map_or (λ d. if has_own x d then Some i else climbs f d.up) o None)) (sym c.1)
    where
      -- outside
      outer : (c : PlainCell) → slice_get s.cells i ≡ Some c → is_own_scope w c ≡ true → Finds f → (o : Option ℕ) → c.up ≡ o → scope_having n st (option_map at_scope o) x ≡ option_map at_scope (climbs f o)
      outer c at mine again None e = none_out f n
        where
          none_out : (f n : ℕ) → scope_having n st None x ≡ option_map at_scope (climbs f None)
          none_out zero zero = refl
          none_out zero (suc n) = refl
          none_out (suc f) zero = refl
          none_out (suc f) (suc n) = refl
      outer c at mine again (Some j) e =
          let a = around i j c at mine e in
          let d = own_there j a.1 in
          again n j (omega (arith, a.0, lt)) a.1 (omega (arith, count_less (is_own_scope w) s.cells j i d.0 a.0 d.1 d.2, less))

      step : (c : PlainCell) → slice_get s.cells i ≡ Some c → is_own_scope w c ≡ true → (o : Option Value) → value_of c.pairs x ≡ o
          → ((p : Option ℕ) → c.up ≡ p → scope_having n st (option_map at_scope p) x ≡ option_map at_scope (climbs f p))
          → scope_having (suc n) st (Some (at_scope i)) x ≡ option_map at_scope (if is_some (value_of c.pairs x) then Some i else climbs f c.up)
      step c at mine o e out =
          let k = at_scope i in
          ap (λ (d : state.Scope). or_else (option_map (λ v. k) (state.lookup d.pairs x)) (λ _. scope_having n st d.outer x)) (scope_is i c at mine)
          ∙ ap (λ p. or_else (option_map (λ v. k) p) (λ _. scope_having n st (option_map at_scope c.up) x)) (looked w s.cells c.pairs x)
          ∙ last o e
        where
          last : (o : Option Value) → value_of c.pairs x ≡ o → or_else (option_map (λ v. at_scope i) (option_map (seen w s.cells) (value_of c.pairs x))) (λ _. scope_having n st (option_map at_scope c.up) x) ≡ option_map at_scope (if is_some (value_of c.pairs x) then Some i else climbs f c.up)
          last (Some v) e = ap (λ p. or_else (option_map (λ v. at_scope i) (option_map (seen w s.cells) p)) (λ _. scope_having n st (option_map at_scope c.up) x)) e ∙ sym (ap (λ p. option_map at_scope (if is_some p then Some i else climbs f c.up)) e)
          last None e = ap (λ p. or_else (option_map (λ v. at_scope i) (option_map (seen w s.cells) p)) (λ _. scope_having n st (option_map at_scope c.up) x)) e ∙ out c.up refl ∙ sym (ap (λ p. option_map at_scope (if is_some p then Some i else climbs f c.up)) e)

  -- where a look-up ends, there is a scope of the widget that has the name
  pub record EndsAt (h : ℕ) : Type 0 where
    pub own : IsOwnScope w s.cells h
    pub has : (c : PlainCell) → slice_get s.cells h ≡ Some c → is_some (value_of c.pairs x) ≡ true

  abbrev Ends : ℕ → Type 0
  Ends f = (i h : ℕ) → IsOwnScope w s.cells i → climbs f (Some i) ≡ Some h → EndsAt h

  ends : (f : ℕ) → Ends f
  ends zero i h own e = absurd (none_some e)
  ends (suc f) i h own e =
      let c = own_there i own in
      by (λ j k o g. ends f j k o g) c.0 c.1 c.2 (is_some (value_of c.0.pairs x)) refl (sym (ap (λ (o : Option PlainCell). option_map_or (λ d. if has_own x d then Some i else climbs f d.up) o None) c.1) ∙ e)
    where
      up : Ends f → (c : PlainCell) → slice_get s.cells i ≡ Some c → is_own_scope w c ≡ true → (o : Option ℕ) → c.up ≡ o → climbs f o ≡ Some h → EndsAt h
      up again c at mine None u g = absurd (none_some (sym (none_out f) ∙ g))
        where
          none_out : (f : ℕ) → climbs f None ≡ None
          none_out zero = refl
          none_out (suc f) = refl
      up again c at mine (Some j) u g = again j h (around i j c at mine u).1 g

      by : Ends f → (c : PlainCell) → slice_get s.cells i ≡ Some c → is_own_scope w c ≡ true → (b : Bool) → is_some (value_of c.pairs x) ≡ b → (if is_some (value_of c.pairs x) then Some i else climbs f c.up) ≡ Some h → EndsAt h
      by again c at mine true b g =
          let e : i ≡ h = some_same i h (sym (ap (λ t. if t then Some i else climbs f c.up) b) ∙ g) in
          subst EndsAt e (record { own = own; has = λ d a. subst (λ (q : PlainCell). is_some (value_of q.pairs x) ≡ true) (some_same c d (sym at ∙ a)) b })
      by again c at mine false b g = up again c at mine c.up refl (sym (ap (λ t. if t then Some i else climbs f c.up) b) ∙ g)

  pub holds : (i h : ℕ) → IsOwnScope w s.cells i → holder s.cells i x ≡ Some h → EndsAt h
  holds i h own e = ends (length s.cells) i h own e

  -- a number of a scope is below how many there are
  pub number_low : (i : ℕ) → IsOwnScope w s.cells i → at_scope i < length st.own.scopes
  unfolding owned
  number_low i own =
      let c = own_there i own in
      let all : length st.own.scopes ≡ count_before (is_own_scope w) s.cells (length s.cells) = length-map (own_scopes w s.cells s.cells) meant_scope ∙ length-map (filter (is_own_scope w) s.cells) (own_scope w s.cells) ∙ length-filter (is_own_scope w) s.cells ∙ sym (count_before-all (is_own_scope w) s.cells) in
      omega (arith, all, count_less (is_own_scope w) s.cells i (length s.cells) c.0 own.0 c.1 c.2)

  -- the scope that has a name
  pub found_scope : (i : ℕ) → IsOwnScope w s.cells i → scope_having (length st.own.scopes) st (Some (at_scope i)) x ≡ option_map at_scope (holder s.cells i x)
  found_scope i own = having (length s.cells) (length st.own.scopes) i own.0 own (number_low i own)

  pub none_scope : (n : ℕ) → scope_having n st None x ≡ None
  none_scope zero = refl
  none_scope (suc n) = refl

  -- What a look-up of a variable gives.
  pub record IsVariable (i : ℕ) : Type 0 where
    pub same : value_in st (scope_having (length st.own.scopes) st (Some (at_scope i)) x) x ≡ option_map_or (seen w s.cells) (first_own x (chain s.cells i)) (value_in st None x)
    pub fine : IfSome (first_own x (chain s.cells i)) (IsFine w s.cells)

  pub variable_is : (i : ℕ) → IsOwnScope w s.cells i → IsVariable i
  variable_is i own = by (holder s.cells i x) refl
    where
      value_here : (h : ℕ) (c : PlainCell) → holder s.cells i x ≡ Some h → slice_get s.cells h ≡ Some c → first_own x (chain s.cells i) ≡ value_of c.pairs x
      value_here h c e at = sym (along_first s.cells i x) ∙ ap (λ (o : Option ℕ). option_and_then (λ k. option_and_then (λ (d : PlainCell). value_of d.pairs x) (slice_get s.cells k)) o) e ∙ ap (option_and_then (λ (d : PlainCell). value_of d.pairs x)) at

      in_scope : (h : ℕ) (c : PlainCell) → holder s.cells i x ≡ Some h → slice_get s.cells h ≡ Some c → is_own_scope w c ≡ true → (o : Option Value) → value_of c.pairs x ≡ o → is_some (value_of c.pairs x) ≡ true → IfSome (value_of c.pairs x) (IsFine w s.cells) → IsVariable i
      in_scope h c e at mine None is has fine = absurd (false_true (sym (ap is_some is) ∙ has))
      in_scope h c e at mine (Some v) is has fine =
          let a = value_here h c e at in
          record {
            same =
                ap (λ o. value_in st o x) (found_scope i own ∙ ap (option_map at_scope) e)
                ∙ ap (λ (d : state.Scope). unwrap_or (state.lookup d.pairs x) meaning.Undefined) (scope_is h c at mine)
                ∙ ap (λ o. unwrap_or o meaning.Undefined) (looked w s.cells c.pairs x ∙ ap (option_map (seen w s.cells)) is)
                ∙ sym (ap (λ o. option_map_or (seen w s.cells) o (value_in st None x)) (a ∙ is));
            fine = subst (λ (o : Option Value). IfSome o (IsFine w s.cells)) (sym a) fine;
          }

      by : (o : Option ℕ) → holder s.cells i x ≡ o → IsVariable i
      by None e =
          let none : first_own x (chain s.cells i) ≡ None = sym (along_first s.cells i x) ∙ ap (λ (o : Option ℕ). option_and_then (λ k. option_and_then (λ (d : PlainCell). value_of d.pairs x) (slice_get s.cells k)) o) e in
          record {
            same = ap (λ o. value_in st o x) (found_scope i own ∙ ap (option_map at_scope) e) ∙ sym (ap (λ o. option_map_or (seen w s.cells) o (value_in st None x)) none);
            fine = subst (λ (o : Option Value). IfSome o (IsFine w s.cells)) (sym none) tt;
          }
      by (Some h) e =
          let a = holds i h own e in
          let c = own_there h a.own in
          in_scope h c.0 e c.1 c.2 (value_of c.0.pairs x) refl (a.has c.0 c.1) (found_fine w s.cells x c.0.pairs ((confined.each h c.0 c.1).scope c.2).pairs)

-- the globals that every widget has
module _ (w : ℕ) (cells : List PlainCell) (laws : AreLawful cells) (x : List ℕ) where
  apart : (i : ℕ) → is_permitted_cell i ≡ true → nat_eq i 1 ≡ false
  apart i p = grind (arith, nat_tests, (permitted_two i p).0)

  abbrev IsGlobal : Option Value → meaning.Value → Type 0
  IsGlobal o m = (seen w cells (shown_global o) ≡ m) × IsFine w cells (shown_global o)

  one_global : (g : Global) → IsGlobal (Some (global_value g)) (host.global_value g)
  one_global table.Undefined = (refl, tt)
  one_global table.NaN = (refl, tt)
  one_global (Leads e) =
      let a : shown_global (Some (value.Ref (place_of e))) ≡ value.Ref (place_of e) = ap (λ b. if b then value.Undefined else value.Ref (place_of e)) (apart (place_of e) (place_permitted e)) in
      (ap (seen w cells) a ∙ entry_link w cells laws e, subst (IsFine w cells) (sym a) (permitted_held w cells laws (place_of e) (place_permitted e)))

  among : (gs : List (List ℕ × Global)) → IsGlobal (value_of (map (λ p. (p.0, global_value p.1)) gs ++ (codes "document", value.Ref body) ∷ []) x) (unwrap_or (state.lookup (map (λ g. (g.0, host.global_value g.1)) gs) x) meaning.Undefined)
  among [] = by (bytes_eq x (codes "document"))
    where
      by : (b : Bool) → IsGlobal (cond b (Some (value.Ref body)) None) meaning.Undefined
      by true = (refl, tt)
      by false = (refl, tt)
  among (g ∷ gs) = by (bytes_eq x g.0) (among gs)
    where
      by : (b : Bool) → IsGlobal (value_of (map (λ p. (p.0, global_value p.1)) gs ++ (codes "document", value.Ref body) ∷ []) x) (unwrap_or (state.lookup (map (λ g. (g.0, host.global_value g.1)) gs) x) meaning.Undefined)
          → IsGlobal (cond b (Some (global_value g.1)) (value_of (map (λ p. (p.0, global_value p.1)) gs ++ (codes "document", value.Ref body) ∷ []) x)) (unwrap_or (cond b (Some (host.global_value g.1)) (state.lookup (map (λ g. (g.0, host.global_value g.1)) gs) x)) meaning.Undefined)
      by true h = one_global g.1
      by false h = h

  global_read : first_own x (readable cells 0) ≡ value_of global_cell.pairs x
  unfolding host_cells
  global_read =
      let at : slice_get cells 0 ≡ Some global_cell = laws.same 0 (omega arith) in
      ap (λ (o : Option PlainCell). first_own x (option_map_or (chain cells) (option_and_then (λ d. if is_bunch d.form then d.up else Some 0) o) [])) at
      ∙ ap (first_own x) (alone (length cells) at (omega (arith, laws.enough)))
      ∙ first_step x global_cell [] ∙ by (value_of global_cell.pairs x)
    where
      none_up : (f : ℕ) → links (λ (c : PlainCell). c.up) f cells None ≡ []
      none_up zero = refl
      none_up (suc f) = refl

      alone : (f : ℕ) → slice_get cells 0 ≡ Some global_cell → 0 < f → links (λ (c : PlainCell). c.up) f cells (Some 0) ≡ global_cell ∷ []
      alone zero at lt = absurd (omega (arith, lt))
      alone (suc f) at lt = ap (λ (o : Option PlainCell). option_map_or (λ c. c ∷ links (λ (c : PlainCell). c.up) f cells c.up) o []) at ∙ ap (λ l. global_cell ∷ l) (none_up f)

      by : (o : Option Value) → or_else o (λ _. first_own x []) ≡ o
      by None = refl
      by (Some v) = refl

  pub global_is : IsGlobal (first_own x (readable cells 0)) (unwrap_or (state.lookup host.globals x) meaning.Undefined)
  global_is = subst (λ (o : Option Value). IsGlobal o (unwrap_or (state.lookup host.globals x) meaning.Undefined)) (sym global_read) (among table.globals)
