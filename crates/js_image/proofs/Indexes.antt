-- Which indices below a length are names of a cell, and which of them have an object.
use Rattle.std.proofs.Common.{◌≡◌, ℕ, zero, suc, ◌+◌, ◌-◌, ◌<◌, ◌≤◌, List, [], ◌∷◌, length, map, filter, refl, sym, ap, ◌∙◌, subst, arith, Option, Some, None, is_some, Bool, true, false, if◌then◌else◌, cond, not, lt-ltb, inl, inr, ◌⊎◌, slice_get}
use Rattle.std.specs.Prelude.{IfSome, ◌&&◌, ◌||◌, nat_lt, unwrap_or}
use Rattle.std.specs.Fmt.{decimal}
use Rattle.std.specs.List.{AllByRecursion, IsDistinct, list_any, range_with_len}
use Rattle.std.specs.Option.{option_and_then, option_map_or}
use Rattle.std.specs.Str.{bytes_eq}
use Rattle.std.proofs.lemmas.Bool.{cases_lt}
use Rattle.std.proofs.lemmas.Slice.Eq.{bytes_eq-Decides}
use Rattle.code_units.specs.Indices.{index_of}
use Rattle.code_units.proofs.Indexed.{index_known, index_only}
use Rattle.js_tree.specs.Forest.{Forest}
use Rattle.store_cells.specs.declared.value.Value.{Value}
use Rattle.store_cells.specs.declared.value.Value.TheVariants as value
use Rattle.store_cells.specs.declared.value.Number.TheVariants as number
use Rattle.store_cells.specs.declared.kind.Form.{Form}
use Rattle.store_cells.specs.declared.kind.Form.TheVariants as form
use Rattle.store_cells.specs.Arrays.{is_index_below, is_reference, length_name}
use Rattle.store_cells.specs.Cells.{Cells, PlainCell, is_array, is_bunch, is_visible_form, own_count, value_of}
use Rattle.object_store.specs.Elements as stored
use Rattle.object_store.specs.Owned as store
use Rattle.object_store.specs.Owned.{but_length, own_kind, own_pairs, visible_at}
use Rattle.widget_meaning.specs.Values as meaning
use Rattle.widget_meaning.specs.Values.{is_object}
use Rattle.widget_meaning.specs.OwnState as state
use Rattle.widget_meaning.specs.OwnState.{Cell, State, cell_at, kind_of}
use Rattle.widget_meaning.specs.NativeForms as natives
use Rattle.widget_meaning.specs.ListChanges.{new_indexes}
use Rattle.js_image.specs.Image.{Rest, image, meant, meant_kind, meant_pairs, seen}
use Rattle.js_image.specs.Held.{IsFine}
use Rattle.js_image.specs.Laws.{AreLawful}
use Rattle.js_image.specs.Elements.{DifferAt, is_stored, own_place, stored_count, stored_element, stored_references}
use Rattle.js_image.proofs.Arrays.{elements_are, length_is}
use Rattle.js_image.proofs.Chains.{visible_form}
use Rattle.js_image.proofs.Hosts.{get_there, host_link}
use Rattle.js_image.proofs.Puts.{cell_there, permitted_else, shows}
use Rattle.std.proofs.lemmas.Bool.Decides.{nat_tests}

abbrev pub Pairs : Type 0
Pairs = List (List ℕ × Value)

false_true : false ≡ true → ⊥
false_true h = cc

none_some : {A : Type 0} {a : A} → None ≡ Some a → ⊥
none_some h = cc

some_same : {A : Type 0} (a b : A) → Some a ≡ Some b → a ≡ b
some_same a b e = cc

not_below : (i n : ℕ) → n ≤ i → nat_lt i n ≡ false
not_below i n h = grind (arith, nat_tests, h)

-- one place of a range is otherwise
module _ (f g : ℕ → Bool) (i bound : ℕ) (apart : (k : ℕ) → k < bound → (k ≡ i → ⊥) → g k ≡ f k) where
  not_at : (a n : ℕ) → (i < a) ⊎ (a + suc n ≤ i) → a ≡ i → ⊥
  not_at a n (inl l) e = omega (arith, e, l)
  not_at a n (inr l) e = omega (arith, e, l)

  still : (a n : ℕ) → (i < a) ⊎ (a + suc n ≤ i) → (i < a + 1) ⊎ ((a + 1) + n ≤ i)
  still a n (inl l) = inl (omega (arith, l))
  still a n (inr l) = inr (omega (arith, l))

  any_outside : (a n : ℕ) → a + n ≤ bound → (i < a) ⊎ (a + n ≤ i) → list_any g (range_with_len a n) ≡ list_any f (range_with_len a n)
  any_outside a zero le out = refl
  any_outside a (suc n) le out = λ j. apart a (omega (arith, le)) (not_at a n out) j || any_outside (a + 1) n (omega (arith, le)) (still a n out) j

  swap : (x y z : Bool) → (x || (y || z)) ≡ (y || (x || z))
  swap true true z = refl
  swap true false z = refl
  swap false y z = refl

  any_inside : f i ≡ false → (a n : ℕ) → a + n ≤ bound → a ≤ i → i < a + n → list_any g (range_with_len a n) ≡ (g i || list_any f (range_with_len a n))
  any_inside else_none a zero le from lt = absurd (omega (arith, from, lt))
  any_inside else_none a (suc n) le from lt = by (any_inside else_none (a + 1) n) (cases_lt a i)
    where
      by : ((a + 1) + n ≤ bound → a + 1 ≤ i → i < (a + 1) + n → list_any g (range_with_len (a + 1) n) ≡ (g i || list_any f (range_with_len (a + 1) n))) → (a < i) ⊎ (i ≤ a) → (g a || list_any g (range_with_len (a + 1) n)) ≡ (g i || (f a || list_any f (range_with_len (a + 1) n)))
      by further (inl l) = (λ j. apart a (omega (arith, le)) (λ e. omega (arith, e, l)) j || further (omega (arith, le)) (omega (arith, l)) (omega (arith, lt)) j) ∙ swap (f a) (g i) (list_any f (range_with_len (a + 1) n))
      by further (inr l) =
          let e : a ≡ i = omega (arith, l, from) in
          (λ j. g (e j) || any_outside (a + 1) n (omega (arith, le)) (inl (omega (arith, l, from))) j) ∙ ap (λ b. g i || (b || list_any f (range_with_len (a + 1) n))) (sym (ap f e ∙ else_none))

  same_outside : (a n : ℕ) → a + n ≤ bound → (i < a) ⊎ (a + n ≤ i) → filter g (range_with_len a n) ≡ filter f (range_with_len a n)
  same_outside a zero le out = refl
  same_outside a (suc n) le out = λ j. cond (apart a (omega (arith, le)) (not_at a n out) j) (a ∷ same_outside (a + 1) n (omega (arith, le)) (still a n out) j) (same_outside (a + 1) n (omega (arith, le)) (still a n out) j)

  one_inside : f i ≡ false → g i ≡ true → (a n : ℕ) → a + n ≤ bound → a ≤ i → i < a + n → length (filter g (range_with_len a n)) ≡ suc (length (filter f (range_with_len a n)))
  one_inside else_none here a zero le from lt = absurd (omega (arith, from, lt))
  one_inside else_none here a (suc n) le from lt = by (one_inside else_none here (a + 1) n) (cases_lt a i)
    where
      kept : (xs ys : List ℕ) (b : Bool) → length xs ≡ suc (length ys) → length (cond b (a ∷ xs) xs) ≡ suc (length (cond b (a ∷ ys) ys))
      kept xs ys true h = ap suc h
      kept xs ys false h = h

      by : ((a + 1) + n ≤ bound → a + 1 ≤ i → i < (a + 1) + n → length (filter g (range_with_len (a + 1) n)) ≡ suc (length (filter f (range_with_len (a + 1) n)))) → (a < i) ⊎ (i ≤ a)
          → length (cond (g a) (a ∷ filter g (range_with_len (a + 1) n)) (filter g (range_with_len (a + 1) n))) ≡ suc (length (cond (f a) (a ∷ filter f (range_with_len (a + 1) n)) (filter f (range_with_len (a + 1) n))))
      by further (inl l) =
          ap (λ b. length (cond b (a ∷ filter g (range_with_len (a + 1) n)) (filter g (range_with_len (a + 1) n)))) (apart a (omega (arith, le)) (λ e. omega (arith, e, l)))
          ∙ kept (filter g (range_with_len (a + 1) n)) (filter f (range_with_len (a + 1) n)) (f a) (further (omega (arith, le)) (omega (arith, l)) (omega (arith, lt)))
      by further (inr l) =
          let e : a ≡ i = omega (arith, l, from) in
          ap (λ b. length (cond b (a ∷ filter g (range_with_len (a + 1) n)) (filter g (range_with_len (a + 1) n)))) (ap g e ∙ here)
          ∙ ap (λ (xs : List ℕ). suc (length xs)) (same_outside (a + 1) n (omega (arith, le)) (inl (omega (arith, l, from))))
          ∙ ap (λ b. suc (length (cond b (a ∷ filter f (range_with_len (a + 1) n)) (filter f (range_with_len (a + 1) n))))) (sym (ap f e ∙ else_none))

none_any : (a n : ℕ) → list_any (λ k. false) (range_with_len a n) ≡ false
none_any a zero = refl
none_any a (suc n) = none_any (a + 1) n

none_kept : (a n : ℕ) → length (filter (λ k. false) (range_with_len a n)) ≡ 0
none_kept a zero = refl
none_kept a (suc n) = none_kept (a + 1) n

-- one more number of a range
pub one_more : (f : ℕ → Bool) (a n k : ℕ) → k ≡ a + n → length (filter f (range_with_len a (n + 1))) ≡ length (filter f (range_with_len a n)) + (if f k then 1 else 0)
one_more f a zero k e = by (f a) ∙ ap (λ x. 0 + (if f x then 1 else 0)) same
  where
    same : a ≡ k
    same = omega (arith, e)

    by : (b : Bool) → length (cond b (a ∷ []) []) ≡ 0 + (if b then 1 else 0)
    by true = refl
    by false = refl
one_more f a (suc n) k e =
    let more : suc n + 1 ≡ suc (n + 1) = omega arith in
    ap (λ m. length (filter f (range_with_len a m))) more ∙ by (f a) (one_more f (a + 1) n k (omega (arith, e)))
  where
    by : (b : Bool) → length (filter f (range_with_len (a + 1) (n + 1))) ≡ length (filter f (range_with_len (a + 1) n)) + (if f k then 1 else 0)
        → length (cond b (a ∷ filter f (range_with_len (a + 1) (n + 1))) (filter f (range_with_len (a + 1) (n + 1)))) ≡ length (cond b (a ∷ filter f (range_with_len (a + 1) n)) (filter f (range_with_len (a + 1) n))) + (if f k then 1 else 0)
    by true h = omega (arith, h)
    by false h = h

-- whether the element at an index is an object
abbrev pub ref_at : Pairs → ℕ → Bool
ref_at ps k = option_map_or is_reference (value_of ps (decimal k)) false

-- whether an index is a name
abbrev pub named_at : Pairs → ℕ → Bool
named_at ps k = is_some (value_of ps (decimal k))

absent : (x : List ℕ) (ps : Pairs) → AllByRecursion (λ y. bytes_eq x y ≡ false) (map (λ p. p.0) ps) → value_of ps x ≡ None
absent x [] h = refl
absent x (p ∷ ps) h = ap (λ b. if b then Some p.1 else value_of ps x) h.0 ∙ absent x ps h.1

module _ (x : List ℕ) (v : Value) (ps : Pairs) where
  -- one more name
  first_at : (k : ℕ) (b : Bool) → bytes_eq (decimal k) x ≡ b → ref_at ((x, v) ∷ ps) k ≡ (if b then is_reference v else ref_at ps k)
  first_at k true e = ap (λ c. option_map_or is_reference (if c then Some v else value_of ps (decimal k)) false) e
  first_at k false e = ap (λ c. option_map_or is_reference (if c then Some v else value_of ps (decimal k)) false) e

  others : (i : ℕ) → ((k : ℕ) → index_of x ≡ Some k → k ≡ i) → (k : ℕ) → k < 4294967295 → (k ≡ i → ⊥) → ref_at ((x, v) ∷ ps) k ≡ ref_at ps k
  others i only k lt differs = by (bytes_eq (decimal k) x) refl
    where
      by : (b : Bool) → bytes_eq (decimal k) x ≡ b → ref_at ((x, v) ∷ ps) k ≡ ref_at ps k
      by true e = absurd (differs (only k (index_only x k lt ((bytes_eq-Decides (decimal k) x).0 e))))
      by false e = first_at k false e

  others_named : (i : ℕ) → ((k : ℕ) → index_of x ≡ Some k → k ≡ i) → (k : ℕ) → k < 4294967295 → (k ≡ i → ⊥) → named_at ((x, v) ∷ ps) k ≡ named_at ps k
  others_named i only k lt differs = by (bytes_eq (decimal k) x) refl
    where
      by : (b : Bool) → bytes_eq (decimal k) x ≡ b → named_at ((x, v) ∷ ps) k ≡ named_at ps k
      by true e = absurd (differs (only k (index_only x k lt ((bytes_eq-Decides (decimal k) x).0 e))))
      by false e = ap (λ c. is_some (if c then Some v else value_of ps (decimal k))) e

-- whether one of the pairs is an object under an index below a length
abbrev objects_in : ℕ → Pairs → Bool
objects_in len ps = list_any (λ p. is_index_below len p.0 && is_reference p.1) ps

abbrev Goal_of : ℕ → List ℕ → Value → Pairs → Option ℕ → Type 0
Goal_of len x v ps o = list_any (ref_at ((x, v) ∷ ps)) (range_with_len 0 len) ≡ ((option_map_or (λ i. nat_lt i len) o false && is_reference v) || objects_in len ps)

-- an element below a length is an object as one of the pairs is an object under an index below it
pub objects_below : (len : ℕ) → len ≤ 4294967295 → (ps : Pairs) → IsDistinct bytes_eq (map (λ p. p.0) ps) → list_any (ref_at ps) (range_with_len 0 len) ≡ list_any (λ p. is_index_below len p.0 && is_reference p.1) ps
unfolding IsDistinct
objects_below len few [] h = none_any 0 len
objects_below len few ((x, v) ∷ ps) h = by (objects_below len few ps h.1) (index_of x) refl
  where
    by : list_any (ref_at ps) (range_with_len 0 len) ≡ objects_in len ps → (o : Option ℕ) → index_of x ≡ o → Goal_of len x v ps (index_of x)
    by behind None e = subst (Goal_of len x v ps) (sym e) (any_outside (ref_at ps) (ref_at ((x, v) ∷ ps)) 4294967295 4294967295 (others x v ps 4294967295 (λ k is. absurd (none_some (sym e ∙ is)))) 0 len (omega (arith, few)) (inr (omega (arith, few))) ∙ behind)
    by behind (Some i) e = subst (Goal_of len x v ps) (sym e) (within (cases_lt i len))
      where
        only : (k : ℕ) → index_of x ≡ Some k → k ≡ i
        only k is = some_same k i (sym is ∙ e)

        is : decimal i ≡ x
        is = (index_known x i e).0

        none : ref_at ps i ≡ false
        none = ap (λ y. option_map_or is_reference (value_of ps y) false) is ∙ ap (λ o. option_map_or is_reference o false) (absent x ps h.0)

        within : (i < len) ⊎ (len ≤ i) → Goal_of len x v ps (Some i)
        within (inl l) =
            any_inside (ref_at ps) (ref_at ((x, v) ∷ ps)) i 4294967295 (others x v ps i only) none 0 len (omega (arith, few)) (omega arith) (omega (arith, l))
            ∙ (λ j. first_at x v ps i true ((bytes_eq-Decides (decimal i) x).1 is) j || behind j)
            ∙ ap (λ b. (b && is_reference v) || objects_in len ps) (sym (lt-ltb i len l))
        within (inr l) =
            any_outside (ref_at ps) (ref_at ((x, v) ∷ ps)) i 4294967295 (others x v ps i only) 0 len (omega (arith, few)) (inr (omega (arith, l))) ∙ behind
            ∙ ap (λ b. (b && is_reference v) || objects_in len ps) (sym (not_below i len l))

-- as many indices below a length are names as there are names that are indices below it
pub names_below : (len : ℕ) → len ≤ 4294967295 → (ps : Pairs) → IsDistinct bytes_eq (map (λ p. p.0) ps) → length (filter (named_at ps) (range_with_len 0 len)) ≡ length (filter (λ p. is_index_below len p.0) ps)
unfolding IsDistinct
names_below len few [] h = none_kept 0 len
names_below len few ((x, v) ∷ ps) h = by (names_below len few ps h.1) (index_of x) refl
  where
    by : length (filter (named_at ps) (range_with_len 0 len)) ≡ length (filter (λ p. is_index_below len p.0) ps) → (o : Option ℕ) → index_of x ≡ o
        → length (filter (named_at ((x, v) ∷ ps)) (range_with_len 0 len)) ≡ length (cond (option_map_or (λ i. nat_lt i len) (index_of x) false) ((x, v) ∷ filter (λ p. is_index_below len p.0) ps) (filter (λ p. is_index_below len p.0) ps))
    by behind None e =
        ap length (same_outside (named_at ps) (named_at ((x, v) ∷ ps)) 4294967295 4294967295 (others_named x v ps 4294967295 (λ k is. absurd (none_some (sym e ∙ is)))) 0 len (omega (arith, few)) (inr (omega (arith, few))))
        ∙ behind
        ∙ ap (λ o. length (cond (option_map_or (λ i. nat_lt i len) o false) ((x, v) ∷ filter (λ p. is_index_below len p.0) ps) (filter (λ p. is_index_below len p.0) ps))) (sym e)
    by behind (Some i) e = within (cases_lt i len) ∙ ap (λ o. length (cond (option_map_or (λ i. nat_lt i len) o false) ((x, v) ∷ filter (λ p. is_index_below len p.0) ps) (filter (λ p. is_index_below len p.0) ps))) (sym e)
      where
        only : (k : ℕ) → index_of x ≡ Some k → k ≡ i
        only k is = some_same k i (sym is ∙ e)

        is : decimal i ≡ x
        is = (index_known x i e).0

        none : named_at ps i ≡ false
        none = ap (λ y. is_some (value_of ps y)) is ∙ ap is_some (absent x ps h.0)

        here : named_at ((x, v) ∷ ps) i ≡ true
        here = ap (λ c. is_some (if c then Some v else value_of ps (decimal i))) ((bytes_eq-Decides (decimal i) x).1 is)

        within : (i < len) ⊎ (len ≤ i) → length (filter (named_at ((x, v) ∷ ps)) (range_with_len 0 len)) ≡ length (cond (nat_lt i len) ((x, v) ∷ filter (λ p. is_index_below len p.0) ps) (filter (λ p. is_index_below len p.0) ps))
        within (inl l) =
            one_inside (named_at ps) (named_at ((x, v) ∷ ps)) i 4294967295 (others_named x v ps i only) none here 0 len (omega (arith, few)) (omega arith) (omega (arith, l))
            ∙ ap suc behind
            ∙ ap (λ b. length (cond b ((x, v) ∷ filter (λ p. is_index_below len p.0) ps) (filter (λ p. is_index_below len p.0) ps))) (sym (lt-ltb i len l))
        within (inr l) =
            ap length (same_outside (named_at ps) (named_at ((x, v) ∷ ps)) i 4294967295 (others_named x v ps i only) 0 len (omega (arith, few)) (inr (omega (arith, l))))
            ∙ behind
            ∙ ap (λ b. length (cond b ((x, v) ∷ filter (λ p. is_index_below len p.0) ps) (filter (λ p. is_index_below len p.0) ps))) (sym (not_below i len l))

-- how many names are indices below a length: `length` is none, and values do not matter
module _ (len : ℕ) where
  abbrev pub is_low : {V : Type 0} → List ℕ × V → Bool
  is_low p = is_index_below len p.0

  pub low_mapped : {V W : Type 0} (f : V → W) (ps : List (List ℕ × V)) → length (filter is_low (map (λ p. (p.0, f p.1)) ps)) ≡ length (filter is_low ps)
  low_mapped f [] = refl
  low_mapped f (p ∷ ps) = by (low_mapped f ps) (is_index_below len p.0)
    where
      by : length (filter is_low (map (λ p. (p.0, f p.1)) ps)) ≡ length (filter is_low ps) → (b : Bool) → length (cond b ((p.0, f p.1) ∷ filter is_low (map (λ p. (p.0, f p.1)) ps)) (filter is_low (map (λ p. (p.0, f p.1)) ps))) ≡ length (cond b (p ∷ filter is_low ps) (filter is_low ps))
      by more true = ap suc more
      by more false = more

  pub low_apart : (name : List ℕ) → index_of name ≡ None → (ps : Pairs) → length (filter is_low (filter (λ p. not (bytes_eq p.0 name)) ps)) ≡ length (filter is_low ps)
  low_apart name unnumbered [] = refl
  low_apart name unnumbered (p ∷ ps) = by (low_apart name unnumbered ps) (bytes_eq p.0 name) refl
    where
      kept : length (filter is_low (filter (λ p. not (bytes_eq p.0 name)) ps)) ≡ length (filter is_low ps) → (b : Bool) → length (cond b (p ∷ filter is_low (filter (λ p. not (bytes_eq p.0 name)) ps)) (filter is_low (filter (λ p. not (bytes_eq p.0 name)) ps))) ≡ length (cond b (p ∷ filter is_low ps) (filter is_low ps))
      kept same true = ap suc same
      kept same false = same

      by : length (filter is_low (filter (λ p. not (bytes_eq p.0 name)) ps)) ≡ length (filter is_low ps) → (b : Bool) → bytes_eq p.0 name ≡ b → length (filter is_low (cond (not (bytes_eq p.0 name)) (p ∷ (filter (λ p. not (bytes_eq p.0 name)) ps)) (filter (λ p. not (bytes_eq p.0 name)) ps))) ≡ length (cond (is_low p) (p ∷ filter is_low ps) (filter is_low ps))
      by same false e = ap (λ b. length (filter is_low (cond (not b) (p ∷ (filter (λ p. not (bytes_eq p.0 name)) ps)) (filter (λ p. not (bytes_eq p.0 name)) ps)))) e ∙ kept same (is_low p)
      by same true e =
          ap (λ b. length (filter is_low (cond (not b) (p ∷ (filter (λ p. not (bytes_eq p.0 name)) ps)) (filter (λ p. not (bytes_eq p.0 name)) ps)))) e
          ∙ same
          ∙ ap (λ b. length (cond b (p ∷ filter is_low ps) (filter is_low ps))) (sym (ap (λ y. option_map_or (λ i. nat_lt i len) (index_of y) false) ((bytes_eq-Decides p.0 name).0 e) ∙ ap (λ o. option_map_or (λ i. nat_lt i len) o false) unnumbered))

-- what a widget sees of a reference is an object
seen_object : (w : ℕ) (cells : List PlainCell) (u : Value) → is_object (seen w cells u) ≡ is_reference u
seen_object w cells value.Undefined = refl
seen_object w cells value.Null = refl
seen_object w cells (value.Bool b) = refl
seen_object w cells (value.Num number.NaN) = refl
seen_object w cells (value.Num (number.Whole z)) = refl
seen_object w cells (value.Text t) = refl
seen_object w cells (value.Ref i) = by (visible_at w cells i)
  where
    by : (b : Bool) → is_object (meant (if b then store.Own (own_count w cells i) else store.Other i)) ≡ true
    by true = refl
    by false = refl

reference_or : (o : Option Value) → is_reference (unwrap_or o value.Undefined) ≡ option_map_or is_reference o false
reference_or None = refl
reference_or (Some v) = refl

any_map : {A B : Type 0} (p : B → Bool) (f : A → B) (xs : List A) → list_any p (map f xs) ≡ list_any (λ x. p (f x)) xs
any_map p f [] = refl
any_map p f (x ∷ xs) = ap (λ b. p (f x) || b) (any_map p f xs)

any_same : (p q : ℕ → Bool) → ((k : ℕ) → p k ≡ q k) → (xs : List ℕ) → list_any p xs ≡ list_any q xs
any_same p q h [] = refl
any_same p q h (x ∷ xs) = λ j. h x j || any_same p q h xs j

no_length : index_of length_name ≡ None
no_length = refl

array_form : (a k : ℕ) (b : Bool) → (if b then Some a else None) ≡ Some k → b ≡ true
array_form a k true e = refl
array_form a k false e = absurd (none_some e)

kept_same : (p q : ℕ → Bool) → ((k : ℕ) → p k ≡ q k) → (xs : List ℕ) → filter p xs ≡ filter q xs
kept_same p q h [] = refl
kept_same p q h (x ∷ xs) = λ j. cond (h x j) (x ∷ kept_same p q h xs j) (kept_same p q h xs j)

module _ (fs : List Forest) (r : Rest) (w : ℕ) (s : Cells) (laws : AreLawful s.cells) where
  abbrev st : State
  st = image fs r w s

  -- whether an element of an Array is an object
  pub objects_are : (len m : ℕ) → len ≤ 4294967295 → (v : Value) → IsFine w s.cells v → state.array_length (kind_of st (seen w s.cells v)) ≡ Some m → DifferAt s.cells v
      → stored_references s.cells v len ≡ list_any is_object (natives.elements st (own_place w s.cells v) len)
  objects_are len m few (value.Ref i) h e differ =
      let c = get_there s.cells i h.0 in
      let array : is_array c.0.form ≡ true = array_form _ m (is_array c.0.form) (sym (ap (option_and_then stored.array_length) c.1) ∙ length_is fs r w s laws (value.Ref i) h ∙ e) in
      let distinct : IsDistinct bytes_eq (map (λ p. p.0) c.0.pairs) = subst (λ (o : Option PlainCell). IfSome o (λ d. IsDistinct bytes_eq (map (λ p. p.0) d.pairs))) c.1 differ in
      let at : (k : ℕ) → ref_at c.0.pairs k ≡ is_object (seen w s.cells (stored_element s.cells (value.Ref i) k)) =
      λ k. sym (
      seen_object w s.cells (stored_element s.cells (value.Ref i) k)
      ∙ ap (λ (o : Option PlainCell). is_reference (unwrap_or (option_and_then (stored.element k) o) value.Undefined)) c.1
      ∙ ap (λ b. is_reference (unwrap_or (if b then value_of c.0.pairs (decimal k) else None) value.Undefined)) array
      ∙ reference_or (value_of c.0.pairs (decimal k))) in
      let le : 0 + len ≤ 4294967295 = omega (arith, few) in
      ap (λ (o : Option PlainCell). option_map_or (λ d. objects_in len d.pairs) o false) c.1
      ∙ sym (objects_below len few c.0.pairs distinct)
      ∙ any_same (ref_at c.0.pairs) (λ k. is_object (seen w s.cells (stored_element s.cells (value.Ref i) k))) at (range_with_len 0 len)
      ∙ sym (any_map (λ u. is_object (seen w s.cells u)) (stored_element s.cells (value.Ref i)) (range_with_len 0 len))
      ∙ sym (any_map is_object (seen w s.cells) (map (stored_element s.cells (value.Ref i)) (range_with_len 0 len)))
      ∙ ap (list_any is_object) (elements_are fs r w s laws 0 len m le (value.Ref i) h e)
  objects_are len m few value.Undefined h e differ = absurd (none_some e)
  objects_are len m few value.Null h e differ = absurd (none_some e)
  objects_are len m few (value.Bool b) h e differ = absurd (none_some e)
  objects_are len m few (value.Num number.NaN) h e differ = absurd (none_some e)
  objects_are len m few (value.Num (number.Whole z)) h e differ = absurd (none_some e)
  objects_are len m few (value.Text t) h e differ = absurd (none_some e)

  -- how many indices below a length are names of an Array
  form_count : (len m : ℕ) (c : PlainCell) (f : Form) → is_visible_form f ≡ true → state.array_length (Some (meant_kind fs r.nodes (own_kind w s.cells c f))) ≡ Some m
      → length (filter (is_low len) c.pairs) ≡ length (filter (is_low len) (meant_pairs (own_pairs w s.cells (if is_bunch f then [] else (if is_array f then but_length c.pairs else c.pairs)))))
  form_count len m c form.Array v e = sym (low_mapped len meant (own_pairs w s.cells (but_length c.pairs)) ∙ low_mapped len (store.own_value w s.cells) (but_length c.pairs) ∙ low_apart len length_name no_length c.pairs)
  form_count len m c form.Object v e = absurd (none_some e)
  form_count len m c (form.Function p) v e = absurd (none_some e)
  form_count len m c form.Bunch v e = absurd (none_some e)
  form_count len m c (form.Native n) v e = absurd (none_some e)
  form_count len m c form.Scope v e = absurd (none_some e)
  form_count len m c (form.RawNode n) v e = absurd (none_some e)
  form_count len m c form.Global v e = absurd (none_some e)

  -- the indices that an Array has are names
  stored_names : (len m i : ℕ) → len ≤ 4294967295 → IsFine w s.cells (value.Ref i) → state.array_length (kind_of st (seen w s.cells (value.Ref i))) ≡ Some m → DifferAt s.cells (value.Ref i)
      → (c : PlainCell) → slice_get s.cells i ≡ Some c → stored_count s.cells (value.Ref i) len ≡ length (filter (is_low len) c.pairs)
  stored_names len m i few h e differ c is =
      let array : is_array c.form ≡ true = array_form _ m (is_array c.form) (sym (ap (option_and_then stored.array_length) is) ∙ length_is fs r w s laws (value.Ref i) h ∙ e) in
      let distinct : IsDistinct bytes_eq (map (λ p. p.0) c.pairs) = subst (λ (o : Option PlainCell). IfSome o (λ d. IsDistinct bytes_eq (map (λ p. p.0) d.pairs))) is differ in
      ap length (kept_same (is_stored s.cells i) (named_at c.pairs) (λ k. ap (λ (o : Option PlainCell). is_some (option_and_then (stored.element k) o)) is ∙ ap (λ b. is_some (if b then value_of c.pairs (decimal k) else None)) array) (range_with_len 0 len))
      ∙ names_below len few c.pairs distinct

  pub counts_are : (len m : ℕ) → len ≤ 4294967295 → (v : Value) → IsFine w s.cells v → state.array_length (kind_of st (seen w s.cells v)) ≡ Some m → DifferAt s.cells v → len - stored_count s.cells v len ≡ new_indexes (cell_at st (own_place w s.cells v)) len
  counts_are len m few (value.Ref i) h e differ = by (get_there s.cells i h.0) (visible_at w s.cells i) refl
    where
      by : (there : (c : PlainCell) × (slice_get s.cells i ≡ Some c)) (b : Bool) → visible_at w s.cells i ≡ b → len - stored_count s.cells (value.Ref i) len ≡ new_indexes (cell_at st (own_count w s.cells i)) len
      by there true visible =
          let c = there.0 in
          let mine = shows w s.cells i c there.1 ∙ visible in
          let cell = cell_there fs r w s i c there.1 mine in
          let link : seen w s.cells (value.Ref i) ≡ meaning.Own (own_count w s.cells i) = ap (λ b. meant (if b then store.Own (own_count w s.cells i) else store.Other i)) visible in
          let kind : state.array_length (Some (meant_kind fs r.nodes (own_kind w s.cells c c.form))) ≡ Some m =
          sym (ap (λ (d : Cell). state.array_length (Some d.kind)) cell) ∙ sym (ap (λ u. state.array_length (kind_of st u)) link) ∙ e in
          ap (λ n. len - n) (stored_names len m i few h e differ c there.1)
          ∙ ap (λ n. len - n) (form_count len m c c.form (visible_form w c mine) kind)
          ∙ sym (ap (λ (d : Cell). new_indexes d len) cell)
      by there false hidden = absurd (none_some (sym (ap (λ u. state.array_length (kind_of st u)) (host_link w s.cells laws i (permitted_else w s.cells i h hidden))) ∙ e))
  counts_are len m few value.Undefined h e differ = absurd (none_some e)
  counts_are len m few value.Null h e differ = absurd (none_some e)
  counts_are len m few (value.Bool b) h e differ = absurd (none_some e)
  counts_are len m few (value.Num number.NaN) h e differ = absurd (none_some e)
  counts_are len m few (value.Num (number.Whole z)) h e differ = absurd (none_some e)
  counts_are len m few (value.Text t) h e differ = absurd (none_some e)
