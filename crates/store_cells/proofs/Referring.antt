-- How many elements refer to cells, after each change.
use Rattle.std.proofs.Common.{◌≡◌, ℕ, suc, ◌+◌, ◌<◌, ◌≤◌, List, [], ◌∷◌, length, get_or, refl, sym, ap, ◌∙◌, subst, Option, Some, None, arith, Bool, true, false, eqb, cond, if◌then◌else◌, true≢false, is_some, filter}
use Rattle.std.specs.Prelude.{nat_lt, ◌&&◌, ◌||◌}
use Rattle.std.specs.List.{list_any}
use Rattle.std.specs.Map.{lookup, remove_entry}
use Rattle.std.specs.Option.{option_map_or}
use Rattle.std.proofs.lemmas.Bool.Decides.{nat_tests}
use Rattle.indexmap.specs.IndexMap.{insert_entry}
use Rattle.code_units.specs.Indices.{index_of}
use Rattle.store_cells.specs.declared.value.Value.{Value}
use Rattle.store_cells.specs.Arrays.{end_of, is_reference}
use Rattle.store_cells.specs.Holes.{is_reference_below}
use Rattle.store_cells.specs.Numbered.{element_recounted, is_referring, name_at, recounted, references_in, refers_at}
use Rattle.store_cells.specs.Shape.{AreNoted, Known}
use Rattle.store_cells.proofs.Lists.{none_some}

same_number : (n m : ℕ) → eqb n m ≡ true → n ≡ m
same_number n m e = grind (arith, nat_tests, e)

lt_true : (m n : ℕ) → m < n → nat_lt m n ≡ true
lt_true m n lt = grind (arith, nat_tests, lt)

lt_not : (m n : ℕ) → nat_lt m n ≡ false → n ≤ m
lt_not m n e = grind (arith, nat_tests, e)

abbrev bit : Bool → ℕ
bit b = if b then 1 else 0

-- a pair counts or not
abbrev more : Bool → ℕ → ℕ
more b k = cond b (suc k) k

-- A count is one less where one that counted goes, and then one more where one that counts comes.
abbrev Recounts : Bool → Bool → ℕ → ℕ → Type 0
Recounts had has old new = (bit had ≤ old) × (recounted had has old ≡ new)

module _ (names : List (List ℕ)) where
  abbrev count : List (ℕ × Value) → ℕ
  count es = references_in names es

  counts : (e : ℕ × Value) (es : List (ℕ × Value)) → count (e ∷ es) ≡ more (is_referring names e) (count es)
  counts e es = by (is_referring names e)
    where
      by : (b : Bool) → length (cond b (e ∷ filter (is_referring names) es) (filter (is_referring names) es)) ≡ more b (count es)
      by true = refl
      by false = refl

  -- at the head
  head_recounts : (had has : Bool) (k : ℕ) → Recounts had has (more had k) (more has k)
  head_recounts true true k = (omega arith, omega arith)
  head_recounts true false k = (omega arith, omega arith)
  head_recounts false true k = (omega arith, omega arith)
  head_recounts false false k = (omega arith, omega arith)

  -- and behind it
  rest_recounts : (b had has : Bool) (old new : ℕ) → Recounts had has old new → Recounts had has (more b old) (more b new)
  rest_recounts true true true old new h = (omega (arith, h.0), omega (arith, h.0, h.1))
  rest_recounts true true false old new h = (omega (arith, h.0), omega (arith, h.0, h.1))
  rest_recounts true false true old new h = (omega arith, omega (arith, h.1))
  rest_recounts true false false old new h = (omega arith, omega (arith, h.1))
  rest_recounts false had has old new h = h

  module _ (n : ℕ) where
    -- the pair under an index, and under no index
    abbrev IsIndex : Bool → Type 0
    IsIndex b = is_some (index_of (name_at names n)) ≡ b

    refers_is : (b : Bool) (e : ℕ × Value) → IsIndex b → eqb n e.0 ≡ true → is_referring names e ≡ (b && is_reference e.1)
    refers_is b e index g = ap (λ k. is_some (index_of (name_at names k)) && is_reference e.1) (sym (same_number n e.0 g)) ∙ ap (λ c. c && is_reference e.1) index

    -- a value is written under an index
    index_written : (v : Value) → IsIndex true → (es : List (ℕ × Value)) → Recounts (refers_at n es) (is_reference v) (count es) (count (insert_entry eqb es n v))
    index_written v index [] = subst (λ k. Recounts false (is_reference v) 0 k) (sym (counts (n, v) [] ∙ ap (λ b. more b 0) (ap (λ c. c && is_reference v) index))) (head_recounts false (is_reference v) 0)
    index_written v index (e ∷ es) = by (eqb n e.0) refl (index_written v index es)
      where
        here : eqb n e.0 ≡ true → Recounts (is_reference e.1) (is_reference v) (count (e ∷ es)) (count ((e.0, v) ∷ es))
        here g =
            let old : count (e ∷ es) ≡ more (is_reference e.1) (count es) = counts e es ∙ ap (λ b. more b (count es)) (refers_is true e index g) in
            let new : count ((e.0, v) ∷ es) ≡ more (is_reference v) (count es) = counts (e.0, v) es ∙ ap (λ b. more b (count es)) (refers_is true (e.0, v) index g) in
            subst (λ k. Recounts (is_reference e.1) (is_reference v) k (count ((e.0, v) ∷ es))) (sym old) (subst (λ k. Recounts (is_reference e.1) (is_reference v) (more (is_reference e.1) (count es)) k) (sym new) (head_recounts (is_reference e.1) (is_reference v) (count es)))

        there : Recounts (refers_at n es) (is_reference v) (count es) (count (insert_entry eqb es n v)) → Recounts (refers_at n es) (is_reference v) (count (e ∷ es)) (count (e ∷ insert_entry eqb es n v))
        there rest =
            subst (λ k. Recounts (refers_at n es) (is_reference v) k (count (e ∷ insert_entry eqb es n v))) (sym (counts e es))
            (subst (λ k. Recounts (refers_at n es) (is_reference v) (more (is_referring names e) (count es)) k) (sym (counts e (insert_entry eqb es n v)))
            (rest_recounts (is_referring names e) (refers_at n es) (is_reference v) (count es) (count (insert_entry eqb es n v)) rest))

        by : (b : Bool) → eqb n e.0 ≡ b → Recounts (refers_at n es) (is_reference v) (count es) (count (insert_entry eqb es n v))
            → Recounts (option_map_or is_reference (cond b (Some e.1) (lookup (eqb n) es)) false) (is_reference v) (count (e ∷ es)) (count (if b then (e.0, v) ∷ es else e ∷ insert_entry eqb es n v))
        by true g rest = here g
        by false g rest = there rest

    -- it is taken out
    index_gone : IsIndex true → (es : List (ℕ × Value)) → Recounts (refers_at n es) false (count es) (count (remove_entry (eqb n) es))
    index_gone index [] = (omega arith, refl)
    index_gone index (e ∷ es) = by (eqb n e.0) refl (index_gone index es)
      where
        here : eqb n e.0 ≡ true → Recounts (is_reference e.1) false (count (e ∷ es)) (count es)
        here g =
            let old : count (e ∷ es) ≡ more (is_reference e.1) (count es) = counts e es ∙ ap (λ b. more b (count es)) (refers_is true e index g) in
            subst (λ k. Recounts (is_reference e.1) false k (count es)) (sym old) (head_recounts (is_reference e.1) false (count es))

        there : Recounts (refers_at n es) false (count es) (count (remove_entry (eqb n) es)) → Recounts (refers_at n es) false (count (e ∷ es)) (count (e ∷ remove_entry (eqb n) es))
        there rest =
            subst (λ k. Recounts (refers_at n es) false k (count (e ∷ remove_entry (eqb n) es))) (sym (counts e es))
            (subst (λ k. Recounts (refers_at n es) false (more (is_referring names e) (count es)) k) (sym (counts e (remove_entry (eqb n) es)))
            (rest_recounts (is_referring names e) (refers_at n es) false (count es) (count (remove_entry (eqb n) es)) rest))

        by : (b : Bool) → eqb n e.0 ≡ b → Recounts (refers_at n es) false (count es) (count (remove_entry (eqb n) es))
            → Recounts (option_map_or is_reference (cond b (Some e.1) (lookup (eqb n) es)) false) false (count (e ∷ es)) (count (cond b es (e ∷ remove_entry (eqb n) es)))
        by true g rest = here g
        by false g rest = there rest

    -- a name that is no index counts for nothing
    other_written : (v : Value) → IsIndex false → (es : List (ℕ × Value)) → count es ≡ count (insert_entry eqb es n v)
    other_written v index [] = sym (counts (n, v) [] ∙ ap (λ b. more b 0) (ap (λ c. c && is_reference v) index))
    other_written v index (e ∷ es) = by (eqb n e.0) refl (other_written v index es)
      where
        by : (b : Bool) → eqb n e.0 ≡ b → count es ≡ count (insert_entry eqb es n v) → count (e ∷ es) ≡ count (if b then (e.0, v) ∷ es else e ∷ insert_entry eqb es n v)
        by true g rest = counts e es ∙ ap (λ b. more b (count es)) (refers_is false e index g ∙ sym (refers_is false (e.0, v) index g)) ∙ sym (counts (e.0, v) es)
        by false g rest = counts e es ∙ ap (more (is_referring names e)) rest ∙ sym (counts e (insert_entry eqb es n v))

    other_gone : IsIndex false → (es : List (ℕ × Value)) → count es ≡ count (remove_entry (eqb n) es)
    other_gone index [] = refl
    other_gone index (e ∷ es) = by (eqb n e.0) refl (other_gone index es)
      where
        by : (b : Bool) → eqb n e.0 ≡ b → count es ≡ count (remove_entry (eqb n) es) → count (e ∷ es) ≡ count (cond b es (e ∷ remove_entry (eqb n) es))
        by true g rest = counts e es ∙ ap (λ b. more b (count es)) (refers_is false e index g)
        by false g rest = counts e es ∙ ap (more (is_referring names e)) rest ∙ sym (counts e (remove_entry (eqb n) es))

    -- a name that is an index or none, by what is past it
    pub referring_written : (end : ℕ) (v : Value) (es : List (ℕ × Value)) → end ≡ end_of (name_at names n) → element_recounted end (refers_at n es) (is_reference v) (count es) ≡ count (insert_entry eqb es n v)
    referring_written end v es is = by (index_of (name_at names n)) refl is
      where
        by : (o : Option ℕ) → index_of (name_at names n) ≡ o → end ≡ option_map_or (λ i. i + 1) o 0 → element_recounted end (refers_at n es) (is_reference v) (count es) ≡ count (insert_entry eqb es n v)
        by None g z = ap (λ k. element_recounted k (refers_at n es) (is_reference v) (count es)) z ∙ other_written v (ap is_some g) es
        by (Some i) g z =
            let one : end ≡ suc i = omega (arith, z) in
            ap (λ k. element_recounted k (refers_at n es) (is_reference v) (count es)) one ∙ (index_written v (ap is_some g) es).1

    pub referring_gone : (end : ℕ) (es : List (ℕ × Value)) → end ≡ end_of (name_at names n) → element_recounted end (refers_at n es) false (count es) ≡ count (remove_entry (eqb n) es)
    referring_gone end es is = by (index_of (name_at names n)) refl is
      where
        by : (o : Option ℕ) → index_of (name_at names n) ≡ o → end ≡ option_map_or (λ i. i + 1) o 0 → element_recounted end (refers_at n es) false (count es) ≡ count (remove_entry (eqb n) es)
        by None g z = ap (λ k. element_recounted k (refers_at n es) false (count es)) z ∙ other_gone (ap is_some g) es
        by (Some i) g z =
            let one : end ≡ suc i = omega (arith, z) in
            ap (λ k. element_recounted k (refers_at n es) false (count es)) one ∙ (index_gone (ap is_some g) es).1

    -- one element is taken out
    pub popped_gone : (i : ℕ) → index_of (name_at names n) ≡ Some i → (es : List (ℕ × Value)) → recounted (refers_at n es) false (count es) ≡ count (remove_entry (eqb n) es)
    popped_gone i g es = (index_gone (ap is_some g) es).1

  -- where nothing is counted, no element refers to a cell
  pub none_refers : (n : ℕ) (es : List (ℕ × Value)) → count es ≡ 0 → false ≡ list_any (is_reference_below names n) es
  none_refers n [] h = refl
  none_refers n (e ∷ es) h = by (is_referring names e) refl (sym (counts e es) ∙ h) (none_refers n es)
    where
      less : (o : Option ℕ) (r : Bool) → (is_some o && r) ≡ false → (option_map_or (λ i. nat_lt i n) o false && r) ≡ false
      less None r f = refl
      less (Some i) r f = both (nat_lt i n) r f
        where
          both : (b r : Bool) → r ≡ false → (b && r) ≡ false
          both true r f = f
          both false r f = refl

      by : (b : Bool) → is_referring names e ≡ b → more b (count es) ≡ 0 → (count es ≡ 0 → false ≡ list_any (is_reference_below names n) es) → false ≡ (is_reference_below names n e || list_any (is_reference_below names n) es)
      by true f z rest = absurd (omega (arith, z))
      by false f z rest = rest z ∙ sym (ap (λ b. b || list_any (is_reference_below names n) es) (less (index_of (name_at names e.0)) (is_reference e.1) f))

  -- where all indices are below one, and something is counted, one does
  pub one_refers : (n : ℕ) (f : ℕ → Option ℕ) → ((i : ℕ) → n ≤ i → f i ≡ None) → (es : List (ℕ × Value)) → AreNoted names f es → 0 < count es → true ≡ list_any (is_reference_below names n) es
  one_refers n f none [] noted lt = absurd (omega (arith, lt))
  one_refers n f none (e ∷ es) noted lt = by (is_referring names e) refl (subst (λ k. 0 < k) (counts e es) lt) (one_refers n f none es noted.1)
    where
      below : (i : ℕ) → index_of (name_at names e.0) ≡ Some i → (b : Bool) → nat_lt i n ≡ b → b ≡ true
      below i g true d = refl
      below i g false d = absurd (none_some (sym (none i (lt_not i n d)) ∙ noted.0 i g))

      there : (o : Option ℕ) → index_of (name_at names e.0) ≡ o → (r : Bool) → (is_some o && r) ≡ true → (option_map_or (λ i. nat_lt i n) o false && r) ≡ true
      there None g r h = absurd (true≢false (sym h))
      there (Some i) g r h = ap (λ b. b && r) (below i g (nat_lt i n) refl) ∙ h

      by : (b : Bool) → is_referring names e ≡ b → 0 < more b (count es) → (0 < count es → true ≡ list_any (is_reference_below names n) es) → true ≡ (is_reference_below names n e || list_any (is_reference_below names n) es)
      by true g z rest = sym (ap (λ b. b || list_any (is_reference_below names n) es) (there (index_of (name_at names e.0)) refl (is_reference e.1) g))
      by false g z rest = pick (is_reference_below names n e)
        where
          pick : (b : Bool) → true ≡ (b || list_any (is_reference_below names n) es)
          pick true = refl
          pick false = rest z

-- a table of names that grew
pub references_stay : (old new : List (List ℕ)) → ((k : ℕ) → k < length old → get_or new k [] ≡ get_or old k []) → (es : List (ℕ × Value)) → Known (length old) es → references_in new es ≡ references_in old es
references_stay old new kept [] known = refl
references_stay old new kept (e ∷ es) known =
    counts new e es
    ∙ ap (λ t. more (is_some (index_of t) && is_reference e.1) (references_in new es)) (kept e.0 known.0)
    ∙ ap (more (is_referring old e)) (references_stay old new kept es known.1)
    ∙ sym (counts old e es)
