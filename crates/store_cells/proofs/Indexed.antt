-- The elements of an Array by their indices.
use Rattle.std.proofs.Common.{◌≡◌, ℕ, zero, suc, ◌+◌, ◌<◌, ◌≤◌, List, [], ◌∷◌, ◌++◌, length, get_or, refl, sym, ap, ◌∙◌, subst, Option, Some, None, arith, Bool, true, false, eqb, cond, if◌then◌else◌, true≢false, slice_get, filter}
use Rattle.std.specs.Prelude.{nat_lt}
use Rattle.std.specs.BTreeMap.{insert_entry as tree_insert, is_at}
use Rattle.std.specs.Cmp.{ranks, unsigned_tied}
use Rattle.std.specs.declared.cmp.Ordering.{Ordering}
use Rattle.std.specs.declared.cmp.Ordering.TheVariants.{Less, Equal, Greater}
use Rattle.std.specs.Fmt.{decimal}
use Rattle.std.specs.List.{AllByRecursion, IsDistinct}
use Rattle.std.specs.Map.{keys_of, lookup, remove_entry}
use Rattle.std.specs.Option.{option_and_then, option_map_or}
use Rattle.std.specs.Ordering.{MatchOrdering, match_ordering, nat_cmp}
use Rattle.std.specs.Str.{bytes_eq}
use Rattle.std.proofs.lemmas.Bool.Decides.{nat_tests}
use Rattle.std.proofs.lemmas.Map.Keys.{IsDistinct-head, IsDistinct-tail}
use Rattle.std.proofs.lemmas.Option.{slice_get-get_or}
use Rattle.std.proofs.lemmas.Slice.Eq.{bytes_eq-Decides}
use Rattle.indexmap.specs.IndexMap.{insert_entry}
use Rattle.code_units.specs.Indices.{index_of}
use Rattle.code_units.proofs.Indexed.{index_known, index_only}
use Rattle.keyed_names.specs.Interned.{IsTable}
use Rattle.keyed_names.proofs.Interning.{same_test}
use Rattle.store_cells.specs.declared.value.Value.{Value}
use Rattle.store_cells.specs.Arrays.{end_of, is_below}
use Rattle.store_cells.specs.Numbered.{NumberedCell, found_in, name_at, named, noted, noted_below, numbered_element}
use Rattle.store_cells.specs.Holes.{IsPoppedPast}
use Rattle.store_cells.specs.Shape.{AreNoted, IsIndexed, Known}
use Rattle.store_cells.proofs.Lists.{none_some, some_same}
use Rattle.store_cells.proofs.Look.{look}

false_true : false ≡ true → ⊥
false_true h = cc

same_number : (n m : ℕ) → eqb n m ≡ true → n ≡ m
same_number n m e = grind (arith, nat_tests, e)

eqb_self : (n : ℕ) → eqb n n ≡ true
eqb_self n = grind (arith, nat_tests)

lt_false : (m n : ℕ) → n ≤ m → nat_lt m n ≡ false
lt_false m n le = grind (arith, nat_tests, le)

lt_is : (m n : ℕ) → nat_lt m n ≡ true → m < n
lt_is m n e = grind (arith, nat_tests, e)

lt_not : (m n : ℕ) → nat_lt m n ≡ false → n ≤ m
lt_not m n e = grind (arith, nat_tests, e)

flip : (a b : ℕ) → eqb a b ≡ eqb b a
flip a b = by (eqb a b) refl (eqb b a) refl
  where
    no_both : eqb a b ≡ true → eqb b a ≡ false → ⊥
    no_both e f = absurd (true≢false (sym (eqb_self b) ∙ ap (eqb b) (sym (same_number a b e)) ∙ f))

    no_none : eqb a b ≡ false → eqb b a ≡ true → ⊥
    no_none e f = absurd (true≢false (sym (eqb_self a) ∙ ap (eqb a) (sym (same_number b a f)) ∙ e))

    by : (c : Bool) → eqb a b ≡ c → (d : Bool) → eqb b a ≡ d → c ≡ d
    by true e true f = refl
    by true e false f = absurd (no_both e f)
    by false e true f = absurd (no_none e f)
    by false e false f = refl

-- the comparison of a tree's keys
pub at_is : (a i : ℕ) → is_at (nat_cmp a) i ≡ eqb a i
at_is a i = unsigned_tied a i

-- what is noted, as a function
abbrev noting : ℕ → ℕ → (ℕ → Option ℕ) → ℕ → Option ℕ
noting zero n f i = f i
noting (suc at) n f i = if eqb at i then Some n else f i

abbrev below_f : ℕ → (ℕ → Option ℕ) → ℕ → Option ℕ
below_f n f i = if nat_lt i n then f i else None

-- a noted index
inserted : (at n : ℕ) (els : List (ℕ × ℕ)) (i : ℕ) → found_in (tree_insert nat_cmp els at n) i ≡ (if eqb at i then Some n else found_in els i)
inserted at n [] i = ap (λ b. cond b (Some n) None) (at_is i at ∙ flip i at) ∙ same (eqb at i)
  where
    same : (b : Bool) → cond b (Some n) None ≡ (if b then Some n else None)
    same true = refl
    same false = refl
inserted at n (e ∷ els) i = by (nat_cmp at e.0) (ranks at e.0) (inserted at n els i)
  where
    rest : Option ℕ
    rest = found_in els i

    less : cond (is_at (nat_cmp i) at) (Some n) (cond (is_at (nat_cmp i) e.0) (Some e.1) rest) ≡ (if eqb at i then Some n else cond (is_at (nat_cmp i) e.0) (Some e.1) rest)
    less = ap (λ b. cond b (Some n) (cond (is_at (nat_cmp i) e.0) (Some e.1) rest)) (at_is i at ∙ flip i at) ∙ pick (eqb at i)
      where
        pick : (b : Bool) → cond b (Some n) (cond (is_at (nat_cmp i) e.0) (Some e.1) rest) ≡ (if b then Some n else cond (is_at (nat_cmp i) e.0) (Some e.1) rest)
        pick true = refl
        pick false = refl

    equal : at ≡ e.0 → cond (is_at (nat_cmp i) e.0) (Some n) rest ≡ (if eqb at i then Some n else cond (is_at (nat_cmp i) e.0) (Some e.1) rest)
    equal same = ap (λ b. cond b (Some n) rest) here ∙ pick (eqb at i) ∙ sym (ap (λ b. if eqb at i then Some n else cond b (Some e.1) rest) here)
      where
        here : is_at (nat_cmp i) e.0 ≡ eqb at i
        here = at_is i e.0 ∙ ap (eqb i) (sym same) ∙ flip i at

        pick : (b : Bool) → cond b (Some n) rest ≡ (if b then Some n else cond b (Some e.1) rest)
        pick true = refl
        pick false = refl

    greater : e.0 < at → found_in (tree_insert nat_cmp els at n) i ≡ (if eqb at i then Some n else rest) → cond (is_at (nat_cmp i) e.0) (Some e.1) (found_in (tree_insert nat_cmp els at n) i) ≡ (if eqb at i then Some n else cond (is_at (nat_cmp i) e.0) (Some e.1) rest)
    greater lt h = ap (cond (is_at (nat_cmp i) e.0) (Some e.1)) h ∙ pick (is_at (nat_cmp i) e.0) refl (eqb at i) refl
      where
        pick : (b : Bool) → is_at (nat_cmp i) e.0 ≡ b → (d : Bool) → eqb at i ≡ d → cond b (Some e.1) (if d then Some n else rest) ≡ (if d then Some n else cond b (Some e.1) rest)
        pick true f true g = absurd (omega (arith, lt, same_number i e.0 (sym (at_is i e.0) ∙ f), same_number at i g))
        pick true f false g = refl
        pick false f d g = refl

    by : (o : Ordering) → MatchOrdering o (at < e.0) (at ≡ e.0) (e.0 < at) → found_in (tree_insert nat_cmp els at n) i ≡ (if eqb at i then Some n else rest)
        → found_in (match_ordering o ((at, n) ∷ e ∷ els) ((e.0, n) ∷ els) (e ∷ tree_insert nat_cmp els at n)) i ≡ (if eqb at i then Some n else cond (is_at (nat_cmp i) e.0) (Some e.1) rest)
    by Less lt h = less
    by Equal same h = equal same
    by Greater lt h = greater lt h

found_noted : (e n : ℕ) (els : List (ℕ × ℕ)) (i : ℕ) → found_in (noted e n els) i ≡ noting e n (found_in els) i
found_noted zero n els i = refl
found_noted (suc at) n els i = inserted at n els i

-- indices below
found_below : (n : ℕ) (els : List (ℕ × ℕ)) (i : ℕ) → found_in (noted_below n els) i ≡ below_f n (found_in els) i
found_below n [] i = by (nat_lt i n)
  where
    nothing : Option ℕ
    nothing = None

    by : (b : Bool) → nothing ≡ (if b then None else None)
    by true = refl
    by false = refl
found_below n (e ∷ els) i = by (nat_lt e.0 n) refl (is_at (nat_cmp i) e.0) refl (found_below n els i)
  where
    by : (b : Bool) → nat_lt e.0 n ≡ b → (d : Bool) → is_at (nat_cmp i) e.0 ≡ d → found_in (noted_below n els) i ≡ (if nat_lt i n then found_in els i else None)
        → found_in (cond b (e ∷ noted_below n els) (noted_below n els)) i ≡ (if nat_lt i n then cond d (Some e.1) (found_in els i) else None)
    by true f true g h = ap (λ d. cond d (Some e.1) (found_in (noted_below n els) i)) g ∙ ap (λ b. if b then Some e.1 else None) (sym (ap (λ k. nat_lt k n) (same_number i e.0 (sym (at_is i e.0) ∙ g)) ∙ f))
    by true f false g h = ap (λ d. cond d (Some e.1) (found_in (noted_below n els) i)) g ∙ h
    by false f true g h =
        let past : nat_lt i n ≡ false = ap (λ k. nat_lt k n) (same_number i e.0 (sym (at_is i e.0) ∙ g)) ∙ f in
        h ∙ ap (λ b. if b then found_in els i else None) past ∙ sym (ap (λ b. if b then Some e.1 else None) past)
    by false f false g h = h

-- one name has an index
index_one : (a b : List ℕ) (i : ℕ) → index_of a ≡ Some i → index_of b ≡ Some i → a ≡ b
index_one a b i e f = sym (index_known a i e).0 ∙ (index_known b i f).0

no_index : index_of [] ≡ None
no_index = refl

-- a number that no entry has
abbrev Absent : ℕ → List (ℕ × Value) → Type 0
Absent n es = AllByRecursion (λ e. eqb n e.0 ≡ false) es

absent_head : (n : ℕ) (es : List (ℕ × Value)) → AllByRecursion (λ y. eqb n y ≡ false) (keys_of es) → Absent n es
absent_head n [] h = tt
absent_head n (e ∷ es) h = (h.0, absent_head n es h.1)

absent_removed : (n : ℕ) (es : List (ℕ × Value)) → IsDistinct eqb (keys_of es) → Absent n (remove_entry (eqb n) es)
absent_removed n [] h = tt
absent_removed n (e ∷ es) h = by (eqb n e.0) refl (absent_removed n es (IsDistinct-tail eqb e.0 (keys_of es) h))
  where
    by : (b : Bool) → eqb n e.0 ≡ b → Absent n (remove_entry (eqb n) es) → Absent n (cond b es (e ∷ remove_entry (eqb n) es))
    by true g rest = subst (λ m. Absent m es) (sym (same_number n e.0 g)) (absent_head e.0 es (IsDistinct-head eqb e.0 (keys_of es) h))
    by false g rest = (g, rest)

-- what each pair keeps, those that are left keep
pub noted_remove : (names : List (List ℕ)) (f : ℕ → Option ℕ) (k : ℕ) (es : List (ℕ × Value)) → AreNoted names f es → AreNoted names f (remove_entry (eqb k) es)
noted_remove names f k [] h = tt
noted_remove names f k (e ∷ es) h = by (eqb k e.0) (noted_remove names f k es h.1)
  where
    by : (b : Bool) → AreNoted names f (remove_entry (eqb k) es) → AreNoted names f (cond b es (e ∷ remove_entry (eqb k) es))
    by true rest = h.1
    by false rest = (h.0, rest)

pub indexed_remove : (names : List (List ℕ)) (f : ℕ → Option ℕ) (k : ℕ) (es : List (ℕ × Value)) → IsIndexed names f es → IsIndexed names f (remove_entry (eqb k) es)
indexed_remove names f k es h = record { named = h.named; noted = noted_remove names f k es h.noted }

-- a name is written
noted_insert : (names : List (List ℕ)) (g : ℕ → Option ℕ) (n : ℕ) (v : Value) (es : List (ℕ × Value)) → AreNoted names g es → ((i : ℕ) → index_of (name_at names n) ≡ Some i → g i ≡ Some n) → AreNoted names g (insert_entry eqb es n v)
noted_insert names g n v [] h new = (new, tt)
noted_insert names g n v (e ∷ es) h new = by (eqb n e.0) (noted_insert names g n v es h.1 new)
  where
    by : (b : Bool) → AreNoted names g (insert_entry eqb es n v) → AreNoted names g (if b then (e.0, v) ∷ es else e ∷ insert_entry eqb es n v)
    by true rest = h
    by false rest = (h.0, rest)

module _ (names : List (List ℕ)) (table : IsTable names) (n : ℕ) (within : n < length names) where
  at : slice_get names n ≡ Some (name_at names n)
  at = slice_get-get_or names n [] within

  noted_more : (f : ℕ → Option ℕ) (i : ℕ) → index_of (name_at names n) ≡ Some i → (es : List (ℕ × Value)) → Known (length names) es → AreNoted names f es → AreNoted names (noting (suc i) n f) es
  noted_more f i is [] known h = tt
  noted_more f i is (e ∷ es) known h = (λ j g. by j g (eqb i j) refl, noted_more f i is es known.1 h.1)
    where
      same : (j : ℕ) → index_of (name_at names e.0) ≡ Some j → i ≡ j → n ≡ e.0
      same j g d =
          let p : name_at names n ≡ name_at names e.0 = index_one (name_at names n) (name_at names e.0) j (is ∙ ap Some d) g in
          same_number n e.0 (same_test names (name_at names n) n table at e.0 known.0 ∙ (bytes_eq-Decides (name_at names n) (name_at names e.0)).1 p)

      by : (j : ℕ) → index_of (name_at names e.0) ≡ Some j → (b : Bool) → eqb i j ≡ b → (if b then Some n else f j) ≡ Some e.0
      by j g true d = ap Some (same j g (same_number i j d))
      by j g false d = h.0 j g

  named_more : (f : ℕ → Option ℕ) (i : ℕ) → index_of (name_at names n) ≡ Some i → ((j m : ℕ) → f j ≡ Some m → index_of (name_at names m) ≡ Some j) → (j m : ℕ) → noting (suc i) n f j ≡ Some m → index_of (name_at names m) ≡ Some j
  named_more f i is h j m = by (eqb i j) refl
    where
      by : (b : Bool) → eqb i j ≡ b → (if b then Some n else f j) ≡ Some m → index_of (name_at names m) ≡ Some j
      by true d e = ap (λ k. index_of (name_at names k)) (sym (some_same n m e)) ∙ is ∙ ap Some (same_number i j d)
      by false d e = h j m e

  indexed_insert : (f : ℕ → Option ℕ) (e : ℕ) (v : Value) (es : List (ℕ × Value)) → Known (length names) es → e ≡ end_of (name_at names n) → IsIndexed names f es → IsIndexed names (noting e n f) (insert_entry eqb es n v)
  indexed_insert f e v es known is h = by (index_of (name_at names n)) refl is
    where
      by : (o : Option ℕ) → index_of (name_at names n) ≡ o → e ≡ option_map_or (λ i. i + 1) o 0 → IsIndexed names (noting e n f) (insert_entry eqb es n v)
      by None g z = subst (λ k. IsIndexed names (noting k n f) (insert_entry eqb es n v)) (sym z) (record {
        named = h.named;
        noted = noted_insert names f n v es h.noted (λ i a. absurd (none_some (sym g ∙ a)));
      })
      by (Some i) g z =
          let one : suc i ≡ e = omega (arith, z) in
          subst (λ k. IsIndexed names (noting k n f) (insert_entry eqb es n v)) one (record {
            named = named_more f i g h.named;
            noted =
                noted_insert names (noting (suc i) n f) n v es (noted_more f i g es known h.noted)
                (λ j a. ap (λ b. if b then Some n else f j) (ap (eqb i) (sym (some_same i j (sym g ∙ a))) ∙ eqb_self i));
          })

  pub indexed_written : (els : List (ℕ × ℕ)) (e : ℕ) (v : Value) (es : List (ℕ × Value)) → Known (length names) es → e ≡ end_of (name_at names n) → IsIndexed names (found_in els) es → IsIndexed names (found_in (noted e n els)) (insert_entry eqb es n v)
  indexed_written els e v es known is h = subst (λ (f : ℕ → Option ℕ). IsIndexed names f (insert_entry eqb es n v)) (λ j i. sym (found_noted e n els i) j) (indexed_insert (found_in els) e v es known is h)

-- elements from an index on are taken out
noted_cut : (names : List (List ℕ)) (f : ℕ → Option ℕ) (n : ℕ) (es : List (ℕ × Value)) → AreNoted names f es → AreNoted names (below_f n f) (filter (λ e. is_below n (name_at names e.0)) es)
noted_cut names f n [] h = tt
noted_cut names f n (e ∷ es) h = by (is_below n (name_at names e.0)) refl (noted_cut names f n es h.1)
  where
    here : is_below n (name_at names e.0) ≡ true → (i : ℕ) → index_of (name_at names e.0) ≡ Some i → below_f n f i ≡ Some e.0
    here b i g = ap (λ c. if c then f i else None) (sym (ap (λ (o : Option ℕ). option_map_or (λ j. nat_lt j n) o true) g) ∙ b) ∙ h.0 i g

    by : (b : Bool) → is_below n (name_at names e.0) ≡ b → AreNoted names (below_f n f) (filter (λ e. is_below n (name_at names e.0)) es)
        → AreNoted names (below_f n f) (cond b (e ∷ filter (λ e. is_below n (name_at names e.0)) es) (filter (λ e. is_below n (name_at names e.0)) es))
    by true g rest = (here g, rest)
    by false g rest = rest

indexed_below : (names : List (List ℕ)) (f : ℕ → Option ℕ) (n : ℕ) (es : List (ℕ × Value)) → IsIndexed names f es → IsIndexed names (below_f n f) (filter (λ e. is_below n (name_at names e.0)) es)
indexed_below names f n es h = record {
  named = λ i m e. h.named i m (by i m (nat_lt i n) e);
  noted = noted_cut names f n es h.noted;
}
  where
    by : (i m : ℕ) (b : Bool) → (if b then f i else None) ≡ Some m → f i ≡ Some m
    by i m true e = e
    by i m false e = absurd (none_some e)

pub indexed_cut : (names : List (List ℕ)) (els : List (ℕ × ℕ)) (n : ℕ) (es : List (ℕ × Value)) → IsIndexed names (found_in els) es → IsIndexed names (found_in (noted_below n els)) (filter (λ e. is_below n (name_at names e.0)) es)
indexed_cut names els n es h = subst (λ (f : ℕ → Option ℕ). IsIndexed names f (filter (λ e. is_below n (name_at names e.0)) es)) (λ j i. sym (found_below n els i) j) (indexed_below names (found_in els) n es h)

-- nothing is noted of nothing
pub indexed_none : (names : List (List ℕ)) → IsIndexed names (found_in []) []
indexed_none names = record { named = λ i n e. absurd (none_some e); noted = tt }

-- a table that grew
module _ (old new : List (List ℕ)) (kept : (k : ℕ) → k < length old → get_or new k [] ≡ get_or old k []) where
  noted_stay : (f : ℕ → Option ℕ) (es : List (ℕ × Value)) → Known (length old) es → AreNoted old f es → AreNoted new f es
  noted_stay f [] k h = tt
  noted_stay f (e ∷ es) k h = (λ i g. h.0 i (ap index_of (sym (kept e.0 k.0)) ∙ g), noted_stay f es k.1 h.1)

  -- a name that is an index is one of the table
  index_within : (m i : ℕ) → index_of (name_at old m) ≡ Some i → m < length old
  index_within m i e = by (nat_lt m (length old)) refl
    where
      by : (b : Bool) → nat_lt m (length old) ≡ b → m < length old
      by true g = lt_is m (length old) g
      by false g = absurd (none_some (sym (ap index_of (past old m (lt_not m (length old) g)) ∙ no_index) ∙ e))
        where
          past : (ns : List (List ℕ)) (k : ℕ) → length ns ≤ k → get_or ns k [] ≡ []
          past [] k le = refl
          past (x ∷ ns) zero le = absurd (omega (arith, le))
          past (x ∷ ns) (suc k) le = past ns k (omega (arith, le))

  pub indexed_stay : (f : ℕ → Option ℕ) (es : List (ℕ × Value)) → Known (length old) es → IsIndexed old f es → IsIndexed new f es
  indexed_stay f es known h = record {
    named = λ i m e. ap index_of (kept m (index_within m i (h.named i m e))) ∙ h.named i m e;
    noted = noted_stay f es known h.noted;
  }

-- the last element is taken out
filter_gone : (p : ℕ → Bool) (k : ℕ) → p k ≡ false → (es : List (ℕ × Value)) → filter (λ e. p e.0) (remove_entry (eqb k) es) ≡ filter (λ e. p e.0) es
filter_gone p k h [] = refl
filter_gone p k h (e ∷ es) = by (eqb k e.0) refl (filter_gone p k h es)
  where
    by : (b : Bool) → eqb k e.0 ≡ b → filter (λ e. p e.0) (remove_entry (eqb k) es) ≡ filter (λ e. p e.0) es → filter (λ e. p e.0) (cond b es (e ∷ remove_entry (eqb k) es)) ≡ cond (p e.0) (e ∷ filter (λ e. p e.0) es) (filter (λ e. p e.0) es)
    by true g rest = sym (ap (λ c. cond c (e ∷ filter (λ e. p e.0) es) (filter (λ e. p e.0) es)) (ap p (sym (same_number k e.0 g)) ∙ h))
    by false g rest = ap (λ l. cond (p e.0) (e ∷ l) l) rest

module _ (names : List (List ℕ)) (n k : ℕ) (old new : List (ℕ × ℕ)) (popped : IsPoppedPast n k old new) where
  abbrev f : ℕ → Option ℕ
  f = found_in old

  abbrev g : ℕ → Option ℕ
  g = found_in new

  -- what is left is noted
  left_noted : (es : List (ℕ × Value)) → Absent k es → AreNoted names f es → AreNoted names g es
  left_noted [] a h = tt
  left_noted (e ∷ es) a h = (λ i is. popped.now i ∙ by i is (is_at (nat_cmp popped.at) i) refl, left_noted es a.1 h.1)
    where
      by : (i : ℕ) → index_of (name_at names e.0) ≡ Some i → (b : Bool) → is_at (nat_cmp popped.at) i ≡ b → cond b None (f i) ≡ Some e.0
      by i is false d = h.0 i is
      by i is true d =
          let at : popped.at ≡ i = same_number popped.at i (sym (at_is popped.at i) ∙ d) in
          let same : k ≡ e.0 = some_same k e.0 (sym popped.was ∙ ap f at ∙ h.0 i is) in
          absurd (true≢false (sym (eqb_self k) ∙ ap (eqb k) same ∙ a.0))

  pub popped_indexed : (es : List (ℕ × Value)) → IsDistinct eqb (keys_of es) → IsIndexed names f es → IsIndexed names g (remove_entry (eqb k) es)
  popped_indexed es distinct h = record {
    named = λ i m e. h.named i m (by i m (is_at (nat_cmp popped.at) i) (sym (popped.now i) ∙ e));
    noted = left_noted (remove_entry (eqb k) es) (absent_removed k es distinct) (noted_remove names f k es h.noted);
  }
    where
      by : (i m : ℕ) (b : Bool) → cond b None (f i) ≡ Some m → f i ≡ Some m
      by i m true e = absurd (none_some e)
      by i m false e = e

  pub popped_filter : (es : List (ℕ × Value)) → IsIndexed names f es → filter (λ e. is_below n (name_at names e.0)) (remove_entry (eqb k) es) ≡ filter (λ e. is_below n (name_at names e.0)) es
  popped_filter es h = filter_gone (λ m. is_below n (name_at names m)) k (ap (λ (o : Option ℕ). option_map_or (λ i. nat_lt i n) o true) (h.named popped.at k popped.was) ∙ lt_false popped.at n popped.past) es

  -- what is noted below stays
  pub popped_below : noted_below n new ≡ noted_below n old
  popped_below = sym (ap (noted_below n) popped.last ∙ push new)
    where
      push : (els : List (ℕ × ℕ)) → noted_below n (els ++ (popped.at, k) ∷ []) ≡ noted_below n els
      push [] = ap (λ b. cond b ((popped.at, k) ∷ []) []) (lt_false popped.at n popped.past)
      push (e ∷ els) = ap (λ l. cond (nat_lt e.0 n) (e ∷ l) l) (push els)

pub known_remove : (m k : ℕ) (es : List (ℕ × Value)) → Known m es → Known m (remove_entry (eqb k) es)
known_remove m k [] h = tt
known_remove m k (e ∷ es) h = by (eqb k e.0) (known_remove m k es h.1)
  where
    by : (b : Bool) → Known m (remove_entry (eqb k) es) → Known m (cond b es (e ∷ remove_entry (eqb k) es))
    by true rest = h.1
    by false rest = (h.0, rest)

-- no element is left from an index on
pub none_past : (names : List (List ℕ)) (n : ℕ) (f : ℕ → Option ℕ) → ((i : ℕ) → n ≤ i → f i ≡ None) → (es : List (ℕ × Value)) → AreNoted names f es → es ≡ filter (λ e. is_below n (name_at names e.0)) es
none_past names n f none [] h = refl
none_past names n f none (e ∷ es) h = ap (λ l. e ∷ l) (none_past names n f none es h.1) ∙ ap (λ b. cond b (e ∷ filter (λ e. is_below n (name_at names e.0)) es) (filter (λ e. is_below n (name_at names e.0)) es)) (sym (below (index_of (name_at names e.0)) refl))
  where
    less : (i : ℕ) → index_of (name_at names e.0) ≡ Some i → (b : Bool) → nat_lt i n ≡ b → b ≡ true
    less i g true d = refl
    less i g false d = absurd (none_some (sym (none i (lt_not i n d)) ∙ h.0 i g))

    below : (o : Option ℕ) → index_of (name_at names e.0) ≡ o → option_map_or (λ i. nat_lt i n) o true ≡ true
    below None g = refl
    below (Some i) g = less i g (nat_lt i n) refl

-- what an Array has under an index, by name
nothing_there : (names : List (List ℕ)) (f : ℕ → Option ℕ) (k : ℕ) → k < 4294967295 → (es : List (ℕ × Value)) → AreNoted names f es → f k ≡ None → None ≡ lookup (bytes_eq (decimal k)) (named names es)
nothing_there names f k small [] a none = refl
nothing_there names f k small (e ∷ es) a none = pick (bytes_eq (decimal k) (name_at names e.0)) refl (nothing_there names f k small es a.1 none)
  where
    pick : (b : Bool) → bytes_eq (decimal k) (name_at names e.0) ≡ b → None ≡ lookup (bytes_eq (decimal k)) (named names es) → None ≡ cond b (Some e.1) (lookup (bytes_eq (decimal k)) (named names es))
    pick true d rest = absurd (none_some (sym none ∙ a.0 k (index_only (name_at names e.0) k small ((bytes_eq-Decides (decimal k) (name_at names e.0)).0 d))))
    pick false d rest = rest

pub element_named : (names : List (List ℕ)) → IsTable names → (c : NumberedCell) → Known (length names) c.entries → IsIndexed names (found_in c.elements) c.entries → (k : ℕ) → k < 4294967295 → numbered_element k c ≡ lookup (bytes_eq (decimal k)) (named names c.entries)
element_named names table c known h k small = by (found_in c.elements k) refl
  where
    by : (o : Option ℕ) → found_in c.elements k ≡ o → option_and_then (λ n. lookup (eqb n) c.entries) o ≡ lookup (bytes_eq (decimal k)) (named names c.entries)
    by None e = nothing_there names (found_in c.elements) k small c.entries h.noted e
    by (Some n) e =
        let is : index_of (name_at names n) ≡ Some k = h.named k n e in
        let within : n < length names = index_within names names (λ i lt. refl) n k is in
        look names (name_at names n) n (same_test names (name_at names n) n table (slice_get-get_or names n [] within)) c.entries known
        ∙ ap (λ t. lookup (bytes_eq t) (named names c.entries)) (sym (index_known (name_at names n) k is).0)
