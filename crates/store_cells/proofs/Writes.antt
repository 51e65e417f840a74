-- A write to one cell, by number and by name.
use Rattle.std.proofs.Common.{◌≡◌, ℕ, zero, suc, ◌<◌, ◌≤◌, List, [], ◌∷◌, length, get_or, refl, sym, ap, ◌∙◌, subst, Option, Some, None, arith, Bool, true, false, eqb, if◌then◌else◌, true≢false, slice_get, is_some, filter}
use Rattle.std.specs.Prelude.{Result, Ok, Err, OnOk, OnErr, nat_le}
use Rattle.std.specs.Option.{option_and_then}
use Rattle.std.specs.Map.{lookup}
use Rattle.std.specs.Str.{bytes_eq}
use Rattle.std.proofs.lemmas.Option.{get_or_from_slice_get}
use Rattle.std.proofs.lemmas.Bool.Decides.{nat_tests}
use Rattle.std.proofs.lemmas.Slice.Eq.{bytes_eq-Decides}
use Rattle.indexmap.specs.IndexMap.{insert_entry}
use Rattle.keyed_names.specs.Interned.{IsTable, Interns}
use Rattle.keyed_names.proofs.Interning.{same_test, stays, longer}
use Rattle.store_cells.proofs.Interned.{found_stays}
use Rattle.store_cells.specs.declared.value.Value.{Value}
use Rattle.store_cells.specs.declared.value.Value.TheVariants as value
use Rattle.store_cells.specs.declared.cell.Write.TheVariants as write
use Rattle.store_cells.specs.Lists.{changed}
use Rattle.store_cells.specs.Cells.{PlainCell, is_array}
use Rattle.store_cells.specs.Arrays.{end_of, is_below, is_reference, length_in, length_name, count_value, written, cut}
use Rattle.store_cells.specs.Numbered.{NumberedCell, plain, named, name_at, cells_of, element_recounted, found_in, heads, noted, numbered_written, numbered_two, numbered_held, numbered_cut, plan_of, by_plan, references_in, refers_at}
use Rattle.store_cells.specs.Shape.{IsIndexed, Known, AreKnown, AreEntries, IsWellFormed, AreWellFormed, AreWords, AreOrdered, IsBase, IsRefWithin, Wrote, Kept}
use Rattle.store_cells.proofs.Lists.{none_some, some_same, length-changed, map-changed, map-unchanged}
use Rattle.store_cells.proofs.Look.{known_entries, known_cells, insert_named}
use Rattle.store_cells.proofs.Entries.{entries_more, entries_insert, entries_filter, lookup_inserted, lookup_other, lookup_filter, named_filter}
use Rattle.store_cells.proofs.Indexed.{indexed_cut, indexed_stay, indexed_written}
use Rattle.store_cells.proofs.Referring.{references_stay, referring_written}
use Rattle.store_cells.proofs.Plans.{own_facts, longer_facts, length_facts}

pub fine_at : (names : List (List ℕ)) (size : ℕ) (cs : List NumberedCell) (i : ℕ) (c : NumberedCell) → AreWellFormed names size cs → slice_get cs i ≡ Some c → IsWellFormed names size c
fine_at names size [] i c h e = absurd (none_some e)
fine_at names size (x ∷ cs) zero c h e = subst (λ (y : NumberedCell). IsWellFormed names size y) (some_same x c e) h.0
fine_at names size (x ∷ cs) (suc i) c h e = fine_at names size cs i c h.1 e

pub fine_changed : (names : List (List ℕ)) (size : ℕ) (cs : List NumberedCell) (i : ℕ) (f : NumberedCell → NumberedCell) → AreWellFormed names size cs → ((c : NumberedCell) → slice_get cs i ≡ Some c → IsWellFormed names size c → IsWellFormed names size (f c)) → AreWellFormed names size (changed cs i f)
fine_changed names size [] i f h g = tt
fine_changed names size (c ∷ cs) zero f h g = (g c refl h.0, h.1)
fine_changed names size (c ∷ cs) (suc i) f h g = (h.0, fine_changed names size cs i f h.1 g)

-- a table that grew
module _ (old new : List (List ℕ)) (more : length old ≤ length new) (kept : (k : ℕ) → k < length old → get_or new k [] ≡ get_or old k []) where
  pub named_stay : (es : List (ℕ × Value)) → Known (length old) es → named new es ≡ named old es
  named_stay [] h = refl
  named_stay (e ∷ es) h = λ j. (kept e.0 h.0 j, e.1) ∷ named_stay es h.1 j

  pub cells_stay : (cs : List NumberedCell) → AreKnown (length old) cs → cells_of new cs ≡ cells_of old cs
  cells_stay [] h = refl
  cells_stay (c ∷ cs) h = let p = named_stay c.entries h.0 in λ j. record { owner = c.head.owner; form = c.head.form; up = c.head.up; pairs = p j } ∷ cells_stay cs h.1 j

  pub fine_stay : (size size' : ℕ) (c : NumberedCell) → size ≤ size' → IsWellFormed old size c → IsWellFormed new size' c
  fine_stay size size' c le h = record {
    entries = entries_more (length old) (length new) size size' c.entries more le h.entries;
    array = λ a. record {
      length = (h.array a).length;
      indexed = indexed_stay old new kept (found_in c.elements) c.entries (known_entries (length old) size c.entries h.entries) (h.array a).indexed;
      counted = (h.array a).counted ∙ sym (references_stay old new kept c.entries (known_entries (length old) size c.entries h.entries));
    };
  }

  pub all_fine_stay : (size size' : ℕ) (cs : List NumberedCell) → size ≤ size' → AreWellFormed old size cs → AreWellFormed new size' cs
  all_fine_stay size size' [] le h = tt
  all_fine_stay size size' (c ∷ cs) le h = (fine_stay size size' c le h.0, all_fine_stay size size' cs le h.1)

-- the table with a name more
module _ (old new : List (List ℕ)) (name : List ℕ) (n : ℕ) (is : Interns old new name n) (table : IsTable new) (cs : List NumberedCell) (base : IsBase old cs) where
  pub grown_base : IsBase new cs
  grown_base = record {
    table = table;
    words = record {
      length = found_stays old new name is.table 0 length_name base.words.length;
      nodes = found_stays old new name is.table 1 _ base.words.nodes;
    };
    fine = all_fine_stay old new (longer old new name is.table) (stays old new name is.table) (length cs) (length cs) cs (omega arith) base.fine;
    ordered = base.ordered;
  }

  pub grown_cells : cells_of new cs ≡ cells_of old cs
  grown_cells = cells_stay old new (longer old new name is.table) (stays old new name is.table) cs (known_cells old (length cs) cs base.fine)

-- one cell is changed
module _ (names : List (List ℕ)) (cs : List NumberedCell) (base : IsBase names cs) (i : ℕ) (f : NumberedCell → NumberedCell) (same : (c : NumberedCell) → (f c).head ≡ c.head) where
  pub changed_heads : heads (changed cs i f) ≡ heads cs
  changed_heads = map-unchanged (λ c. c.head) cs i f same

  pub changed_base : ((c : NumberedCell) → slice_get cs i ≡ Some c → IsWellFormed names (length cs) c → IsWellFormed names (length cs) (f c)) → IsBase names (changed cs i f)
  changed_base fine = record {
    table = base.table;
    words = base.words;
    fine = subst (λ n. AreWellFormed names n (changed cs i f)) (sym (length-changed cs i f)) (fine_changed names (length cs) cs i f base.fine fine);
    ordered = subst AreOrdered (sym changed_heads) base.ordered;
  }

  pub changed_cells : (g : PlainCell → PlainCell) → ((c : NumberedCell) → slice_get cs i ≡ Some c → IsWellFormed names (length cs) c → plain names (f c) ≡ g (plain names c)) → cells_of names (changed cs i f) ≡ changed (cells_of names cs) i g
  changed_cells g alike = map-changed (plain names) cs i f g (λ c e. alike c e (fine_at names (length cs) cs i c base.fine e))

-- the number of `length` and others
module _ (names : List (List ℕ)) (table : IsTable names) (words : AreWords names) (name : List ℕ) (n : ℕ) (at : slice_get names n ≡ Some name) (within : n < length names) where
  pub here : name_at names n ≡ name
  here = get_or_from_slice_get names n name [] at

  pub not_length : bytes_eq name length_name ≡ false → eqb 0 n ≡ false
  not_length differs = by (eqb 0 n) refl
    where
      by : (b : Bool) → eqb 0 n ≡ b → b ≡ false
      by false e = refl
      by true e =
          let p : bytes_eq length_name (get_or names n []) ≡ true = sym (same_test names length_name 0 table words.length n within) ∙ e in
          let q : length_name ≡ name = (bytes_eq-Decides length_name (get_or names n [])).0 p ∙ here in
          absurd (true≢false (sym ((bytes_eq-Decides name length_name).1 (sym q)) ∙ differs))

  pub fine_own : (size e : ℕ) (v : Value) (c : NumberedCell) → IsRefWithin size v → (is_array c.head.form ≡ true → (bytes_eq name length_name ≡ false) × (e ≡ end_of name)) → IsWellFormed names size c → IsWellFormed names size (numbered_written n v e c)
  fine_own size e v c ref facts h = record {
    entries = entries_insert (length names) size n v c.entries h.entries within ref;
    array = λ a. record {
      length = ap (λ (o : Option Value). is_some (option_and_then length_in o)) (lookup_other 0 n v c.entries (not_length (facts a).0)) ∙ (h.array a).length;
      indexed = indexed_written names table n within c.elements e v c.entries (known_entries (length names) size c.entries h.entries) ((facts a).1 ∙ ap end_of (sym here)) (h.array a).indexed;
      counted = ap (element_recounted e (refers_at n c.entries) (is_reference v)) (h.array a).counted ∙ referring_written names n e v c.entries ((facts a).1 ∙ ap end_of (sym here));
    };
  }

  pub plain_own : (v : Value) (e : ℕ) (c : NumberedCell) → Known (length names) c.entries → plain names (numbered_written n v e c) ≡ written name v (plain names c)
  plain_own v e c known =
      let p = insert_named names name n (same_test names name n table at) c.entries v known here in
      λ j. record { owner = c.head.owner; form = c.head.form; up = c.head.up; pairs = p j }

-- a count is a length
pub count_length : (n : ℕ) → n ≤ 4294967295 → length_in (count_value n) ≡ Some n
count_length n le = by (nat_le n 4294967295) (grind (arith, nat_tests, le))
  where
    by : (b : Bool) → b ≡ true → (if b then Some n else None) ≡ Some n
    by true e = refl
    by false e = absurd (true≢false (sym e))

length_held : (o : Option Value) → is_some (option_and_then length_in o) ≡ true → is_some o ≡ true
length_held None e = e
length_held (Some v) e = refl

module _ (names : List (List ℕ)) (table : IsTable names) (words : AreWords names) where
  pub zero_within : 0 < length names
  zero_within = by names words.length
    where
      by : (l : List (List ℕ)) → slice_get l 0 ≡ Some length_name → 0 < length l
      by [] e = absurd (none_some e)
      by (x ∷ l) e = omega arith

  pub length_here : name_at names 0 ≡ length_name
  length_here = here names table words length_name 0 words.length zero_within

  -- `length` is no index
  pub length_below : (n : ℕ) → is_below n (name_at names 0) ≡ true
  length_below n = ap (is_below n) length_here

  pub held_indexed : (size : ℕ) (v : Value) (c : NumberedCell) → is_array c.head.form ≡ true → IsWellFormed names size c → IsIndexed names (found_in c.elements) (insert_entry eqb c.entries 0 v)
  held_indexed size v c array h = indexed_written names table 0 zero_within c.elements 0 v c.entries (known_entries (length names) size c.entries h.entries) (ap end_of (sym length_here)) (h.array array).indexed

  pub fine_held : (size n : ℕ) (v : Value) (c : NumberedCell) → length_in v ≡ Some n → IsRefWithin size v → is_array c.head.form ≡ true → IsWellFormed names size c → IsWellFormed names size (numbered_cut names n (numbered_held 0 v c))
  fine_held size n v c is ref array h = record {
    entries = entries_filter (length names) size (λ e. is_below n (name_at names e.0)) (insert_entry eqb c.entries 0 v) (entries_insert (length names) size 0 v c.entries h.entries zero_within ref);
    array = λ a. record {
      length =
          ap (λ (o : Option Value). is_some (option_and_then length_in o)) (lookup_filter 0 (λ k. is_below n (name_at names k)) (insert_entry eqb c.entries 0 v) (length_below n) ∙ lookup_inserted 0 v c.entries)
          ∙ ap is_some is;
      indexed = indexed_cut names c.elements n (insert_entry eqb c.entries 0 v) (held_indexed size v c array h);
      counted = refl;
    };
  }

  -- a cell whose length is written may be cut
  pub held_known : (size : ℕ) (v : Value) (c : NumberedCell) → IsRefWithin size v → IsWellFormed names size c → Known (length names) (insert_entry eqb c.entries 0 v)
  held_known size v c ref h = known_entries (length names) size (insert_entry eqb c.entries 0 v) (entries_insert (length names) size 0 v c.entries h.entries zero_within ref)

  pub plain_held : (n : ℕ) (v : Value) (c : NumberedCell) → Known (length names) c.entries → plain names (numbered_cut names n (numbered_held 0 v c)) ≡ cut n (written length_name v (plain names c))
  plain_held n v c known =
      let p = named_filter names (is_below n) (insert_entry eqb c.entries 0 v) in
      let q = insert_named names length_name 0 (same_test names length_name 0 table words.length) c.entries v known length_here in
      λ j. record { owner = c.head.owner; form = c.head.form; up = c.head.up; pairs = (p ∙ ap (λ ps. filter (λ q. is_below n q.0) ps) q) j }

  -- an element and the length
  module _ (name : List ℕ) (k : ℕ) (at : slice_get names k ≡ Some name) (within : k < length names) where
    pub fine_two : (size e : ℕ) (v u : Value) (c : NumberedCell) → u ≡ count_value e → e ≤ 4294967295 → IsRefWithin size v → (bytes_eq name length_name ≡ false) × (e ≡ end_of name) → IsWellFormed names size c → IsWellFormed names size (numbered_two k v 0 u e c)
    fine_two size e v u c count le ref facts h =
        let ref_u : IsRefWithin size u = subst (IsRefWithin size) (sym count) tt in
        let one = fine_own names table words name k at within size e v c ref (λ a. facts) h in
        record {
          entries = entries_insert (length names) size 0 u (insert_entry eqb c.entries k v) one.entries zero_within ref_u;
          array = λ a. record {
            length = ap (λ (o : Option Value). is_some (option_and_then length_in o)) (lookup_inserted 0 u (insert_entry eqb c.entries k v) ∙ ap Some count) ∙ ap is_some (count_length e le);
            indexed = indexed_written names table 0 zero_within (noted e k c.elements) 0 u (insert_entry eqb c.entries k v) (known_entries (length names) size (insert_entry eqb c.entries k v) one.entries) (ap end_of (sym length_here)) (one.array a).indexed;
            counted = (one.array a).counted ∙ referring_written names 0 0 u (insert_entry eqb c.entries k v) (ap end_of (sym length_here));
          };
        }

    pub plain_two : (e : ℕ) (v u : Value) (c : NumberedCell) → u ≡ count_value e → AreEntries (length names) 0 [] → Known (length names) c.entries → Known (length names) (insert_entry eqb c.entries k v) → plain names (numbered_two k v 0 u e c) ≡ written length_name (count_value e) (written name v (plain names c))
    plain_two e v u c count none known more =
        let p = insert_named names name k (same_test names name k table at) c.entries v known (here names table words name k at within) in
        let q = insert_named names length_name 0 (same_test names length_name 0 table words.length) (insert_entry eqb c.entries k v) u more length_here in
        λ j. record { owner = c.head.owner; form = c.head.form; up = c.head.up; pairs = (q ∙ (λ i. insert_entry bytes_eq (p i) length_name (count i))) j }

-- what a write answers
module _ (old new : List (List ℕ)) (name : List ℕ) (n : ℕ) (is : Interns old new name n) (table : IsTable new) (cs after : List NumberedCell) (base : IsBase old cs) (i : ℕ) {E : Type 0} (r : Result (Unit {0}) E) where
  pub kept_err : OnErr r (after ≡ cs) → OnErr r (Kept old cs new after)
  kept_err e = by r e
    where
      by : (r : Result (Unit {0}) E) → OnErr r (after ≡ cs) → OnErr r (Kept old cs new after)
      by (Ok u) e = tt
      by (Err u) e = record {
        done = ap (cells_of new) e ∙ grown_cells old new name n is table cs base;
        base = subst (IsBase new) (sym e) (grown_base old new name n is table cs base);
        heads = ap heads e;
      }

  module _ (v : Value) (ref : IsRefWithin (length cs) v) where
    pub wrote_own : (e : ℕ) → ((c : NumberedCell) → slice_get cs i ≡ Some c → plan_of name v c ≡ Some (write.Own e)) → OnOk r (after ≡ changed cs i (numbered_written n v e)) → OnOk r (Wrote old cs new after i (written name v))
    wrote_own e plan ok = by r ok
      where
        base' : IsBase new cs
        base' = grown_base old new name n is table cs base

        f : NumberedCell → NumberedCell
        f = numbered_written n v e

        done : cells_of new (changed cs i f) ≡ changed (cells_of old cs) i (written name v)
        done =
            changed_cells new cs base' i f (λ c. refl) (written name v) (λ c at fine. plain_own new table base'.words name n is.found is.within v e c (known_entries (length new) (length cs) c.entries fine.entries))
            ∙ ap (λ l. changed l i (written name v)) (grown_cells old new name n is table cs base)

        is_base : IsBase new (changed cs i f)
        is_base = changed_base new cs base' i f (λ c. refl) (λ c at fine. fine_own new table base'.words name n is.found is.within (length cs) e v c ref (own_facts name v c e (plan c at)) fine)

        by : (r : Result (Unit {0}) E) → OnOk r (after ≡ changed cs i f) → OnOk r (Wrote old cs new after i (written name v))
        by (Ok u) g = record {
          done = ap (cells_of new) g ∙ done;
          base = subst (IsBase new) (sym g) is_base;
          heads = ap heads g ∙ changed_heads new cs base' i f (λ c. refl);
        }
        by (Err u) g = tt

    pub wrote_longer : (e : ℕ) (u : Value) → u ≡ count_value e → e ≤ 4294967295 → ((c : NumberedCell) → slice_get cs i ≡ Some c → plan_of name v c ≡ Some (write.Longer e)) → OnOk r (after ≡ changed cs i (numbered_two n v 0 u e)) → OnOk r (Wrote old cs new after i (by_plan (write.Longer e) name v))
    wrote_longer e u count le plan ok = by r ok
      where
        base' : IsBase new cs
        base' = grown_base old new name n is table cs base

        f : NumberedCell → NumberedCell
        f = numbered_two n v 0 u e

        g : PlainCell → PlainCell
        g = by_plan (write.Longer e) name v

        alike : (c : NumberedCell) → slice_get cs i ≡ Some c → IsWellFormed new (length cs) c → plain new (f c) ≡ g (plain new c)
        alike c at fine =
            let known = known_entries (length new) (length cs) c.entries fine.entries in
            let more = known_entries (length new) (length cs) (insert_entry eqb c.entries n v) (entries_insert (length new) (length cs) n v c.entries fine.entries is.within ref) in
            plain_two new table base'.words name n is.found is.within e v u c count tt known more

        is_base : IsBase new (changed cs i f)
        is_base = changed_base new cs base' i f (λ c. refl) (λ c at fine. fine_two new table base'.words name n is.found is.within (length cs) e v u c count le ref (longer_facts name v c e (plan c at)) fine)

        by : (r : Result (Unit {0}) E) → OnOk r (after ≡ changed cs i f) → OnOk r (Wrote old cs new after i g)
        by (Ok u) h = record {
          done = ap (cells_of new) h ∙ changed_cells new cs base' i f (λ c. refl) g alike ∙ ap (λ l. changed l i g) (grown_cells old new name n is table cs base);
          base = subst (IsBase new) (sym h) is_base;
          heads = ap heads h ∙ changed_heads new cs base' i f (λ c. refl);
        }
        by (Err u) h = tt

-- no write, with the table as it was
pub kept_same : (old new : List (List ℕ)) (cs : List NumberedCell) → IsBase old cs → new ≡ old → Kept old cs new cs
kept_same old new cs base e = record {
  done = ap (λ (ns : List (List ℕ)). cells_of ns cs) e;
  base = subst (λ (ns : List (List ℕ)). IsBase ns cs) (sym e) base;
  heads = refl;
}

-- a write under `length`
module _ (names : List (List ℕ)) (name : List ℕ) (cs : List NumberedCell) (base : IsBase names cs) (i n : ℕ) (v : Value) (plan : (c : NumberedCell) → slice_get cs i ≡ Some c → plan_of name v c ≡ Some (write.Length n)) where
  pub has_length : (c : NumberedCell) → slice_get cs i ≡ Some c → is_some (lookup (eqb 0) c.entries) ≡ true
  has_length c at = length_held (lookup (eqb 0) c.entries) ((fine_at names (length cs) cs i c base.fine at).array (length_facts name v c n (plan c at)).0).length

  not_ref : (v : Value) → length_in v ≡ Some n → IsRefWithin (length cs) v
  not_ref value.Undefined e = tt
  not_ref value.Null e = tt
  not_ref (value.Bool b) e = tt
  not_ref (value.Num k) e = tt
  not_ref (value.Text t) e = tt
  not_ref (value.Ref k) e = absurd (none_some e)

  pub cut_known : (c after : NumberedCell) → slice_get cs i ≡ Some c → after ≡ numbered_held 0 v c → Known (length names) after.entries
  cut_known c after at e = subst (λ (x : NumberedCell). Known (length names) x.entries) (sym e) (held_known names base.table base.words (length cs) v c (not_ref v (length_facts name v c n (plan c at)).1) (fine_at names (length cs) cs i c base.fine at))

  pub cut_indexed : (c after : NumberedCell) → slice_get cs i ≡ Some c → after ≡ numbered_held 0 v c → IsIndexed names (found_in after.elements) after.entries
  cut_indexed c after at e = subst (λ (x : NumberedCell). IsIndexed names (found_in x.elements) x.entries) (sym e) (held_indexed names base.table base.words (length cs) v c (length_facts name v c n (plan c at)).0 (fine_at names (length cs) cs i c base.fine at))

  pub cut_counted : (c after : NumberedCell) → slice_get cs i ≡ Some c → after ≡ numbered_held 0 v c → after.references ≡ references_in names after.entries
  cut_counted c after at e = subst (λ (x : NumberedCell). x.references ≡ references_in names x.entries) (sym e) (
      ((fine_at names (length cs) cs i c base.fine at).array (length_facts name v c n (plan c at)).0).counted
      ∙ referring_written names 0 0 v c.entries (ap end_of (sym (length_here names base.table base.words)))
      )

  pub wrote_length : (after : List NumberedCell) → after ≡ changed cs i (λ c. numbered_cut names n (numbered_held 0 v c)) → Wrote names cs names after i (by_plan (write.Length n) name v)
  wrote_length after e = record {
    done = ap (cells_of names) e ∙ changed_cells names cs base i f (λ c. refl) (by_plan (write.Length n) name v) (λ c at fine. plain_held names base.table base.words n v c (known_entries (length names) (length cs) c.entries fine.entries));
    base = subst (IsBase names) (sym e) (changed_base names cs base i f (λ c. refl) (λ c at fine. fine_held names base.table base.words (length cs) n v c (length_facts name v c n (plan c at)).1 (not_ref v (length_facts name v c n (plan c at)).1) (length_facts name v c n (plan c at)).0 fine));
    heads = ap heads e ∙ changed_heads names cs base i f (λ c. refl);
  }
    where
      f : NumberedCell → NumberedCell
      f = λ c. numbered_cut names n (numbered_held 0 v c)
