-- Reading JSON keeps what is there.
use Rattle.serde_json.specs.Data as json
use Rattle.std.proofs.Common.{ℕ, ◌+◌, ◌≤◌, Bool, true, false, List, length, arith, ◌<◌, refl, ltb-true, subst}
use Rattle.std.specs.List.{AllByRecursion, fold, list_all}
use Rattle.std.proofs.lemmas.List.{length-append}
use Rattle.widget_meaning.specs.Values.{Value, Text, Is, E4, E8}
use Rattle.widget_meaning.specs.OwnState.{State, Cell, with_new_cell, Kind, Object, Array, Function, Bunch}
use Rattle.widget_meaning.specs.Costs.{with_counts, give}
use Rattle.widget_meaning.specs.JsonValues.{has_permitted_names, has_numbers, texts_in, give_read, read_value, from_json, cells_at, items_at, members_at, value_at, read_json, is_number, whole, items_have_numbers, members_have_numbers}
use Rattle.meaning_laws.specs.There.{Sizes, Told, CellFits, ValueIs, PairsAre, CellIs, OfCount}
use Rattle.meaning_laws.specs.Texts.{IsText, AreNames}
use Rattle.meaning_laws.proofs.Units.{decimal_is}
use Rattle.meaning_laws.proofs.Spelled.{utf8_units, unit_at}
use Rattle.meaning_laws.proofs.Keys.{OfContent, Aligned, whole_aligned, aligned_rest, string_whole, text_whole, spelled_units}
use Rattle.meaning_laws.proofs.Numbers.{Within}
use Rattle.code_units.specs.Utf8.{units_of, utf8_of}
use Rattle.code_units.proofs.UnitsBack.{scalars-lossy}
use Rattle.widget_meaning.specs.Limits.{past_numbers, max_slots}
use Rattle.std.proofs.lemmas.Bool.{and_parts}
use Rattle.std.specs.Prelude.{unsigned_abs, ◌≡◌, Option, Some, None, sum_by, [], ◌∷◌}
use Rattle.meaning_laws.proofs.ReadJson.{HasStrings, ItemsHaveStrings, MembersHaveStrings, OfSome, read_is}
use Rattle.json.specs.Text.{content, plain}
use Rattle.meaning_laws.proofs.Each.{each_both}
use Rattle.meaning_laws.proofs.Later.{told_later}
use Rattle.std.proofs.lemmas.List.Sums.{sum_by-cons}
use Rattle.widget_meaning.specs.JsonBack.{HasLength}
use Rattle.meaning_laws.proofs.Steps.{second_part, R, Keeps, ended, halted, either, charged, paid, faulted, wanted, found, lowered, plain_is}
use Rattle.meaning_laws.proofs.Values.{told, also, first, second, together, own_value, null_is, truth_is, num_is, text_is, no_pairs, more_pairs, value_end}
use Rattle.meaning_laws.proofs.Forms.{array_is, with_more, more_grows, all_born, Hosted, array_hosted, plain_hosted}

-- a string spells a text
abbrev pub SpellsText : List ℕ → Type 0
SpellsText k = IsText (units_of k)

whole_within : (x : json.Num) → is_number x ≡ true → Within (whole x)
whole_within (json.unsigned n) e = ltb-true n past_numbers e
whole_within (json.negative z) e = ltb-true (unsigned_abs z) past_numbers e
whole_within (json.float x) e = cc

module _ (m : Sizes) where
  abbrev Strings : json.Data → Type 0
  Strings d = Told m (HasStrings SpellsText d)

  value_born : (n : ℕ) (d : json.Data) → n + length (cells_at n d) ≤ m.objects → Strings d → has_numbers d ≡ true → ValueIs m (value_at n d)
  value_born n json.null h k e = null_is m
  value_born n (json.boolean b) h k e = truth_is m b
  value_born n (json.number x) h k e = num_is m (whole x) (told m (whole_within x e))
  value_born n (json.string bs) h k e = text_is m _ k
  value_born n (json.array ds) h k e = own_value m n (omega (arith, h))
  value_born n (json.object ms) h k e = own_value m n (omega (arith, h))

  mutual
    cells_are : (n : ℕ) (d : json.Data) → n + length (cells_at n d) ≤ m.objects → Strings d → has_numbers d ≡ true → AllByRecursion (CellIs m) (cells_at n d)
    cells_are n json.null h k e = tt
    cells_are n (json.boolean b) h k e = tt
    cells_are n (json.number x) h k e = tt
    cells_are n (json.string bs) h k e = tt
    cells_are n (json.array ds) h k e = let i = items_are (n + 1) 0 ds (omega (arith, h)) k e in (array_is m _ _ i.1.0 i.1.1, i.0)
    cells_are n (json.object ms) h k e = let i = members_are (n + 1) ms (omega (arith, h)) k e in (plain_is m _ i.1.0 i.1.1, i.0)

    items_are : (n i : ℕ) (ds : json.Items) → n + length (items_at n i ds).1 ≤ m.objects → Told m (ItemsHaveStrings SpellsText ds) → items_have_numbers ds ≡ true
        → AllByRecursion (CellIs m) (items_at n i ds).1 × (PairsAre m (items_at n i ds).0 × Told m (AreNames (items_at n i ds).0))
    items_are n i json.no_items h k e = (tt, (no_pairs m, told m tt))
    items_are n i (json.item d ds) h k e =
        let v = and_parts (has_numbers d) (items_have_numbers ds) e in
        let cs : List Cell = cells_at n d in
        let us : List Cell = (items_at (n + length cs) (i + 1) ds).1 in
        let l : n + length cs ≤ m.objects = omega (arith, h, length-append cs us) in
        let r = items_are (n + length cs) (i + 1) ds (omega (arith, h, length-append cs us)) (second m k) v.1 in
        (each_both (CellIs m) cs us (cells_are n d l (first m k) v.0) r.0, (more_pairs m _ _ _ (value_born n d l (first m k) v.0) r.1.0, together m (told m (decimal_is i)) r.1.1))

    members_are : (n : ℕ) (ms : json.Members) → n + length (members_at n ms).1 ≤ m.objects → Told m (MembersHaveStrings SpellsText ms) → members_have_numbers ms ≡ true
        → AllByRecursion (CellIs m) (members_at n ms).1 × (PairsAre m (members_at n ms).0 × Told m (AreNames (members_at n ms).0))
    members_are n json.no_members h k e = (tt, (no_pairs m, told m tt))
    members_are n (json.member x d ms) h k e =
        let v = and_parts (has_numbers d) (members_have_numbers ms) e in
        let cs : List Cell = cells_at n d in
        let us : List Cell = (members_at (n + length cs) ms).1 in
        let l : n + length cs ≤ m.objects = omega (arith, h, length-append cs us) in
        let q : Strings d = also m (λ z. z.1.0) k in
        let r = members_are (n + length cs) ms (omega (arith, h, length-append cs us)) (also m (λ z. z.1.1) k) v.1 in
        (each_both (CellIs m) cs us (cells_are n d l q v.0) r.0, (more_pairs m _ _ _ (value_born n d l q v.0) r.1.0, together m (first m k) r.1.1))

mutual
  hosted : (n : ℕ) (d : json.Data) → AllByRecursion Hosted (cells_at n d)
  hosted n json.null = tt
  hosted n (json.boolean b) = tt
  hosted n (json.number x) = tt
  hosted n (json.string bs) = tt
  hosted n (json.array ds) = (array_hosted _ _, items_hosted (n + 1) 0 ds)
  hosted n (json.object ms) = (plain_hosted _, members_hosted (n + 1) ms)

  items_hosted : (n i : ℕ) (ds : json.Items) → AllByRecursion Hosted (items_at n i ds).1
  items_hosted n i json.no_items = tt
  items_hosted n i (json.item d ds) = each_both Hosted (cells_at n d) _ (hosted n d) (items_hosted (n + length (cells_at n d)) (i + 1) ds)

  members_hosted : (n : ℕ) (ms : json.Members) → AllByRecursion Hosted (members_at n ms).1
  members_hosted n json.no_members = tt
  members_hosted n (json.member x d ms) = each_both Hosted (cells_at n d) _ (hosted n d) (members_hosted (n + length (cells_at n d)) ms)

self : (n : ℕ) → n ≤ n
self n = omega arith

-- an array has all its elements
abbrev OfLength : Kind → ℕ → Type 0
OfLength Object n = Unit {0}
OfLength (Array len) n = len ≤ n
OfLength (Function f o) n = Unit {0}
OfLength (Bunch ns) n = ⊥

abbrev IsFull : Cell → Type 0
IsFull c = OfLength c.kind (length c.pairs)

fits_full : (k : Kind) (n a : ℕ) → OfLength k n → n ≤ a → a ≤ max_slots → HasLength k
fits_full Object n a h i j = tt
fits_full (Array len) n a h i j = omega (arith, h, i, j)
fits_full (Function f o) n a h i j = tt
fits_full (Bunch ns) n a h i j = tt

full_count : (k : Kind) (n : ℕ) → OfLength k n → OfCount k
full_count Object n h = tt
full_count (Array len) n h = tt
full_count (Function f o) n h = tt
full_count (Bunch ns) n h = absurd h

first_room : (x y a : ℕ) → x + y ≤ a → x ≤ a
first_room x y a h = omega (arith, h)

rest_room : (x y a : ℕ) → x + y ≤ a → y ≤ a
rest_room x y a h = omega (arith, h)

split_sum : (c : Cell) (cs : List Cell) (a : ℕ) → sum_by (λ d. length d.pairs) (c ∷ cs) ≤ a → length c.pairs + sum_by (λ d. length d.pairs) cs ≤ a
split_sum c cs a h = subst (λ k. k ≤ a) (sum_by-cons (λ d. length d.pairs) c cs) h

all_fit : (cs : List Cell) (a : ℕ) → AllByRecursion IsFull cs → sum_by (λ c. length c.pairs) cs ≤ a → a ≤ max_slots → AllByRecursion (CellFits a) cs
all_fit [] a h l i = tt
all_fit (c ∷ cs) a h l i = (record { room = first_room (length c.pairs) (sum_by (λ d. length d.pairs) cs) a (split_sum c cs a l); len = fits_full c.kind (length c.pairs) a h.0 (first_room (length c.pairs) (sum_by (λ d. length d.pairs) cs) a (split_sum c cs a l)) i; count = full_count c.kind (length c.pairs) h.0 }, all_fit cs a h.1 (rest_room (length c.pairs) (sum_by (λ d. length d.pairs) cs) a (split_sum c cs a l)) i)

mutual
  full : (n : ℕ) (d : json.Data) → AllByRecursion IsFull (cells_at n d)
  full n json.null = tt
  full n (json.boolean b) = tt
  full n (json.number x) = tt
  full n (json.string bs) = tt
  full n (json.array ds) = (self (length (items_at (n + 1) 0 ds).0), items_full (n + 1) 0 ds)
  full n (json.object ms) = (tt, members_full (n + 1) ms)

  items_full : (n i : ℕ) (ds : json.Items) → AllByRecursion IsFull (items_at n i ds).1
  items_full n i json.no_items = tt
  items_full n i (json.item d ds) = each_both IsFull (cells_at n d) _ (full n d) (items_full (n + length (cells_at n d)) (i + 1) ds)

  members_full : (n : ℕ) (ms : json.Members) → AllByRecursion IsFull (members_at n ms).1
  members_full n json.no_members = tt
  members_full n (json.member x d ms) = each_both IsFull (cells_at n d) _ (full n d) (members_full (n + length (cells_at n d)) ms)

module _ (m : Sizes) where
  give_read_r : (b : Bool) (v : Value) (cs : List Cell) (ts : List (List ℕ)) (s : State) → R m s → (b ≡ true → AllByRecursion (CellIs (with_more m s (length cs))) cs) → AllByRecursion Hosted cs → AllByRecursion IsFull cs
      → (b ≡ true → ValueIs (with_more m s (length cs)) v) → Keeps m (give_read b v cs ts s)
  give_read_r false v cs ts s hr hc hh hf hv = halted m _ s hr
  give_read_r true v cs ts s hr hc hh hf hv = either m _ _ _ (halted m _ s hr) (paid m _ s (λ u. give v (fold with_new_cell u cs)) hr (λ a u due.
      let n : Sizes = with_more m s (length cs) in
      lowered m n _ (more_grows m s (length cs) hr) (ended n (Is v) (fold with_new_cell (with_counts s a) cs) (all_born m cs (with_counts s a) u (hc refl) hh (all_fit cs a.slots hf (second_part s.own.counts.slots (sum_by (λ c. length c.pairs) cs) a.slots due.more) due.most)) (value_end n v (hv refl)))))

  bytes_read : (t : List ℕ) (d : json.Data) → read_json t ≡ Some d → IsText t → HasStrings SpellsText d
  bytes_read t d e h = subst (OfSome (HasStrings SpellsText)) e
      (read_is SpellsText (Aligned (length t)) (aligned_rest (length t)) found_is (utf8_of t) (whole_aligned (length t) (utf8_of t) (text_whole t h.0 (λ i. scalars-lossy t (unit_at t h.0)))))
    where
      maybe : (o : Option (List ℕ)) → OfContent (length t) o → OfSome SpellsText o
      maybe None k = tt
      maybe (Some u) k = (utf8_units u (k.points, (k.scalars, k.is)), below (length (units_of u)) (length t) (spelled_units (length t) u k) h.1)
        where
          below : (a b : ℕ) → a ≤ b → b < past_numbers → a < past_numbers
          below a b l q = omega (arith, l, q)

      found_is : (x : ℕ) (xs : List ℕ) → x < 128 → Aligned (length t) (x ∷ xs) → OfSome SpellsText (content plain xs)
      found_is x xs l q = maybe (content plain xs) (string_whole (length t) x xs l q)

  pub from_json_r : (v : Value) (s : State) → R m s → ValueIs m v → Keeps m (from_json v s)
  from_json_r (Text t) s hr hv = found m E4 (read_json t) s (λ d. read_value (length t) d (cells_at (length s.own.heap) d) (value_at (length s.own.heap) d) s) hr (λ d e.
      let k : ℕ = length s.own.heap in
      let n : Sizes = with_more m s (length (cells_at k d)) in
      let z : Told n (HasStrings SpellsText d) = told_later m n _ (more_grows m s (length (cells_at k d)) hr) (also m (bytes_read t d e) hv.text) in
      wanted m E8 (list_all (λ c. has_permitted_names c.kind c.pairs) (cells_at k d)) s _ hr (λ x. charged m _ s _ hr (give_read_r (has_numbers d) (value_at k d) (cells_at k d) (texts_in (value_at k d) (cells_at k d)) s hr (λ i. cells_are n k d (self n.objects) z i) (hosted k d) (full k d) (λ i. value_born n k d (self n.objects) z i))))
  from_json_r v s hr hv = search (faulted)
