-- Names by their numbers.
use Rattle.std.proofs.Common.{◌≡◌, ℕ, zero, suc, ◌+◌, ◌-◌, ◌<◌, ◌≤◌, ◌^◌, List, [], ◌∷◌, ◌++◌, length, length-append, refl, sym, ap, ◌∙◌, subst, Option, Some, None, arith, Bool, true, false, true≢false, ◌&&◌, ◌||◌, if◌then◌else◌, nat_lt, slice_get, append_assoc}
use Rattle.std.specs.Prelude.{MatchOption, nat_le}
use Rattle.std.specs.Fmt.{decimal}
use Rattle.std.specs.List.{AllByRecursion, IsDistinct, list_any}
use Rattle.std.specs.Option.{option_and_then}
use Rattle.std.specs.Str.{bytes_eq}
use Rattle.std.proofs.Math.Bool.{or_assoc}
use Rattle.std.proofs.lemmas.Bool.Decides.{nat_tests}
use Rattle.std.proofs.lemmas.Fmt.{decimal_injective}
use Rattle.std.proofs.lemmas.Map.Keys.{any_passes_from_place}
use Rattle.std.proofs.lemmas.Option.{slice_get_within}
use Rattle.std.proofs.lemmas.Slice.Eq.{bytes_eq-Decides}
use Rattle.code_units.specs.Indices.{index_of}
use Rattle.code_units.proofs.Indexed.{index_known, index_only}
use Rattle.keyed_names.specs.Interned.{Interns, IsTable}
use Rattle.property_names.specs.declared.names.TheConstants.{RULED}
use Rattle.property_names.specs.Seen.{AreOthers, below_bound, decimals, first_keys, indices, place_of, ruled_index, ruled_number, seen, shifted}

none_some : {A : Type 0} {a : A} → None ≡ Some a → ⊥
none_some e = cc

-- a list of decimal texts
pub record AreIndices (m : ℕ) (all : List (List ℕ)) : Type 0 where
  pub long : length all ≡ m
  pub at : (i : ℕ) → i < m → slice_get all i ≡ Some (decimal i)
  pub other : (name : List ℕ) → ((i : ℕ) → i < m → decimal i ≡ name → ⊥) → list_any (bytes_eq name) all ≡ false
  pub differ : IsDistinct bytes_eq all

decimals_long : (k m : ℕ) → length (decimals k m) ≡ m
decimals_long k zero = refl
decimals_long k (suc m) = ap suc (decimals_long (suc k) m)

decimals_at : (k m i : ℕ) → i < m → slice_get (decimals k m) i ≡ Some (decimal (k + i))
decimals_at k zero i lt = absurd (omega (arith, lt))
decimals_at k (suc m) zero lt = let same : k ≡ k + 0 = omega arith in ap (λ n. Some (decimal n)) same
decimals_at k (suc m) (suc i) lt = let same : suc k + i ≡ k + suc i = omega arith in decimals_at (suc k) m i (omega (arith, lt)) ∙ ap (λ n. Some (decimal n)) same

decimals_other : (k m : ℕ) (name : List ℕ) → ((i : ℕ) → k ≤ i → i < k + m → decimal i ≡ name → ⊥) → list_any (bytes_eq name) (decimals k m) ≡ false
decimals_other k zero name never = refl
decimals_other k (suc m) name never = by (bytes_eq name (decimal k)) refl (decimals_other (suc k) m name (λ i le lt. never i (omega (arith, le)) (omega (arith, lt))))
  where
    by : (b : Bool) → bytes_eq name (decimal k) ≡ b → list_any (bytes_eq name) (decimals (suc k) m) ≡ false → (b || list_any (bytes_eq name) (decimals (suc k) m)) ≡ false
    by true e rest = absurd (never k (omega arith) (omega arith) (sym ((bytes_eq-Decides name (decimal k)).0 e)))
    by false e rest = rest

apart : (j k m : ℕ) → j < k → k + m ≤ 2 ^ 32 → AllByRecursion (λ y. bytes_eq (decimal j) y ≡ false) (decimals k m)
apart j k zero lt small = tt
apart j k (suc m) lt small = (by (bytes_eq (decimal j) (decimal k)) refl, apart j (suc k) m (omega (arith, lt)) (omega (arith, small)))
  where
    by : (b : Bool) → bytes_eq (decimal j) (decimal k) ≡ b → b ≡ false
    by true e = let same = decimal_injective j k (omega (arith, lt, small)) (omega (arith, small)) ((bytes_eq-Decides (decimal j) (decimal k)).0 e) in absurd (omega (arith, lt, same))
    by false e = refl

decimals_differ : (k m : ℕ) → k + m ≤ 2 ^ 32 → IsDistinct bytes_eq (decimals k m)
unfolding IsDistinct
decimals_differ k zero small = tt
decimals_differ k (suc m) small = (apart k (suc k) m (omega arith) (omega (arith, small)), decimals_differ (suc k) m (omega (arith, small)))

decimals_are : (m : ℕ) → m ≤ 2 ^ 32 → AreIndices m (decimals 0 m)
decimals_are m small = record {
  long = decimals_long 0 m;
  at = λ i lt. let same : 0 + i ≡ i = omega arith in decimals_at 0 m i lt ∙ ap (λ n. Some (decimal n)) same;
  other = λ name never. decimals_other 0 m name (λ i le lt. never i (omega (arith, lt)));
  differ = decimals_differ 0 m (omega (arith, small));
}

pub indices_are : AreIndices RULED indices
unfolding indices
indices_are = decimals_are RULED (omega arith)

-- places in two lists
left : {A : Type 0} (xs ys : List A) (i : ℕ) → i < length xs → slice_get (xs ++ ys) i ≡ slice_get xs i
left [] ys i lt = absurd (omega (arith, lt))
left (x ∷ xs) ys zero lt = refl
left (x ∷ xs) ys (suc i) lt = left xs ys i (omega (arith, lt))

right : {A : Type 0} (xs ys : List A) (i n : ℕ) → n ≡ length xs + i → slice_get (xs ++ ys) n ≡ slice_get ys i
right [] ys i n e = let same : n ≡ i = omega (arith, e) in ap (slice_get ys) same
right (x ∷ xs) ys i zero e = absurd (omega (arith, e))
right (x ∷ xs) ys i (suc n) e = right xs ys i n (omega (arith, e))

any_two : (test : List ℕ → Bool) (xs ys : List (List ℕ)) → list_any test (xs ++ ys) ≡ (list_any test xs || list_any test ys)
any_two test [] ys = refl
any_two test (x ∷ xs) ys = ap (λ b. test x || b) (any_two test xs ys) ∙ sym (or_assoc (test x) (list_any test xs) (list_any test ys))

-- the words
pub long_keys : (keys : List (List ℕ)) → AreOthers keys → 2 ≤ length keys
long_keys keys h = omega (arith, slice_get_within keys 1 _ h.words.1)

pub seen_long : (keys : List (List ℕ)) → 2 ≤ length keys → length (seen keys) ≡ length keys + RULED
seen_long [] two = absurd (omega (arith, two))
seen_long (x ∷ []) two = absurd (omega (arith, two))
seen_long (x ∷ y ∷ rest) two = omega (arith, length-append indices rest, indices_are.long)

pub seen_words : (keys : List (List ℕ)) → AreOthers keys → (slice_get (seen keys) 0 ≡ slice_get keys 0) × (slice_get (seen keys) 1 ≡ slice_get keys 1)
seen_words keys h = by keys (long_keys keys h)
  where
    by : (ks : List (List ℕ)) → 2 ≤ length ks → (slice_get (seen ks) 0 ≡ slice_get ks 0) × (slice_get (seen ks) 1 ≡ slice_get ks 1)
    by [] two = absurd (omega (arith, two))
    by (x ∷ []) two = absurd (omega (arith, two))
    by (x ∷ y ∷ rest) two = (refl, refl)

-- an index
pub seen_index : (keys : List (List ℕ)) (i n : ℕ) → 2 ≤ length keys → i < RULED → n ≡ 2 + i → slice_get (seen keys) n ≡ Some (decimal i)
seen_index [] i n two lt e = absurd (omega (arith, two))
seen_index (x ∷ []) i n two lt e = absurd (omega (arith, two))
seen_index (x ∷ y ∷ rest) i zero two lt e = absurd (omega (arith, e))
seen_index (x ∷ y ∷ rest) i (suc zero) two lt e = absurd (omega (arith, e))
seen_index (x ∷ y ∷ rest) i (suc (suc n)) two lt e =
    let same : n ≡ i = omega (arith, e) in
    ap (slice_get (indices ++ rest)) same ∙ left indices rest i (omega (arith, lt, indices_are.long)) ∙ indices_are.at i lt

-- another name
pub seen_other : (keys : List (List ℕ)) (p : ℕ) → 2 ≤ length keys → slice_get (seen keys) (shifted p) ≡ slice_get keys p
seen_other [] p two = absurd (omega (arith, two))
seen_other (x ∷ []) p two = absurd (omega (arith, two))
seen_other (x ∷ y ∷ rest) zero two = refl
seen_other (x ∷ y ∷ rest) (suc zero) two = refl
seen_other (x ∷ y ∷ rest) (suc (suc p)) two = ap (λ b. slice_get (seen (x ∷ y ∷ rest)) (if b then suc (suc p) else suc (suc p) + RULED)) far ∙ past (p + RULED) (omega arith)
  where
    far : nat_lt (suc (suc p)) 2 ≡ false
    far = grind (arith, nat_tests)

    past : (m : ℕ) → suc (suc p) + RULED ≡ suc (suc m) → slice_get (seen (x ∷ y ∷ rest)) (suc (suc p) + RULED) ≡ slice_get rest p
    past m e = ap (slice_get (seen (x ∷ y ∷ rest))) e ∙ right indices rest p m (omega (arith, e, indices_are.long))

pub shifted_within : (keys : List (List ℕ)) (p : ℕ) → 2 ≤ length keys → p < length keys → shifted p < length (seen keys)
shifted_within keys p two lt = by (nat_lt p 2) refl
  where
    by : (b : Bool) → nat_lt p 2 ≡ b → (if b then p else p + RULED) < length (seen keys)
    by true e = omega (arith, lt, seen_long keys two)
    by false e = omega (arith, lt, seen_long keys two)

-- a name that is none
any_keys : (name : List ℕ) (keys : List (List ℕ)) → 2 ≤ length keys → list_any (bytes_eq name) indices ≡ false → list_any (bytes_eq name) (seen keys) ≡ list_any (bytes_eq name) keys
any_keys name [] two none = absurd (omega (arith, two))
any_keys name (x ∷ []) two none = absurd (omega (arith, two))
any_keys name (x ∷ y ∷ rest) two none = ap (λ b. bytes_eq name x || (bytes_eq name y || b)) (any_two (bytes_eq name) indices rest ∙ ap (λ b. b || list_any (bytes_eq name) rest) none)

no_index : (name : List ℕ) → ruled_index name ≡ None → list_any (bytes_eq name) indices ≡ false
no_index name none = indices_are.other name never
  where
    never : (i : ℕ) → i < RULED → decimal i ≡ name → ⊥
    never i lt is =
        let at : index_of name ≡ Some i = index_only name i (omega (arith, lt)) is in
        let below : nat_lt i RULED ≡ true = grind (arith, nat_tests, lt) in
        none_some (sym none ∙ ap (λ (o : Option ℕ). option_and_then below_bound o) at ∙ ap (λ b. if b then Some i else None) below)

pub seen_none : (name : List ℕ) (keys : List (List ℕ)) → 2 ≤ length keys → ruled_index name ≡ None → list_any (bytes_eq name) (seen keys) ≡ list_any (bytes_eq name) keys
seen_none name keys two none = any_keys name keys two (no_index name none)

-- an index by its name
pub ruled_known : (name : List ℕ) (i : ℕ) → ruled_index name ≡ Some i → (decimal i ≡ name) × (i < RULED)
ruled_known name i = by (index_of name) refl
  where
    test : (j : ℕ) (b : Bool) → nat_lt j RULED ≡ b → index_of name ≡ Some j → (if b then Some j else None) ≡ Some i → (decimal i ≡ name) × (i < RULED)
    test j true e at is =
        let same : j ≡ i = cc in
        (ap decimal (sym same) ∙ (index_known name j at).0, grind (arith, nat_tests, e, same))
    test j false e at is = absurd (none_some is)

    by : (o : Option ℕ) → index_of name ≡ o → option_and_then below_bound o ≡ Some i → (decimal i ≡ name) × (i < RULED)
    by None e is = absurd (none_some is)
    by (Some j) e is = test j (nat_lt j RULED) refl e is

-- all is one table
none_of : (name : List ℕ) (ys : List (List ℕ)) → list_any (bytes_eq name) ys ≡ false → AllByRecursion (λ y. bytes_eq name y ≡ false) ys
none_of name [] e = tt
none_of name (y ∷ ys) e = by (bytes_eq name y) refl e (none_of name ys)
  where
    by : (b : Bool) → bytes_eq name y ≡ b → (b || list_any (bytes_eq name) ys) ≡ false → (list_any (bytes_eq name) ys ≡ false → AllByRecursion (λ y. bytes_eq name y ≡ false) ys) → AllByRecursion (λ y. bytes_eq name y ≡ false) (y ∷ ys)
    by true g f rest = absurd (true≢false f)
    by false g f rest = (g, rest f)

any_of : (name : List ℕ) (ys : List (List ℕ)) → AllByRecursion (λ y. bytes_eq name y ≡ false) ys → list_any (bytes_eq name) ys ≡ false
any_of name [] h = refl
any_of name (y ∷ ys) h = ap (λ b. b || list_any (bytes_eq name) ys) h.0 ∙ any_of name ys h.1

both_distinct : (xs ys : List (List ℕ)) → IsDistinct bytes_eq xs → IsDistinct bytes_eq ys → AllByRecursion (λ x. list_any (bytes_eq x) ys ≡ false) xs → IsDistinct bytes_eq (xs ++ ys)
unfolding IsDistinct
both_distinct [] ys a b h = b
both_distinct (x ∷ xs) ys a b h = (none_of x (xs ++ ys) (any_two (bytes_eq x) xs ys ∙ ap (λ c. c || list_any (bytes_eq x) ys) (any_of x xs a.0) ∙ h.0), both_distinct xs ys a.1 b h.1)

-- an index is none of the others
apart_from : (name : List ℕ) (i : ℕ) → i < RULED → decimal i ≡ name → (keys : List (List ℕ)) → AllByRecursion (λ k. ruled_index k ≡ None) keys → list_any (bytes_eq name) keys ≡ false
apart_from name i lt is [] h = refl
apart_from name i lt is (k ∷ keys) h = by (bytes_eq name k) refl (apart_from name i lt is keys h.1)
  where
    by : (b : Bool) → bytes_eq name k ≡ b → list_any (bytes_eq name) keys ≡ false → (b || list_any (bytes_eq name) keys) ≡ false
    by true e rest =
        let same : name ≡ k = (bytes_eq-Decides name k).0 e in
        let at : index_of k ≡ Some i = index_only k i (omega (arith, lt)) (is ∙ same) in
        let below : nat_lt i RULED ≡ true = grind (arith, nat_tests, lt) in
        absurd (none_some (sym h.0 ∙ ap (λ (o : Option ℕ). option_and_then below_bound o) at ∙ ap (λ b. if b then Some i else None) below))
    by false e rest = rest

all_apart : (keys : List (List ℕ)) → AllByRecursion (λ k. ruled_index k ≡ None) keys → (k m : ℕ) → k + m ≤ RULED → AllByRecursion (λ x. list_any (bytes_eq x) keys ≡ false) (decimals k m)
all_apart keys h k zero small = tt
all_apart keys h k (suc m) small = (apart_from (decimal k) k (omega (arith, small)) refl keys h, all_apart keys h (suc k) m (omega (arith, small)))

indices_apart : (keys : List (List ℕ)) → AllByRecursion (λ k. ruled_index k ≡ None) keys → AllByRecursion (λ x. list_any (bytes_eq x) keys ≡ false) indices
unfolding indices
indices_apart keys h = all_apart keys h 0 RULED (omega arith)

seen_distinct : (keys : List (List ℕ)) → IsDistinct bytes_eq keys → AllByRecursion (λ k. ruled_index k ≡ None) keys → IsDistinct bytes_eq (seen keys)
unfolding IsDistinct
seen_distinct [] d h = d
seen_distinct (x ∷ []) d h = d
seen_distinct (x ∷ y ∷ rest) d h = (
  (d.0.0, none_of x (indices ++ rest) (any_two (bytes_eq x) indices rest ∙ ap (λ b. b || list_any (bytes_eq x) rest) (no_index x h.0) ∙ any_of x rest d.0.1)),
  (none_of y (indices ++ rest) (any_two (bytes_eq y) indices rest ∙ ap (λ b. b || list_any (bytes_eq y) rest) (no_index y h.1.0) ∙ any_of y rest d.1.0), both_distinct indices rest indices_are.differ d.1.1 (indices_apart rest h.1.1)),
)

pub seen_table : (keys : List (List ℕ)) → AreOthers keys → IsTable (seen keys)
seen_table keys h = record {
  distinct = seen_distinct keys h.table.distinct h.others;
  small = omega (arith, seen_long keys (long_keys keys h), h.room);
}

pub table_after : (old new : List (List ℕ)) → new ≡ old → AreOthers old → IsTable (seen new)
table_after old new same h = subst (λ k. IsTable (seen k)) (sym same) (seen_table old h)

-- the first names
first_others : AreOthers first_keys
unfolding IsDistinct
first_others = record {
  table = record { distinct = ((refl, tt), (tt, tt)); small = omega (arith) };
  words = (refl, refl);
  others = (refl, (refl, tt));
  room = omega (arith);
}

pub first_table : (keys : List (List ℕ)) → keys ≡ first_keys → IsTable (seen keys)
first_table keys same = table_after first_keys keys same first_others

-- a name is interned
pub seen_push : (keys : List (List ℕ)) (name : List ℕ) → 2 ≤ length keys → seen (keys ++ name ∷ []) ≡ seen keys ++ name ∷ []
seen_push [] name two = absurd (omega (arith, two))
seen_push (x ∷ []) name two = absurd (omega (arith, two))
seen_push (x ∷ y ∷ rest) name two = ap (λ l. x ∷ y ∷ l) (sym (append_assoc indices rest (name ∷ [])))

-- numbers by rule
pub number_known : (n i : ℕ) → ruled_number n ≡ Some i → (n ≡ 2 + i) × (i < RULED)
number_known n i is = by (nat_le 2 n) refl (nat_lt (n - 2) RULED) refl is
  where
    by : (a : Bool) → nat_le 2 n ≡ a → (b : Bool) → nat_lt (n - 2) RULED ≡ b → (if a && b then Some (n - 2) else None) ≡ Some i → (n ≡ 2 + i) × (i < RULED)
    by true f true g e = let same : n - 2 ≡ i = cc in (grind (arith, nat_tests, f, same), grind (arith, nat_tests, g, same))
    by true f false g e = absurd (none_some e)
    by false f b g e = absurd (none_some e)

past_rule : (n : ℕ) → ruled_number n ≡ None → 2 ≤ n → RULED ≤ n - 2
past_rule n none le = by (nat_le 2 n) refl (nat_lt (n - 2) RULED) refl none
  where
    by : (a : Bool) → nat_le 2 n ≡ a → (b : Bool) → nat_lt (n - 2) RULED ≡ b → (if a && b then Some (n - 2) else None) ≡ None → RULED ≤ n - 2
    by true f true g e = absurd (none_some (sym e))
    by true f false g e = grind (arith, nat_tests, g)
    by false f b g e = absurd (grind (arith, nat_tests, f, le))

same_number : (n : ℕ) → ruled_number n ≡ None → shifted (place_of n) ≡ n
same_number n none = by (nat_lt n 2) refl
  where
    by : (b : Bool) → nat_lt n 2 ≡ b → shifted (if b then n else n - RULED) ≡ n
    by true e = ap (λ c. if c then n else n + RULED) e
    by false e =
        let le : RULED ≤ n - 2 = past_rule n none (grind (arith, nat_tests, e)) in
        let far : nat_lt (n - RULED) 2 ≡ false = grind (arith, nat_tests, le) in
        let back : (n - RULED) + RULED ≡ n = omega (arith, le) in
        ap (λ c. if c then n - RULED else (n - RULED) + RULED) far ∙ back

pub seen_at : (keys : List (List ℕ)) (n : ℕ) → 2 ≤ length keys → ruled_number n ≡ None → slice_get keys (place_of n) ≡ slice_get (seen keys) n
seen_at keys n two none = sym (seen_other keys (place_of n) two) ∙ ap (slice_get (seen keys)) (same_number n none)

-- the index of a name by its number
pub index_at : (keys : List (List ℕ)) (n i : ℕ) → 2 ≤ length keys → ruled_number n ≡ Some i → option_and_then index_of (slice_get (seen keys) n) ≡ Some i
index_at keys n i two is =
    let k = number_known n i is in
    ap (λ (o : Option (List ℕ)). option_and_then index_of o) (seen_index keys i n two k.1 k.0) ∙ index_only (decimal i) i (omega (arith, k.1)) refl

-- the name of an index below the bound
pub ruled_decimal : (i : ℕ) → i < RULED → ruled_index (decimal i) ≡ Some i
ruled_decimal i lt =
    let below : nat_lt i RULED ≡ true = grind (arith, nat_tests, lt) in
    ap (option_and_then below_bound) (index_only (decimal i) i (omega (arith, lt)) refl) ∙ (λ j. if below j then Some i else None)

-- a name and its number
pub number_of_index : (keys all : List (List ℕ)) (name : List ℕ) (i : ℕ) → seen keys ≡ all → AreOthers keys → ruled_index name ≡ Some i → (slice_get all (2 + i) ≡ Some name) × (2 + i < length all)
number_of_index keys all name i view h is =
    let two = long_keys keys h in
    let k = ruled_known name i is in (
      ap (λ l. slice_get l (2 + i)) (sym view) ∙ seen_index keys i (2 + i) two k.1 refl ∙ ap Some k.0,
      omega (arith, two, k.1, seen_long keys two, ap (λ (l : List (List ℕ)). length l) view),
    )

pub number_of_other : (keys all : List (List ℕ)) (name : List ℕ) (p n : ℕ) → seen keys ≡ all → AreOthers keys → n ≡ shifted p → (slice_get keys p ≡ Some name) × (p < length keys) → (slice_get all n ≡ Some name) × (n < length all)
number_of_other keys all name p n view h is at =
    let two = long_keys keys h in (
      ap (λ l. slice_get l n) (sym view) ∙ ap (slice_get (seen keys)) is ∙ seen_other keys p two ∙ at.0,
      subst (λ l. n < length l) view (subst (λ m. m < length (seen keys)) (sym is) (shifted_within keys p two at.1)),
    )

pub number_of_none : (keys all : List (List ℕ)) (name : List ℕ) → seen keys ≡ all → AreOthers keys → ruled_index name ≡ None → list_any (bytes_eq name) keys ≡ false → list_any (bytes_eq name) all ≡ false
number_of_none keys all name view h none absent = ap (λ l. list_any (bytes_eq name) l) (sym view) ∙ seen_none name keys (long_keys keys h) none ∙ absent

pub table_of : (keys all : List (List ℕ)) → seen keys ≡ all → AreOthers keys → IsTable all
table_of keys all view h = subst IsTable view (seen_table keys h)

pub on_none : {P : Type 0} (Q : ℕ → Type 0) (r : Option ℕ) → r ≡ None → P → MatchOption r P Q
on_none Q None e p = p
on_none Q (Some n) e p = absurd (none_some (sym e))

-- a name that is there is interned
pub interns_there : (all : List (List ℕ)) (name : List ℕ) (n : ℕ) → (slice_get all n ≡ Some name) × (n < length all) → Interns all all name n
interns_there all name n at = record {
  table = sym (ap (λ b. if b then all else all ++ name ∷ []) (any_passes_from_place (bytes_eq name) all n name at.0 ((bytes_eq-Decides name name).1 refl)));
  found = at.0;
  within = at.1;
}

-- a new name is interned
all_push : (keys : List (List ℕ)) (name : List ℕ) → AllByRecursion (λ k. ruled_index k ≡ None) keys → ruled_index name ≡ None → AllByRecursion (λ k. ruled_index k ≡ None) (keys ++ name ∷ [])
all_push [] name h none = (none, tt)
all_push (k ∷ keys) name h none = (h.0, all_push keys name h.1 none)

never_true : (b : Bool) → b ≡ true → b ≡ false → ⊥
never_true b e f = true≢false (sym e ∙ f)

absent_ruled : (keys : List (List ℕ)) (name : List ℕ) → AreOthers keys → list_any (bytes_eq name) (seen keys) ≡ false → ruled_index name ≡ None
absent_ruled keys name h absent = by (ruled_index name) refl
  where
    by : (o : Option ℕ) → ruled_index name ≡ o → o ≡ None
    by None e = refl
    by (Some i) e =
        let at = number_of_index keys (seen keys) name i refl h e in
        absurd (never_true (list_any (bytes_eq name) (seen keys)) (any_passes_from_place (bytes_eq name) (seen keys) (2 + i) name at.0 ((bytes_eq-Decides name name).1 refl)) absent)

module _ (keys all new : List (List ℕ)) (name : List ℕ) (p : ℕ) (view : seen keys ≡ all) (h : AreOthers keys) (few : length all < 2 ^ 31) (absent : list_any (bytes_eq name) all ≡ false) (is : Interns keys new name p) where
  abbrev two : 2 ≤ length keys
  two = long_keys keys h

  abbrev none : ruled_index name ≡ None
  none = absent_ruled keys name h (ap (λ l. list_any (bytes_eq name) l) view ∙ absent)

  abbrev unknown : list_any (bytes_eq name) keys ≡ false
  unknown = sym (seen_none name keys two none) ∙ ap (λ l. list_any (bytes_eq name) l) view ∙ absent

  abbrev pushed : new ≡ keys ++ name ∷ []
  pushed = is.table ∙ ap (λ b. if b then keys else keys ++ name ∷ []) unknown

  abbrev longer : length new ≡ length keys + 1
  longer = ap (λ (l : List (List ℕ)). length l) pushed ∙ length-append keys (name ∷ [])

  abbrev all_long : length keys + RULED ≡ length all
  all_long = sym (seen_long keys two) ∙ ap (λ (l : List (List ℕ)). length l) view

  pub new_place : p < RULED
  new_place = omega (arith, is.within, longer, all_long, few)

  pub new_others : IsTable new → AreOthers new
  new_others table = record {
    table = table;
    words = (sym (ap (λ l. slice_get l 0) (sym pushed)) ∙ left keys (name ∷ []) 0 (omega (arith, two)) ∙ h.words.0, sym (ap (λ l. slice_get l 1) (sym pushed)) ∙ left keys (name ∷ []) 1 (omega (arith, two)) ∙ h.words.1);
    others = subst (AllByRecursion (λ k. ruled_index k ≡ None)) (sym pushed) (all_push keys name h.others none);
    room = omega (arith, longer, all_long, few);
  }

  pub new_interns : (n : ℕ) → n ≡ shifted p → IsTable new → Interns all (seen new) name n
  new_interns n shift table =
      let at = number_of_other new (seen new) name p n refl (new_others table) shift (is.found, is.within) in
      record {
        table = ap seen pushed ∙ seen_push keys name two ∙ ap (λ l. l ++ name ∷ []) view ∙ sym (ap (λ b. if b then all else all ++ name ∷ []) absent);
        found = at.0;
        within = at.1;
      }
