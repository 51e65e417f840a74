-- Inline styles are texts: their properties are listed, and their values are of ASCII.
use Rattle.std.proofs.Common.{◌≡◌, ℕ, ◌<◌, List, [], ◌∷◌, ◌++◌, Bool, true, false, refl, sym, subst, arith, map, ltb-true}
use Rattle.std.specs.Prelude.{Option, Some, None, if◌then◌else◌, codes, nat_lt, nat_le, nat_eq, length, ◌==◌, ◌||◌, not}
use Rattle.std.specs.List.{AllByRecursion, list_all, list_any}
use Rattle.std.specs.Str.{bytes_eq, byte}
use Rattle.std.specs.Int.{is_in_range}
use Rattle.std.proofs.lemmas.Bool.{and_parts, leb-true, eqb-true}
use Rattle.std.proofs.lemmas.Slice.Eq.{bytes_eq-Decides}
use Rattle.style_text.specs.Styles.{Pair, is_pair, is_listed, is_value, is_value_unit, is_used, properties, print_pair, print_style}
use Rattle.style_text.proofs.Exact.{style_spelled}
use Rattle.style_text.proofs.Values.{value_parts}
use Rattle.widget_meaning.specs.Limits.{past_units}
use Rattle.widget_meaning.specs.Styles.{style_of, pairs_or_none, style_pairs, style_value, without_property, with_property}
use Rattle.widget_meaning.proofs.TextsHold.{style_laws}
use Rattle.meaning_laws.specs.Texts.{AreUnits}
use Rattle.meaning_laws.proofs.Each.{each_both, each_filtered, each_mapped}
use Rattle.meaning_laws.proofs.Units.{has_units, units_tested, both_units}

-- a property and its value
abbrev pub PairHasTexts : Pair → Type 0
PairHasTexts q = AreUnits q.0 × AreUnits q.1

-- ## By the tests

low_number : (u v : ℕ) → nat_lt v past_units ≡ true → (u == v) ≡ true → u < past_units
low_number u v l e = subst (λ x. x < past_units) (sym (eqb-true u v e)) (ltb-true v past_units l)

low_range : (u lo hi : ℕ) → nat_lt hi past_units ≡ true → is_in_range lo hi u ≡ true → u < past_units
low_range u lo hi l e = let p = and_parts (nat_le lo u) (nat_le u hi) e in omega (arith, leb-true u hi p.1, ltb-true hi past_units l)

either_low : (u : ℕ) (a b : Bool) → (a ≡ true → u < past_units) → (b ≡ true → u < past_units) → (a || b) ≡ true → u < past_units
either_low u true b f g e = f refl
either_low u false b f g e = g e

unit_low : (u : ℕ) → is_value_unit u ≡ true → u < past_units
unit_low u e =
    either_low u _ _ (either_low u _ _ (either_low u _ _ (either_low u _ _ (either_low u _ _ (either_low u _ _ (either_low u _ _ (either_low u _ _ (either_low u _ _
    (either_low u _ _ (either_low u _ _ (either_low u _ _ (low_range u 97 122 refl) (low_range u 65 90 refl)) (low_range u 48 57 refl)) (low_number u 32 refl))
    (low_number u (byte "#") refl)) (low_number u (byte "%") refl)) (low_number u (byte ".") refl)) (low_number u (byte ",") refl))
    (low_number u (byte "-") refl)) (low_number u (byte "!") refl)) (low_number u (byte "(") refl)) (low_number u (byte ")") refl)) (low_number u (byte "'") refl) e

units_low : (us : List ℕ) → list_all is_value_unit us ≡ true → AreUnits us
units_low [] e = tt
units_low (u ∷ us) e = let p = and_parts (is_value_unit u) (list_all is_value_unit us) e in (unit_low u p.0, units_low us p.1)

among_texts : (x : List ℕ) (ys : List (List ℕ)) → list_all has_units ys ≡ true → list_any (bytes_eq x) ys ≡ true → AreUnits x
among_texts x [] h e = absurd (no e)
  where
    no : false ≡ true → ⊥
    no i = cc
among_texts x (y ∷ ys) h e = let p = and_parts (has_units y) (list_all has_units ys) h in by (bytes_eq x y) refl e (among_texts x ys p.1) p.0
  where
    by : (b : Bool) → bytes_eq x y ≡ b → (b || list_any (bytes_eq x) ys) ≡ true → (list_any (bytes_eq x) ys ≡ true → AreUnits x) → has_units y ≡ true → AreUnits x
    by true i j f q = subst AreUnits (sym ((bytes_eq-Decides x y).0 i)) (units_tested y q)
    by false i j f q = f j

listed_is : (x : List ℕ) → is_listed x ≡ true → AreUnits x
unfolding is_listed properties
listed_is x e = among_texts x properties refl e

pair_is : (q : Pair) → is_pair q ≡ true → PairHasTexts q
pair_is q e = let p = and_parts (is_listed q.0) (is_value q.1) e in (listed_is q.0 p.0, units_low q.1 (value_parts q.1 p.1).units)

pairs_are : (qs : List Pair) → list_all is_pair qs ≡ true → AllByRecursion PairHasTexts qs
pairs_are [] e = tt
pairs_are (q ∷ qs) e = let p = and_parts (is_pair q) (list_all is_pair qs) e in (pair_is q p.0, pairs_are qs p.1)

-- ## What a style reads and prints

read_pairs : (t : List ℕ) (o : Option (List Pair)) → style_of t ≡ o → AllByRecursion PairHasTexts (pairs_or_none o)
read_pairs t None e = tt
read_pairs t (Some qs) e = pairs_are qs (style_spelled t qs ((style_laws t qs).spelled e)).0

pub style_pairs_are : (t : List ℕ) → AllByRecursion PairHasTexts (style_pairs t)
style_pairs_are t = read_pairs t (style_of t) refl

pub style_value_is : (qs : List Pair) (p : List ℕ) → AllByRecursion PairHasTexts qs → AreUnits (style_value qs p)
style_value_is [] p h = tt
style_value_is (q ∷ qs) p h = by (bytes_eq q.0 p) (style_value_is qs p h.1)
  where
    by : (b : Bool) → AreUnits (style_value qs p) → AreUnits (if b then q.1 else style_value qs p)
    by true i = h.0.1
    by false i = i

set_pair : (p v : List ℕ) → AreUnits p → AreUnits v → (q : Pair) → PairHasTexts q → PairHasTexts (if bytes_eq q.0 p then (p, v) else q)
set_pair p v hp hv q h = by (bytes_eq q.0 p)
  where
    by : (b : Bool) → PairHasTexts (if b then (p, v) else q)
    by true = (hp, hv)
    by false = h

pub property_set : (qs : List Pair) (p v : List ℕ) → AllByRecursion PairHasTexts qs → AreUnits p → AreUnits v → AllByRecursion PairHasTexts (with_property qs p v)
property_set qs p v h hp hv = by (nat_eq (length v) 0) (is_used qs p)
  where
    by : (b c : Bool) → AllByRecursion PairHasTexts (if b then without_property qs p else if c then map (λ q. if bytes_eq q.0 p then (p, v) else q) qs else qs ++ (p, v) ∷ [])
    by true c = each_filtered {A = Pair} PairHasTexts (λ q. not (bytes_eq q.0 p)) qs h
    by false true = each_mapped {A = Pair} {B = Pair} PairHasTexts PairHasTexts (λ q. if bytes_eq q.0 p then (p, v) else q) (set_pair p v hp hv) qs h
    by false false = each_both {A = Pair} PairHasTexts qs ((p, v) ∷ []) h ((hp, hv), tt)

one_printed : (q : Pair) → PairHasTexts q → AreUnits (print_pair q)
one_printed q h = both_units (q.0 ++ codes ": ") q.1 (both_units q.0 (codes ": ") h.0 (units_tested (codes ": ") refl)) h.1

pub print_is : (qs : List Pair) → AllByRecursion PairHasTexts qs → AreUnits (print_style qs)
unfolding print_style
print_is [] h = tt
print_is (q ∷ []) h = one_printed q h.0
print_is (q ∷ r ∷ qs) h = both_units (print_pair q ++ codes "; ") (print_style (r ∷ qs)) (both_units (print_pair q) (codes "; ") (one_printed q h.0) (units_tested (codes "; ") refl)) (print_is (r ∷ qs) h.1)
