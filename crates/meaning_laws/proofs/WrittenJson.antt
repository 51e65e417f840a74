-- What is written as JSON is a text.
use Rattle.std.proofs.Common.{ℕ, zero, suc, ◌+◌, List, [], ◌∷◌, ◌++◌, Bool, true, false, refl}
use Rattle.std.specs.Prelude.{Option, Some, None, codes, nat_lt, length, if◌then◌else◌, ⊤}
use Rattle.std.specs.List.{AllByRecursion, filter}
use Rattle.std.specs.Str.{bytes_eq}
use Rattle.code_units.specs.Permitted.{is_permitted}
use Rattle.widget_meaning.specs.Limits.{max_text}
use Rattle.widget_meaning.specs.Values.{Value, Undefined, Null, Truth, NaN, Num, Text, Own, Host}
use Rattle.widget_meaning.specs.OwnState.{State, Kind, Object, Array, Function, Bunch, Pairs, lookup, cell_at}
use Rattle.widget_meaning.specs.Properties.{index_name}
use Rattle.widget_meaning.specs.JsonTexts.{Written, Wrote, NoJson, TooLong, Writer, write, and_write, quoted_text, element_text, elements_text, members_text, cell_text, value_text}
use Rattle.meaning_laws.specs.Texts.{AreUnits, IsText, IsOrdinaryValue}
use Rattle.meaning_laws.proofs.Each.{each_filtered}
use Rattle.meaning_laws.proofs.Units.{units_tested, both_units, to_text_is}
use Rattle.meaning_laws.proofs.Spelled.{quoted_is}

-- names and values
abbrev pub PairHasTexts : List ℕ × Value → Type 0
PairHasTexts p = IsText p.0 × IsOrdinaryValue p.1

-- what was written so far
abbrev pub OfWritten : Written → Type 0
OfWritten (Wrote t) = AreUnits t
OfWritten NoJson = ⊤
OfWritten TooLong = ⊤

abbrev MaybeOrdinary : Option Value → Type 0
MaybeOrdinary None = ⊤
MaybeOrdinary (Some v) = IsOrdinaryValue v

written_is : (t more : List ℕ) → AreUnits t → AreUnits more → OfWritten (write t more)
written_is t more h k = by (nat_lt max_text (length t + length more))
  where
    by : (b : Bool) → OfWritten (if b then TooLong else Wrote (t ++ more))
    by true = tt
    by false = both_units t more h k

then_is : (w : Written) (k : List ℕ → Written) → OfWritten w → ((t : List ℕ) → AreUnits t → OfWritten (k t)) → OfWritten (and_write w k)
then_is (Wrote t) k h f = f t h
then_is NoJson k h f = tt
then_is TooLong k h f = tt

value_in : (ps : Pairs) (x : List ℕ) → AllByRecursion PairHasTexts ps → MaybeOrdinary (lookup ps x)
value_in [] x h = tt
value_in (p ∷ ps) x h = by (bytes_eq x p.0) (value_in ps x h.1)
  where
    by : (b : Bool) → MaybeOrdinary (lookup ps x) → MaybeOrdinary (if b then Some p.1 else lookup ps x)
    by true i = h.0.1
    by false i = i

module _ (value : Writer) (good : (v : Value) (t : List ℕ) → IsOrdinaryValue v → AreUnits t → OfWritten (value v t)) where
  element_is : (o : Option Value) (t : List ℕ) → MaybeOrdinary o → AreUnits t → OfWritten (element_text value o t)
  element_is None t h k = tt
  element_is (Some v) t h k = good v t h k

  elements_is : (ps : Pairs) (before : List ℕ) (i n : ℕ) (t : List ℕ) → AllByRecursion PairHasTexts ps → AreUnits before → AreUnits t → OfWritten (elements_text value ps before i n t)
  elements_is ps before i zero t h b k = written_is t (codes "]") k (units_tested (codes "]") refl)
  elements_is ps before i (suc n) t h b k =
      then_is (write t before) _ (written_is t before k b) (λ u q. then_is (element_text value (lookup ps (index_name i)) u) _ (element_is (lookup ps (index_name i)) u (value_in ps (index_name i) h) q)
      (λ w r. elements_is ps (codes ",") (i + 1) n w h (units_tested (codes ",") refl) r))

  members_is : (before : List ℕ) (ps : Pairs) (t : List ℕ) → AllByRecursion PairHasTexts ps → AreUnits before → AreUnits t → OfWritten (members_text value before ps t)
  members_is before [] t h b k = written_is t (codes "}") k (units_tested (codes "}") refl)
  members_is before (p ∷ ps) t h b k =
      then_is (write t (before ++ (quoted_text p.0 ++ codes ":"))) _
      (written_is t _ k (both_units before _ b (both_units (quoted_text p.0) (codes ":") (quoted_is p.0 h.0.0.0) (units_tested (codes ":") refl))))
      (λ u q. then_is (value p.1 u) _ (good p.1 u h.0.1 q) (λ w r. members_is (codes ",") ps w h.1 (units_tested (codes ",") refl) r))

  cell_is : (k : Kind) (ps : Pairs) (t : List ℕ) → AllByRecursion PairHasTexts ps → AreUnits t → OfWritten (cell_text value k ps t)
  cell_is Object ps t h k = then_is (write t (codes "{")) _ (written_is t (codes "{") k (units_tested (codes "{") refl))
      (λ u q. members_is [] (filter (λ p. is_permitted p.0) ps) u (each_filtered {A = List ℕ × Value} PairHasTexts (λ p. is_permitted p.0) ps h) tt q)
  cell_is (Array len) ps t h k = then_is (write t (codes "[")) _ (written_is t (codes "[") k (units_tested (codes "[") refl)) (λ u q. elements_is ps [] 0 len u h tt q)
  cell_is (Function f o) ps t h k = tt
  cell_is (Bunch ns) ps t h k = tt

module _ (s : State) (heap : (n : ℕ) → AllByRecursion PairHasTexts (cell_at s n).pairs) where
  pub value_text_is : (m : ℕ) (v : Value) (t : List ℕ) → IsOrdinaryValue v → AreUnits t → OfWritten (value_text m s v t)
  value_text_is zero Undefined t h k = tt
  value_text_is zero Null t h k = written_is t (codes "null") k (units_tested (codes "null") refl)
  value_text_is zero (Truth b) t h k = written_is t _ k (to_text_is (Truth b) tt).0
  value_text_is zero NaN t h k = tt
  value_text_is zero (Num z) t h k = written_is t _ k (to_text_is (Num z) h).0
  value_text_is zero (Text u) t h k = written_is t (quoted_text u) k (quoted_is u h.0)
  value_text_is zero (Own n) t h k = tt
  value_text_is zero (Host e) t h k = tt
  value_text_is (suc m) Undefined t h k = tt
  value_text_is (suc m) Null t h k = written_is t (codes "null") k (units_tested (codes "null") refl)
  value_text_is (suc m) (Truth b) t h k = written_is t _ k (to_text_is (Truth b) tt).0
  value_text_is (suc m) NaN t h k = tt
  value_text_is (suc m) (Num z) t h k = written_is t _ k (to_text_is (Num z) h).0
  value_text_is (suc m) (Text u) t h k = written_is t (quoted_text u) k (quoted_is u h.0)
  value_text_is (suc m) (Own n) t h k = cell_is (value_text m s) (value_text_is m) (cell_at s n).kind (cell_at s n).pairs t (heap n) k
  value_text_is (suc m) (Host e) t h k = tt
