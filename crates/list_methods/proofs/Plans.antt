-- What is left of the plans of natives, test by test.
use Rattle.std.proofs.Common.{◌≡◌, ℕ, ℤ, zero, suc, pos, ◌+◌, ◌<◌, ◌≤◌, List, [], ◌∷◌, ◌++◌, length, refl, sym, ap, ◌∙◌, Some, None, Bool, true, false, if◌then◌else◌, take, drop}
use Rattle.std.specs.Prelude.{◌-◌, not, slice_range, ◌||◌}
use Rattle.std.specs.List.{join_by, list_any}
use Rattle.code_units.specs.declared.whole.WholeRead.{WholeRead}
use Rattle.code_units.specs.declared.whole.WholeRead.TheVariants as read
use Rattle.widget_meaning.specs.Limits.{max_length}
use Rattle.widget_meaning.specs.Values.{Value, Undefined, Null, Truth, NaN, Num, Text, Own, Host, E4, E7, Number, is_object, nth, to_number}
use Rattle.widget_meaning.specs.OwnState.{State}
use Rattle.widget_meaning.specs.Plan.{Halt, Plan, charge}
use Rattle.widget_meaning.specs.Costs.{give, throw}
use Rattle.widget_meaning.specs.Properties.{is_own_function}
use Rattle.widget_meaning.specs.NativeForms.{clamped, elements, from_end, give_text, make_array, with_number, with_number_or, with_optional}
use Rattle.widget_meaning.specs.ListChanges.{change, list_extra, pop, sorted, splice_count, spliced, unshift, without_order}
use Rattle.widget_meaning.specs.ListNatives.{call_each, join, joined_text, list_slice, over, separator}
use Rattle.native_common.specs.Numbers.{number_or, optional_number}
use Rattle.native_common.proofs.Loops.{over_no, over_yes}
use Rattle.list_methods.specs.Parts.{many_taken, popped}
use Rattle.list_methods.specs.Sorting.{has_order}

none_some : {A : Type 0} {a : A} → None ≡ Some a → ⊥
none_some h = cc

some_same : {A : Type 0} (a b : A) → Some a ≡ Some b → a ≡ b
some_same a b e = cc

false_true : false ≡ true → ⊥
false_true h = cc

-- a condition that is not met, and one that is
refused : (b : Bool) (p q : Plan) → b ≡ true → (if not b then p else q) ≡ q
refused b p q h = ap (λ c. if not c then p else q) h

agreed : (b : Bool) (p q : Plan) → b ≡ false → (if not b then p else q) ≡ p
agreed b p q h = ap (λ c. if not c then p else q) h

-- an object at the front, or none there
any_first : (x : Value) (xs : List Value) → is_object x ≡ true → list_any is_object (x ∷ xs) ≡ true
any_first x xs h = ap (λ b. b || list_any is_object xs) h

any_rest : (x : Value) (xs : List Value) → is_object x ≡ false → list_any is_object (x ∷ xs) ≡ list_any is_object xs
any_rest x xs h = ap (λ b. b || list_any is_object xs) h

module _ (extra : ℕ) (s : State) (k : ℤ → Plan) where
  abbrev leaving : Plan
  leaving = charge extra s (Halt Number s)

  numbered : (z x : ℤ) (r : WholeRead) → number_or z r ≡ Some x → with_number_or z r extra s k ≡ k x
  numbered z x (read.Whole y) h = ap k (some_same y x h)
  numbered z x read.NotNumber h = ap k (some_same z x h)
  numbered z x read.Left h = absurd (none_some h)

  unnumbered : (z : ℤ) (r : WholeRead) → number_or z r ≡ None → with_number_or z r extra s k ≡ leaving
  unnumbered z (read.Whole y) h = absurd (none_some (sym h))
  unnumbered z read.NotNumber h = absurd (none_some (sym h))
  unnumbered z read.Left h = refl

  optional : (z y : ℤ) (v : Value) → optional_number z v ≡ Some y → with_optional z v extra s k ≡ k y
  optional z y Undefined h = ap k (some_same z y h)
  optional z y Null h = numbered (pos 0) y (to_number Null) h
  optional z y (Truth b) h = numbered (pos 0) y (to_number (Truth b)) h
  optional z y NaN h = numbered (pos 0) y (to_number NaN) h
  optional z y (Num x) h = numbered (pos 0) y (to_number (Num x)) h
  optional z y (Text t) h = numbered (pos 0) y (to_number (Text t)) h
  optional z y (Own n) h = numbered (pos 0) y (to_number (Own n)) h
  optional z y (Host e) h = numbered (pos 0) y (to_number (Host e)) h

  no_optional : (z : ℤ) (v : Value) → optional_number z v ≡ None → with_optional z v extra s k ≡ leaving
  no_optional z Undefined h = absurd (none_some (sym h))
  no_optional z Null h = unnumbered (pos 0) (to_number Null) h
  no_optional z (Truth b) h = unnumbered (pos 0) (to_number (Truth b)) h
  no_optional z NaN h = unnumbered (pos 0) (to_number NaN) h
  no_optional z (Num x) h = unnumbered (pos 0) (to_number (Num x)) h
  no_optional z (Text t) h = unnumbered (pos 0) (to_number (Text t)) h
  no_optional z (Own n) h = unnumbered (pos 0) (to_number (Own n)) h
  no_optional z (Host e) h = unnumbered (pos 0) (to_number (Host e)) h

  counted_out : (len : ℕ) (c : ℤ) (vs : List Value) → many_taken len vs ≡ Some c → splice_count len vs extra s k ≡ k c
  counted_out len c [] h = ap k (some_same (pos len) c h)
  counted_out len c (v ∷ vs) h = numbered (pos 0) c (to_number v) h

  not_counted : (len : ℕ) (vs : List Value) → many_taken len vs ≡ None → splice_count len vs extra s k ≡ leaving
  not_counted len [] h = absurd (none_some (sym h))
  not_counted len (v ∷ vs) h = unnumbered (pos 0) (to_number v) h

module _ (n len : ℕ) (s : State) where
  abbrev all : List Value
  all = elements s n len

  -- `join`
  module _ (x : Value) (extra : ℕ) where
    abbrev joining : Plan
    joining = give_text extra (join_by joined_text (separator x) all) s

    pub join_between : is_object x ≡ true → join n len x extra s ≡ throw E4 s
    join_between h = refused (list_any is_object (x ∷ all)) joining (throw E4 s) (any_first x all h)

    pub join_object : is_object x ≡ false → list_any is_object all ≡ true → join n len x extra s ≡ throw E4 s
    join_object h g = refused (list_any is_object (x ∷ all)) joining (throw E4 s) (any_rest x all h ∙ g)

    pub join_is : is_object x ≡ false → list_any is_object all ≡ false → join n len x extra s ≡ joining
    join_is h g = agreed (list_any is_object (x ∷ all)) joining (throw E4 s) (any_rest x all h ∙ g)

  -- `slice`
  module _ (a b : Value) (extra : ℕ) where
    abbrev between : ℤ → ℤ → Plan
    between x y = charge extra s (make_array (slice_range all (from_end len x) (from_end len y)) 0 s give)

    abbrev second : ℤ → Plan
    second x = with_optional (pos len) b extra s (between x)

    abbrev first : Plan
    first = with_number (to_number a) extra s second

    pub slice_object : list_any is_object (a ∷ b ∷ []) ≡ true → list_slice n len a b extra s ≡ throw E4 s
    slice_object h = refused (list_any is_object (a ∷ b ∷ [])) first (throw E4 s) h

    module _ (h : list_any is_object (a ∷ b ∷ []) ≡ false) where
      judged : list_slice n len a b extra s ≡ first
      judged = agreed (list_any is_object (a ∷ b ∷ [])) first (throw E4 s) h

      pub slice_leaves : number_or (pos 0) (to_number a) ≡ None → list_slice n len a b extra s ≡ charge extra s (Halt Number s)
      slice_leaves e = judged ∙ unnumbered extra s second (pos 0) (to_number a) e

      module _ (x : ℤ) (e : number_or (pos 0) (to_number a) ≡ Some x) where
        pub slice_end_leaves : optional_number (pos len) b ≡ None → list_slice n len a b extra s ≡ charge extra s (Halt Number s)
        slice_end_leaves g = judged ∙ numbered extra s second (pos 0) x (to_number a) e ∙ no_optional extra s (between x) (pos len) b g

        pub slice_is : (y : ℤ) → optional_number (pos len) b ≡ Some y → list_slice n len a b extra s ≡ between x y
        slice_is y g = judged ∙ numbered extra s second (pos 0) x (to_number a) e ∙ optional extra s (between x) (pos len) y b g

  -- `forEach`, `map` and `filter`
  module _ (f : Value) (d : ℕ) (k : List Value → State → Plan) where
    abbrev calls : Plan
    calls = charge len s (call_each f all 0 [] d s k)

    pub over_none : is_own_function s f ≡ false → over n len f d s k ≡ throw E4 s
    over_none h = ap (λ b. if b then calls else throw E4 s) h

    pub over_is : is_own_function s f ≡ true → over n len f d s k ≡ calls
    over_is h = ap (λ b. if b then calls else throw E4 s) h

  -- `unshift`
  module _ (vs : List Value) where
    abbrev fronted : Plan
    fronted = charge (list_extra len vs s) s (change n (vs ++ all) (Num (pos (len + length vs))) s)

    pub unshift_throws : max_length < len + length vs → unshift n len vs s ≡ throw E7 s
    unshift_throws h = ap (λ b. if b then throw E7 s else fronted) (over_yes max_length (len + length vs) h)

    pub unshift_is : len + length vs ≤ max_length → unshift n len vs s ≡ fronted
    unshift_is h = ap (λ b. if b then throw E7 s else fronted) (over_no max_length (len + length vs) h)

  -- `sort`
  module _ (vs : List Value) (extra : ℕ) where
    abbrev sorting : Plan
    sorting = charge extra s (change n (sorted all) (Own n) s)

    ordered : (v : Value) (p : Plan) → has_order v ≡ true → without_order v s p ≡ throw E4 s
    ordered Undefined p h = absurd (false_true h)
    ordered Null p h = refl
    ordered (Truth b) p h = refl
    ordered NaN p h = refl
    ordered (Num x) p h = refl
    ordered (Text t) p h = refl
    ordered (Own m) p h = refl
    ordered (Host e) p h = refl

    unordered : (v : Value) (p : Plan) → has_order v ≡ false → without_order v s p ≡ p
    unordered Undefined p h = refl
    unordered Null p h = absurd (false_true (sym h))
    unordered (Truth b) p h = absurd (false_true (sym h))
    unordered NaN p h = absurd (false_true (sym h))
    unordered (Num x) p h = absurd (false_true (sym h))
    unordered (Text t) p h = absurd (false_true (sym h))
    unordered (Own m) p h = absurd (false_true (sym h))
    unordered (Host e) p h = absurd (false_true (sym h))

    abbrev judging : Plan
    judging = if not (list_any is_object all) then sorting else throw E4 s

    pub sort_order : has_order (nth 0 vs) ≡ true → without_order (nth 0 vs) s judging ≡ throw E4 s
    sort_order h = ordered (nth 0 vs) judging h

    pub sort_object : has_order (nth 0 vs) ≡ false → list_any is_object all ≡ true → without_order (nth 0 vs) s judging ≡ throw E4 s
    sort_object h g = unordered (nth 0 vs) judging h ∙ refused (list_any is_object all) sorting (throw E4 s) g

    pub sort_is : has_order (nth 0 vs) ≡ false → list_any is_object all ≡ false → without_order (nth 0 vs) s judging ≡ sorting
    sort_is h g = unordered (nth 0 vs) judging h ∙ agreed (list_any is_object all) sorting (throw E4 s) g

  -- `splice`
  module _ (vs : List Value) (extra : ℕ) where
    abbrev taking : ℤ → ℤ → Plan
    taking a c = charge extra s (spliced n all (from_end len a) (clamped (len - from_end len a) c) (drop 2 vs) s)

    abbrev counting : ℤ → Plan
    counting a = splice_count len (drop 1 vs) extra s (taking a)

    abbrev placing : Plan
    placing = with_number (to_number (nth 0 vs)) extra s counting

    abbrev splicing : Plan
    splicing = if not (list_any is_object (take 2 vs)) then placing else throw E4 s

    pub splice_object : list_any is_object (take 2 vs) ≡ true → splicing ≡ throw E4 s
    splice_object h = refused (list_any is_object (take 2 vs)) placing (throw E4 s) h

    module _ (h : list_any is_object (take 2 vs) ≡ false) where
      placed : splicing ≡ placing
      placed = agreed (list_any is_object (take 2 vs)) placing (throw E4 s) h

      pub splice_leaves : number_or (pos 0) (to_number (nth 0 vs)) ≡ None → splicing ≡ charge extra s (Halt Number s)
      splice_leaves e = placed ∙ unnumbered extra s counting (pos 0) (to_number (nth 0 vs)) e

      module _ (a : ℤ) (e : number_or (pos 0) (to_number (nth 0 vs)) ≡ Some a) where
        pub splice_count_leaves : many_taken len (drop 1 vs) ≡ None → splicing ≡ charge extra s (Halt Number s)
        splice_count_leaves g = placed ∙ numbered extra s counting (pos 0) a (to_number (nth 0 vs)) e ∙ not_counted extra s (taking a) len (drop 1 vs) g

        pub splice_is : (c : ℤ) → many_taken len (drop 1 vs) ≡ Some c → splicing ≡ taking a c
        splice_is c g = placed ∙ numbered extra s counting (pos 0) a (to_number (nth 0 vs)) e ∙ counted_out extra s (taking a) len c (drop 1 vs) g

-- `pop`
pub pop_is : (n len : ℕ) (vs : List Value) (s : State) → pop n len vs s ≡ charge (length vs) s (popped n len s)
pop_is n zero vs s = refl
pop_is n (suc len) vs s = refl
