-- How a value grows by a unit.
use Rattle.std.proofs.Common.{◌≡◌, ◌≢◌, ℕ, suc, ◌-◌, ◌<◌, List, [], ◌∷◌, ◌++◌, Bool, true, false, ◌&&◌, ◌||◌, not, refl, ap, sym, ◌∙◌, subst, length, arith, codes, inl, inr, ◌⊎◌, length-append}
use Rattle.std.specs.Prelude.{nat_le, nat_lt, ◌==◌, slice_index}
use Rattle.std.specs.Str.{byte}
use Rattle.std.specs.List.{list_all}
use Rattle.std.proofs.lemmas.List.Folds.{list_all-append}
use Rattle.std.proofs.lemmas.Bool.Decides.{nat_tests}
use Rattle.style_text.specs.declared.value.TheConstants.{LONGEST_VALUE}
use Rattle.style_text.specs.Styles.{is_value, is_blank, is_value_unit, has_word}
use Rattle.style_text.specs.Values.{is_open, extends, ends_in_word}
use Rattle.style_text.proofs.Words.{and_parts, not_true, or_split, has_word_last, no_word_before, word_space}

-- ## The parts of the test

pub record ValueParts (us : List ℕ) : Type 0 where
  pub some : nat_lt 0 (length us) ≡ true
  pub short : nat_le (length us) LONGEST_VALUE ≡ true
  pub units : list_all is_value_unit us ≡ true
  pub start : (slice_index us 0 == 32) ≡ false
  pub end : (slice_index us (length us - 1) == 32) ≡ false
  pub no_url : has_word (codes "url") us ≡ false
  pub no_expression : has_word (codes "expression") us ≡ false

neither : (a b : Bool) → not (a || b) ≡ true → (a ≡ false) × (b ≡ false)
neither true b e = cc
neither false b e = (refl, not_true b e)

pub value_parts : (us : List ℕ) → is_value us ≡ true → ValueParts us
unfolding is_value
value_parts us h =
    let a = and_parts _ _ h in
    let b = and_parts _ _ (a.0) in
    let c = and_parts _ _ (b.0) in
    let d = and_parts _ _ (c.0) in
    let e = and_parts _ _ (d.0) in
    let words = neither _ _ (a.1) in
    record {
      some = e.0;
      short = e.1;
      units = d.1;
      start = not_true _ (c.1);
      end = not_true _ (b.1);
      no_url = words.0;
      no_expression = words.1;
    }

pub value_made : (us : List ℕ) → ValueParts us → is_value us ≡ true
unfolding is_value
value_made us p = rw (p.some, p.short, p.units, p.start, p.end, p.no_url, p.no_expression) refl

pub record OpenParts (us : List ℕ) : Type 0 where
  pub units : list_all is_value_unit us ≡ true
  pub start : (slice_index us 0 == 32) ≡ false
  pub no_url : has_word (codes "url") us ≡ false
  pub no_expression : has_word (codes "expression") us ≡ false

pub open_parts : (us : List ℕ) → is_open us ≡ true → OpenParts us
unfolding is_open
open_parts us h =
    let a = and_parts _ _ h in
    let b = and_parts _ _ (a.0) in
    let words = neither _ _ (a.1) in
    record { units = b.0; start = not_true _ (b.1); no_url = words.0; no_expression = words.1 }

pub open_made : (us : List ℕ) → OpenParts us → is_open us ≡ true
unfolding is_open
open_made us p = rw (p.units, p.start, p.no_url, p.no_expression) refl

-- nothing is open
pub open_none : is_open [] ≡ true
unfolding is_open
open_none = refl

pub value_open : (us : List ℕ) → is_value us ≡ true → is_open us ≡ true
value_open us h = let p = value_parts us h in open_made us (record { units = p.units; start = p.start; no_url = p.no_url; no_expression = p.no_expression })

-- ## One more unit

length_more : (us : List ℕ) (u : ℕ) → length (us ++ u ∷ []) ≡ suc (length us)
length_more [] u = refl
length_more (v ∷ us) u = ap suc (length_more us u)

last_unit : (us : List ℕ) (u : ℕ) → slice_index (us ++ u ∷ []) (length us) ≡ u
last_unit [] u = refl
last_unit (v ∷ us) u = last_unit us u

last_at : (us : List ℕ) (u : ℕ) → slice_index (us ++ u ∷ []) (length (us ++ u ∷ []) - 1) ≡ u
last_at us u = let n : length (us ++ u ∷ []) - 1 ≡ length us = omega (arith, length_more us u) in rw n (last_unit us u)

some_more : (us : List ℕ) (u : ℕ) → nat_lt 0 (length (us ++ u ∷ [])) ≡ true
some_more us u = grind (arith, nat_tests, length_more)

all_more : (us : List ℕ) (u : ℕ) → list_all is_value_unit us ≡ true → list_all is_value_unit (us ++ u ∷ []) ≡ is_value_unit u
all_more us u h = list_all-append is_value_unit us (u ∷ []) ∙ rw h (and_true (is_value_unit u))
  where
    and_true : (b : Bool) → (b && true) ≡ b
    and_true true = refl
    and_true false = refl

word_more : (word us : List ℕ) (u : ℕ) → has_word word us ≡ false → has_word word (us ++ u ∷ []) ≡ ends_in_word word (us ++ u ∷ [])
word_more word us u h = has_word_last word us u ∙ rw h refl

-- the same tests in another order; the first unit is the last, or none is a space there
same_order : (b u e x y : Bool) → (true && b && u && not e && not e && not (x || y)) ≡ (u && not e && b && not x && not y)
same_order true true true x y = refl
same_order true true false true true = refl
same_order true true false true false = refl
same_order true true false false true = refl
same_order true true false false false = refl
same_order true false true x y = refl
same_order true false false x y = refl
same_order false true true x y = refl
same_order false true false x y = refl
same_order false false true x y = refl
same_order false false false x y = refl

none_order : (b u e x y : Bool) → (true && b && u && true && not e && not (x || y)) ≡ (u && not e && b && not x && not y)
none_order true true true x y = refl
none_order true true false true true = refl
none_order true true false true false = refl
none_order true true false false true = refl
none_order true true false false false = refl
none_order true false true x y = refl
none_order true false false x y = refl
none_order false true true x y = refl
none_order false true false x y = refl
none_order false false true x y = refl
none_order false false false x y = refl

in_order : (b u s e x y : Bool) → (s ≡ e) ⊎ (s ≡ false) → (true && b && u && not s && not e && not (x || y)) ≡ (u && not e && b && not x && not y)
in_order b u s e x y (inl h) = rw h (same_order b u e x y)
in_order b u s e x y (inr h) = rw h (none_order b u e x y)

first_more : (us : List ℕ) (u : ℕ) → is_open us ≡ true → ((slice_index (us ++ u ∷ []) 0 == 32) ≡ (u == 32)) ⊎ ((slice_index (us ++ u ∷ []) 0 == 32) ≡ false)
first_more [] u h = inl refl
first_more (v ∷ us) u h = let p = open_parts (v ∷ us) h in inr p.start

-- what extends an open front makes it a value
pub extends_value : (us : List ℕ) (u : ℕ) → is_open us ≡ true → extends (us ++ u ∷ []) u ≡ is_value (us ++ u ∷ [])
unfolding is_value
extends_value us u h =
    let p = open_parts us h in
    rw (some_more us u, last_at us u, all_more us u p.units, word_more (codes "url") us u p.no_url, word_more (codes "expression") us u p.no_expression)
    (sym (in_order (nat_le (length (us ++ u ∷ [])) LONGEST_VALUE) (is_value_unit u) (slice_index (us ++ u ∷ []) 0 == 32) (u == 32) (ends_in_word (codes "url") (us ++ u ∷ [])) (ends_in_word (codes "expression") (us ++ u ∷ [])) (first_more us u h)))

pub no_value : is_value [] ≡ false
unfolding is_value
no_value = refl

-- ## Fronts of a value

-- a front that does not end in a space is a value
pub value_front : (us : List ℕ) (u : ℕ) (more : List ℕ) → (u == 32) ≡ false → is_value ((us ++ u ∷ []) ++ more) ≡ true → is_value (us ++ u ∷ []) ≡ true
value_front us u more e h =
    let p = value_parts ((us ++ u ∷ []) ++ more) h in
    let front = us ++ u ∷ [] in
    value_made front (record {
      some = some_more us u;
      short = grind (arith, nat_tests, length-append);
      units = (and_parts (list_all is_value_unit front) (list_all is_value_unit more) (sym (list_all-append is_value_unit front more) ∙ p.units)).0;
      start = start_of us u more ∙ p.start;
      end = rw (last_at us u) e;
      no_url = no_word_before (codes "url") front more p.no_url;
      no_expression = no_word_before (codes "expression") front more p.no_expression;
    })
  where
    start_of : (us : List ℕ) (u : ℕ) (more : List ℕ) → (slice_index (us ++ u ∷ []) 0 == 32) ≡ (slice_index ((us ++ u ∷ []) ++ more) 0 == 32)
    start_of [] u more = refl
    start_of (v ∷ us) u more = refl

-- a unit that is none of values ends no value
other_no_value : (us : List ℕ) (u : ℕ) → is_value_unit u ≡ false → is_value (us ++ u ∷ []) ≡ false
other_no_value us u e = by_value (is_value (us ++ u ∷ [])) refl
  where
    by_value : (b : Bool) → is_value (us ++ u ∷ []) ≡ b → is_value (us ++ u ∷ []) ≡ false
    by_value false h = h
    by_value true h =
        let p = value_parts (us ++ u ∷ []) h in
        let all = (and_parts (list_all is_value_unit us) (is_value_unit u && true) (sym (list_all-append is_value_unit us (u ∷ [])) ∙ p.units)).1 in
        let unit = (and_parts (is_value_unit u) true all).0 in
        cc

pub space_no_value : (us : List ℕ) → is_value (us ++ 32 ∷ []) ≡ false
space_no_value us = by_value (is_value (us ++ 32 ∷ [])) refl
  where
    by_value : (b : Bool) → is_value (us ++ 32 ∷ []) ≡ b → is_value (us ++ 32 ∷ []) ≡ false
    by_value false h = h
    by_value true h =
        let p = value_parts (us ++ 32 ∷ []) h in
        let end : (32 == 32) ≡ false = subst (λ x. (x == 32) ≡ false) (last_at us 32) p.end in
        cc

pub semicolon_no_value : (us : List ℕ) → is_value (us ++ byte ";" ∷ []) ≡ false
semicolon_no_value us = other_no_value us (byte ";") refl

pub same_number : (a b : ℕ) → (a == b) ≡ true → a ≡ b
same_number a b e = grind (arith, nat_tests)

pub other_number : (a b : ℕ) → a ≢ b → (a == b) ≡ false
other_number a b h = by_test (a == b) refl
  where
    by_test : (t : Bool) → (a == b) ≡ t → (a == b) ≡ false
    by_test false e = e
    by_test true e = absurd (h (same_number a b e))

-- a blank is a space, or is none of the units of values
pub blank_kinds : (u : ℕ) → is_blank u ≡ true → (u ≡ 32) ⊎ (is_value_unit u ≡ false)
blank_kinds u h =
    let other : (n : ℕ) → is_value_unit n ≡ false → (u == n) ≡ true → is_value_unit u ≡ false = λ n none e. subst (λ x. is_value_unit x ≡ false) (sym (same_number u n e)) none in
    elim (or_split (u == 32 || u == 9 || u == 10) (u == 13) h) [
      | inr e ↦ inr (other 13 refl e)
      | inl g ↦ elim (or_split (u == 32 || u == 9) (u == 10) g) [ inr e ↦ inr (other 10 refl e) | inl f ↦ elim (or_split (u == 32) (u == 9) f) [ inr e ↦ inr (other 9 refl e) | inl e ↦ inl (same_number u 32 e) ] ]
    ]

-- a blank ends no value
pub blank_no_value : (us : List ℕ) (u : ℕ) → is_blank u ≡ true → is_value (us ++ u ∷ []) ≡ false
blank_no_value us u h = elim (blank_kinds u h) [ inl e ↦ subst (λ x. is_value (us ++ x ∷ []) ≡ false) (sym e) (space_no_value us) | inr e ↦ other_no_value us u e ]

-- the first unit of a value is no blank
pub value_first : (u : ℕ) → is_value (u ∷ []) ≡ true → is_blank u ≡ false
value_first u h = by_blank (is_blank u) refl
  where
    by_blank : (b : Bool) → is_blank u ≡ b → is_blank u ≡ false
    by_blank false e = e
    by_blank true e = let none = blank_no_value [] u e in cc

-- a space does not end a value that is begun
pub open_space : (us : List ℕ) → 0 < length us → is_open us ≡ true → is_open (us ++ 32 ∷ []) ≡ true
open_space us some h =
    let p = open_parts us h in
    open_made (us ++ 32 ∷ []) (record {
      units = all_more us 32 p.units;
      start = start_of us some p.start;
      no_url = word_space (codes "url") us refl (omega arith) p.no_url;
      no_expression = word_space (codes "expression") us refl (omega arith) p.no_expression;
    })
  where
    start_of : (us : List ℕ) → 0 < length us → (slice_index us 0 == 32) ≡ false → (slice_index (us ++ 32 ∷ []) 0 == 32) ≡ false
    start_of [] lt e = absurd (omega (arith, lt))
    start_of (u ∷ us) lt e = e
