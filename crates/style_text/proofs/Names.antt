-- Properties and their first units.
use Rattle.std.proofs.Common.{◌≡◌, ℕ, List, [], ◌∷◌, ◌++◌, Bool, true, false, ◌&&◌, ◌||◌, not, refl, sym, subst, arith}
use Rattle.std.specs.Prelude.{nat_eq, ◌==◌}
use Rattle.std.specs.List.{list_any, list_all}
use Rattle.std.specs.Str.{bytes_eq, byte}
use Rattle.std.proofs.lemmas.Slice.Eq.{bytes_eq-Decides}
use Rattle.std.proofs.lemmas.Bool.Decides.{nat_tests}
use Rattle.style_text.specs.Styles.{Pair, is_blank, properties, is_listed, is_used, is_once}
use Rattle.code_units.specs.Words.{begins_with}
use Rattle.style_text.specs.Machine.{fits, is_free}
use Rattle.style_text.proofs.Words.{and_parts, and_made, or_right, or_left, or_parts, or_none, not_true}

-- ## Rows of a table

-- a row that passes the test
record SomeRow (p : List ℕ → Bool) (rows : List (List ℕ)) : Type 0 where
  row : List ℕ
  passes : p row ≡ true
  from_all : (q : List ℕ → Bool) → list_all q rows ≡ true → q row ≡ true
  to_any : (q : List ℕ → Bool) → q row ≡ true → list_any q rows ≡ true

row_or : (p : List ℕ → Bool) (row : List ℕ) (rows : List (List ℕ)) (b : Bool) → p row ≡ b → (b || list_any p rows) ≡ true → (list_any p rows ≡ true → SomeRow p rows) → SomeRow p (row ∷ rows)
row_or p row rows true e h later = record { row = row; passes = e; from_all = λ q all. (and_parts (q row) (list_all q rows) all).0; to_any = λ q here. or_left (q row) (list_any q rows) here }
row_or p row rows false e h later =
    let r = later h in
    record { row = r.row; passes = r.passes; from_all = λ q all. r.from_all q (and_parts (q row) (list_all q rows) all).1; to_any = λ q here. or_right (q row) (list_any q rows) (r.to_any q here) }

some_row : (p : List ℕ → Bool) (rows : List (List ℕ)) → list_any p rows ≡ true → SomeRow p rows
some_row p [] h = cc
some_row p (row ∷ rows) h = row_or p row rows (p row) refl h (some_row p rows)

-- ## Fronts of a word

begins_front : (front more : List ℕ) → begins_with (front ++ more) front ≡ true
begins_front [] more = refl
begins_front (u ∷ front) more = and_made (nat_eq u u) _ (grind (arith, nat_tests)) (begins_front front more)

behind_front : (word front : List ℕ) → begins_with word front ≡ true → (more : List ℕ) × (word ≡ front ++ more)
behind_front word [] h = (word, refl)
behind_front [] (u ∷ us) h = cc
behind_front (c ∷ word) (u ∷ us) h =
    let p = and_parts (nat_eq u c) (begins_with word us) h in
    let same : u ≡ c = grind (arith, nat_tests) in
    let rest = behind_front word us (p.1) in
    (rest.0, λ i. sym same i ∷ rest.1 i)

-- the last of the first units passes what all units of the word pass
last_passes : (t : ℕ → Bool) (word front : List ℕ) (u : ℕ) → begins_with word (front ++ u ∷ []) ≡ true → list_all t word ≡ true → t u ≡ true
last_passes t [] [] u h all = cc
last_passes t (c ∷ word) [] u h all =
    let p = and_parts (nat_eq u c) true h in
    let same : u ≡ c = grind (arith, nat_tests) in
    subst (λ x. t x ≡ true) (sym same) (and_parts (t c) (list_all t word) all).0
last_passes t [] (v ∷ front) u h all = cc
last_passes t (c ∷ word) (v ∷ front) u h all = last_passes t word front u (and_parts (nat_eq v c) _ h).1 (and_parts (t c) (list_all t word) all).1

-- ## Properties

is_name_unit : ℕ → Bool
is_name_unit u = not (is_blank u || u == byte ":")

all_names : list_all (list_all is_name_unit) properties ≡ true
unfolding properties is_name_unit
all_names = refl

pub no_listed : is_listed [] ≡ false
unfolding is_listed properties
no_listed = refl

unused : (b : Bool) → not b ≡ true → b ≡ false
unused b = not_true b

-- a free property is listed and not used
pub free_parts : (ps : List Pair) (n : List ℕ) → is_free ps n ≡ true → (is_listed n ≡ true) × (is_used ps n ≡ false)
free_parts ps n h = let p = and_parts (is_listed n) _ h in (p.0, not_true (is_used ps n) (p.1))

pub free_made : (ps : List Pair) (n : List ℕ) → is_listed n ≡ true → is_used ps n ≡ false → is_free ps n ≡ true
free_made ps n h e = rw (h, e) refl

-- each front of a free property fits
pub free_fits : (ps : List Pair) (front more : List ℕ) → is_free ps (front ++ more) ≡ true → fits ps front ≡ true
unfolding fits is_listed
free_fits ps front more h =
    let n = front ++ more in
    let p = and_parts (is_listed n) _ h in
    let r = some_row (bytes_eq n) properties (p.0) in
    let same : n ≡ r.row = (bytes_eq-Decides n r.row).0 r.passes in
    r.to_any (λ property. begins_with property front && not (is_used ps property))
    (subst (λ w. (begins_with w front && not (is_used ps w)) ≡ true) same (and_made (begins_with n front) _ (begins_front front more) (p.1)))

-- a front that fits is the front of a free property
pub fits_free : (ps : List Pair) (front : List ℕ) → fits ps front ≡ true → (more : List ℕ) × (is_free ps (front ++ more) ≡ true)
unfolding fits is_listed
fits_free ps front h =
    let r = some_row (λ property. begins_with property front && not (is_used ps property)) properties h in
    let p = and_parts (begins_with r.row front) _ r.passes in
    let rest = behind_front r.row front (p.0) in
    let found : is_listed r.row ≡ true = r.to_any (bytes_eq r.row) ((bytes_eq-Decides r.row r.row).1 refl) in
    (rest.0, subst (λ w. is_free ps w ≡ true) (rest.1) (and_made (is_listed r.row) _ found (p.1)))

-- what fits does not end with a blank or a colon
fits_name : (ps : List Pair) (front : List ℕ) (u : ℕ) → fits ps (front ++ u ∷ []) ≡ true → is_name_unit u ≡ true
unfolding fits
fits_name ps front u h =
    let r = some_row (λ property. begins_with property (front ++ u ∷ []) && not (is_used ps property)) properties h in
    last_passes is_name_unit r.row front u (and_parts (begins_with r.row (front ++ u ∷ [])) _ r.passes).0 (r.from_all (list_all is_name_unit) all_names)

name_ends : (ps : List Pair) (front : List ℕ) (u : ℕ) → is_name_unit u ≡ false → fits ps (front ++ u ∷ []) ≡ false
name_ends ps front u e = by_fit (fits ps (front ++ u ∷ [])) refl
  where
    by_fit : (b : Bool) → fits ps (front ++ u ∷ []) ≡ b → fits ps (front ++ u ∷ []) ≡ false
    by_fit false h = h
    by_fit true h = let is = fits_name ps front u h in cc

pub blank_ends : (ps : List Pair) (front : List ℕ) (u : ℕ) → is_blank u ≡ true → fits ps (front ++ u ∷ []) ≡ false
unfolding is_name_unit
blank_ends ps front u h = name_ends ps front u (rw h refl)

pub colon_ends : (ps : List Pair) (front : List ℕ) → fits ps (front ++ byte ":" ∷ []) ≡ false
unfolding is_name_unit
colon_ends ps front = name_ends ps front (byte ":") refl

pub fits_no_blank : (ps : List Pair) (u : ℕ) → fits ps (u ∷ []) ≡ true → is_blank u ≡ false
fits_no_blank ps u h = by_blank (is_blank u) refl
  where
    by_blank : (b : Bool) → is_blank u ≡ b → is_blank u ≡ false
    by_blank false e = e
    by_blank true e = let none = blank_ends ps [] u e in cc

-- ## Each property once

eq_sym : (xs ys : List ℕ) → bytes_eq xs ys ≡ false → bytes_eq ys xs ≡ false
eq_sym xs ys h = by_eq (bytes_eq ys xs) refl
  where
    by_eq : (b : Bool) → bytes_eq ys xs ≡ b → bytes_eq ys xs ≡ false
    by_eq false e = e
    by_eq true e =
        let same : ys ≡ xs = (bytes_eq-Decides ys xs).0 e in
        let other : bytes_eq xs ys ≡ true = (bytes_eq-Decides xs ys).1 (sym same) in
        cc

pub used_none : (n : List ℕ) → is_used [] n ≡ false
unfolding is_used
used_none n = refl

used_append : (ps : List Pair) (p : Pair) (qs : List Pair) (n : List ℕ) → is_used (ps ++ p ∷ qs) n ≡ false → (is_used ps n ≡ false) × (bytes_eq p.0 n ≡ false) × (is_used qs n ≡ false)
unfolding is_used
used_append [] p qs n h = let parts = or_parts (bytes_eq p.0 n) _ h in (refl, parts.0, parts.1)
used_append (o ∷ ps) p qs n h =
    let parts = or_parts (bytes_eq o.0 n) _ h in
    let rest = used_append ps p qs n (parts.1) in
    (or_none (bytes_eq o.0 n) _ (parts.0) (rest.0), rest.1, rest.2)

used_more : (ps : List Pair) (p : Pair) (n : List ℕ) → is_used ps n ≡ false → bytes_eq p.0 n ≡ false → is_used (ps ++ p ∷ []) n ≡ false
unfolding is_used
used_more [] p n h e = or_none (bytes_eq p.0 n) false e refl
used_more (o ∷ ps) p n h e = let parts = or_parts (bytes_eq o.0 n) _ h in or_none (bytes_eq o.0 n) _ (parts.0) (used_more ps p n (parts.1) e)

used_front : (o : Pair) (ps : List Pair) (n : List ℕ) → bytes_eq o.0 n ≡ false → is_used ps n ≡ false → is_used (o ∷ ps) n ≡ false
unfolding is_used
used_front o ps n e h = or_none (bytes_eq o.0 n) _ e h

used_rest : (o : Pair) (ps : List Pair) (n : List ℕ) → is_used (o ∷ ps) n ≡ false → (bytes_eq o.0 n ≡ false) × (is_used ps n ≡ false)
unfolding is_used
used_rest o ps n h = or_parts (bytes_eq o.0 n) _ h

-- a property behind others is none of them
pub once_apart : (ps : List Pair) (p : Pair) (qs : List Pair) → is_once (ps ++ p ∷ qs) ≡ true → is_used ps p.0 ≡ false
once_apart [] p qs h = used_none p.0
once_apart (o ∷ ps) p qs h =
    let parts = and_parts (not (is_used (ps ++ p ∷ qs) o.0)) _ h in
    let apart = used_append ps p qs o.0 (not_true (is_used (ps ++ p ∷ qs) o.0) (parts.0)) in
    used_front o ps p.0 (eq_sym p.0 o.0 (apart.1)) (once_apart ps p qs (parts.1))

-- one more property
pub once_more : (ps : List Pair) (n v : List ℕ) → is_once ps ≡ true → is_used ps n ≡ false → is_once (ps ++ (n, v) ∷ []) ≡ true
once_more [] n v h e = rw (used_none n) refl
once_more (o ∷ ps) n v h e =
    let parts = and_parts (not (is_used ps o.0)) _ h in
    let apart = used_rest o ps n e in
    let none = used_more ps (n, v) o.0 (not_true (is_used ps o.0) (parts.0)) (eq_sym o.0 n (apart.0)) in
    rw none (once_more ps n v (parts.1) (apart.1))
