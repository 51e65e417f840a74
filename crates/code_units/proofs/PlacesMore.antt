-- The place after one more byte.
use Rattle.std.proofs.Common.{◌≡◌, ℕ, zero, suc, subst, inl, inr, ◌+◌, ◌-◌, ◌<◌, ◌≤◌, Bool, true, false, List, length, take, get_or, arith, ap, ◌∙◌, refl, sym}
use Rattle.std.specs.Prelude.{not}
use Rattle.std.specs.List.{suffix_len}
use Rattle.std.proofs.lemmas.List.{length-drop}
use Rattle.std.proofs.lemmas.List.Sums.{count_by_more_yes, count_by_more_no, suffix_len-le-length, suffix_len-take_yes, suffix_len-take_no}
use Rattle.std.proofs.lemmas.Bool.{cases_lt}
use Rattle.code_units.specs.declared.place.Place.{Place}
use Rattle.code_units.specs.Places.{is_line_feed, line_of, column_of, place_at, Precedes}

abbrev pub no_line_feed : ℕ → Bool
no_line_feed b = not (is_line_feed b)

column-suffix : (bytes : List ℕ) (i : ℕ) → column_of bytes i ≡ 1 + suffix_len no_line_feed (take i bytes)
unfolding column_of
column-suffix bytes i = omega (arith, length-drop (length (take i bytes) - suffix_len no_line_feed (take i bytes)) (take i bytes), suffix_len-le-length no_line_feed (take i bytes))

pub line_none : (bytes : List ℕ) → 1 ≡ line_of bytes 0
unfolding line_of
line_none bytes = refl

pub column_none : (bytes : List ℕ) → 1 ≡ column_of bytes 0
unfolding column_of
column_none bytes = refl

pub line_more_yes : (bytes : List ℕ) (i : ℕ) → i < length bytes → is_line_feed (get_or bytes i 0) ≡ true → line_of bytes i + 1 ≡ line_of bytes (i + 1)
unfolding line_of
line_more_yes bytes i h e = omega (arith, count_by_more_yes is_line_feed bytes i 0 h e)

pub line_more_no : (bytes : List ℕ) (i : ℕ) → i < length bytes → is_line_feed (get_or bytes i 0) ≡ false → line_of bytes i ≡ line_of bytes (i + 1)
unfolding line_of
line_more_no bytes i h e = omega (arith, count_by_more_no is_line_feed bytes i 0 h e)

last : (bytes : List ℕ) (i : ℕ) → get_or bytes (i + 1 - 1) 0 ≡ get_or bytes i 0
last bytes i = let e : i + 1 - 1 ≡ i = omega arith in ap (λ k. get_or bytes k 0) e

before : (bytes : List ℕ) (i : ℕ) → suffix_len no_line_feed (take (i + 1 - 1) bytes) ≡ suffix_len no_line_feed (take i bytes)
before bytes i = let e : i + 1 - 1 ≡ i = omega arith in ap (λ k. suffix_len no_line_feed (take k bytes)) e

pub column_more_yes : (bytes : List ℕ) (i : ℕ) → i < length bytes → is_line_feed (get_or bytes i 0) ≡ true → 1 ≡ column_of bytes (i + 1)
column_more_yes bytes i h e =
    let no : no_line_feed (get_or bytes (i + 1 - 1) 0) ≡ false = ap no_line_feed (last bytes i) ∙ ap not e in
    omega (arith, column-suffix bytes (i + 1), suffix_len-take_no no_line_feed bytes (i + 1) 0 (omega arith) (omega arith) no)

pub column_more_no : (bytes : List ℕ) (i : ℕ) → i < length bytes → is_line_feed (get_or bytes i 0) ≡ false → column_of bytes i + 1 ≡ column_of bytes (i + 1)
column_more_no bytes i h e =
    let yes : no_line_feed (get_or bytes (i + 1 - 1) 0) ≡ true = ap no_line_feed (last bytes i) ∙ ap not e in
    omega (arith, column-suffix bytes i, column-suffix bytes (i + 1), before bytes i, suffix_len-take_yes no_line_feed bytes (i + 1) 0 (omega arith) (omega arith) yes)

after : (p q r : Place) → Precedes p q → Precedes q r → Precedes p r
after p q r a b = elim a [
  | inl lines ↦ elim b [ inl more ↦ inl (omega arith) | inr same ↦ inl (omega (arith, same.0)) ]
  | inr here ↦ elim b [ inl more ↦ inl (omega (arith, here.0)) | inr same ↦ inr (here.0 ∙ same.0, omega (arith, here.1, same.1)) ]
]

-- the next byte stands later
next_later : (bytes : List ℕ) (i : ℕ) → i < length bytes → Precedes (place_at bytes i) (place_at bytes (i + 1))
next_later bytes i within = by (is_line_feed (get_or bytes i 0)) refl
  where
    by : (b : Bool) → is_line_feed (get_or bytes i 0) ≡ b → Precedes (place_at bytes i) (place_at bytes (i + 1))
    by true e = inl (omega (arith, line_more_yes bytes i within e))
    by false e = inr (line_more_no bytes i within e, omega (arith, column_more_no bytes i within e))

-- places go up with the offset
pub later : (bytes : List ℕ) (k n : ℕ) → k < n → n ≤ length bytes → Precedes (place_at bytes k) (place_at bytes n)
later bytes k zero before within = absurd (omega arith)
later bytes k (suc n) before within =
    let step = next_later bytes n (omega arith) in
    let one : n + 1 ≡ suc n = omega arith in
    let here : Precedes (place_at bytes n) (place_at bytes (suc n)) = subst (λ m. Precedes (place_at bytes n) (place_at bytes m)) one step in
    elim (cases_lt k n) [
      | inl less ↦ after (place_at bytes k) (place_at bytes n) (place_at bytes (suc n)) (later bytes k n less (omega arith)) here
      | inr most ↦ (let is : n ≡ k = omega arith in subst (λ m. Precedes (place_at bytes m) (place_at bytes (suc n))) is here)
    ]

-- the place that a line and a column make
pub later_than : (bytes : List ℕ) (k n i line column : ℕ) → k < n → n ≤ length bytes → i ≡ n → line ≡ line_of bytes i → column ≡ column_of bytes i → Precedes (place_at bytes k) (record { line = line; column = column })
later_than bytes k n i line column less within end lines columns =
    let is : place_at bytes n ≡ record { line = line; column = column } = λ j. record { line = (ap (line_of bytes) (sym end) ∙ sym lines) j; column = (ap (column_of bytes) (sym end) ∙ sym columns) j } in
    subst (λ p. Precedes (place_at bytes k) p) is (later bytes k n less within)
