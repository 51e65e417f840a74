-- Where words and lines end.
use Rattle.std.proofs.Common.{◌≡◌, ℕ, ◌+◌, ◌<◌, Bool, true, false, cond, List, [], ◌∷◌, length, take, drop, refl, sym, ap, subst, suc, length-drop, ◌∙◌, arith, ◌-◌, if◌then◌else◌, Option, Some, None, nat_lt, ltb-true, ltb-false, not}
use Rattle.std.specs.List.{position, position_or_len, onto_first}
use Rattle.std.proofs.lemmas.Bool.Decides.{nat_tests}
use Rattle.std.proofs.lemmas.List.Sums.{prefix_len-le-length}
use Rattle.reach_cert.specs.Lines.{is_feed, line_end}
use Rattle.std.proofs.lemmas.List.{take_all}
use Rattle.std.specs.Borrow.{Bor}
use Rattle.std.specs.Prelude.{MatchOption, slice_range, ◌==◌}
use Rattle.std.specs.Str.{bytes_eq}
use Rattle.reach_cert.specs.Machine.{Ahead, behind_first, first_text}
use Rattle.reach_cert.specs.Shape.{lines_of}
use Rattle.reach_cert.specs.Words.{IsSlice, before_feed}

module _ (p : ℕ → Bool) (xs : List ℕ) where
  pub at_found : (k : ℕ) → Some k ≡ position p xs → (k ≡ position_or_len p xs) × (k < length xs)
  at_found k = by (nat_lt (position_or_len p xs) (length xs)) refl
    where
      by : (b : Bool) → nat_lt (position_or_len p xs) (length xs) ≡ b → Some k ≡ cond b (Some (position_or_len p xs)) None → (k ≡ position_or_len p xs) × (k < length xs)
      by true is e = let same : k ≡ position_or_len p xs = cc in (same, omega (arith, same, ltb-true (position_or_len p xs) (length xs) is))
      by false is e = cc

  pub at_none : None ≡ position p xs → length xs ≡ position_or_len p xs
  at_none = by (nat_lt (position_or_len p xs) (length xs)) refl
    where
      by : (b : Bool) → nat_lt (position_or_len p xs) (length xs) ≡ b → None ≡ cond b (Some (position_or_len p xs)) None → length xs ≡ position_or_len p xs
      by true is e = cc
      by false is e = omega (arith, ltb-false (position_or_len p xs) (length xs) is, prefix_len-le-length (λ x. not (p x)) xs)

-- a line ends behind its feed, or with the bytes
pub end_found : (bytes : List ℕ) (k : ℕ) → Some k ≡ position is_feed bytes → k + 1 ≡ line_end bytes
end_found bytes k e = let h = at_found is_feed bytes k e in omega (arith, h.0, h.1)

pub end_none : (bytes : List ℕ) → None ≡ position is_feed bytes → length bytes ≡ line_end bytes
end_none bytes e = omega (arith, at_none is_feed bytes e)

-- ## The first line

abbrev IsFirst : List ℕ → ℕ → Type 0
IsFirst bytes n = lines_of bytes ≡ take n bytes ∷ lines_of (drop n bytes)

first_by : (b : ℕ) (bytes : List ℕ) → (c : Bool) → (b == 10) ≡ c → ((bytes ≡ [] → ⊥) → IsFirst bytes (line_end bytes)) → IsFirst (b ∷ bytes) (line_end (b ∷ bytes))
first_by b bytes true e more =
    let one : line_end (b ∷ bytes) ≡ 1 = rw e (omega arith) in
    rw one (rw e refl)
first_by b [] false e more =
    let one : line_end (b ∷ []) ≡ 1 = rw e (omega arith) in
    rw one (rw e refl)
first_by b (c ∷ bytes) false e more =
    let next : line_end (b ∷ c ∷ bytes) ≡ suc (line_end (c ∷ bytes)) = rw e (omega arith) in
    rw next (rw e (ap (onto_first b) (more (λ none. cc none))))

pub first_line : (b : ℕ) (bytes : List ℕ) → IsFirst (b ∷ bytes) (line_end (b ∷ bytes))
first_line b [] = first_by b [] (b == 10) refl (λ some. absurd (some refl))
first_line b (c ∷ bytes) = first_by b (c ∷ bytes) (b == 10) refl (λ some. first_line c bytes)

-- the lines behind it
pub advanced : (bytes : List ℕ) (n end : ℕ) (before : Ahead) → let now : Ahead = record { number = n; lines = lines_of bytes } in now ≡ before → end ≡ line_end bytes → false ≡ (length bytes == 0) → let next : Ahead = record { number = n + 1; lines = lines_of (slice_range bytes end (length bytes)) } in next ≡ behind_first before
advanced [] n end before e is some = cc
advanced (b ∷ bytes) n end before e is some =
    let all : slice_range (b ∷ bytes) end (length (b ∷ bytes)) ≡ drop end (b ∷ bytes) = take_all (length (b ∷ bytes) - end) (drop end (b ∷ bytes)) (omega (arith, length-drop end (b ∷ bytes))) in
    let at : lines_of (b ∷ bytes) ≡ take end (b ∷ bytes) ∷ lines_of (drop end (b ∷ bytes)) = rw is (first_line b bytes) in
    let step : (l : List (List ℕ)) → lines_of (b ∷ bytes) ≡ l → behind_first (record { number = n; lines = lines_of (b ∷ bytes) }) ≡ behind_first (record { number = n; lines = l }) = λ l f. ap (λ k. behind_first (record { number = n; lines = k })) f in
    ap (λ l. record { number = n + 1; lines = lines_of l }) all ∙ sym (step _ at) ∙ ap behind_first e

-- its text
feed_cut : (s : List ℕ) (r : Option (Bor (List ℕ))) →
    MatchOption r (bytes_eq (drop (length s - 1) s) (10 ∷ []) ≡ false)
    (λ x. (bytes_eq (drop (length s - 1) s) (10 ∷ []) ≡ true) × (x.now ≡ take (length s - 1) s) × (length x.now + 1 ≡ length s)) →
    IsSlice (before_feed s) r
feed_cut s None e = rw e refl
feed_cut s (Some x) e = ap (λ b. if b then Some (take (length s - 1) s) else None) (e.0) ∙ ap Some (sym (e.1))

text_first : (bytes : List ℕ) → first_text (lines_of bytes) ≡ before_feed (take (line_end bytes) bytes)
text_first [] = refl
text_first (b ∷ bytes) = ap first_text (first_line b bytes)

pub text_is : (bytes : List ℕ) (end : ℕ) (lines : List (List ℕ)) (r : Option (Bor (List ℕ))) → lines_of bytes ≡ lines → end ≡ line_end bytes →
    let s : List ℕ = take end bytes in
    MatchOption r (bytes_eq (drop (length s - 1) s) (10 ∷ []) ≡ false)
    (λ x. (bytes_eq (drop (length s - 1) s) (10 ∷ []) ≡ true) × (x.now ≡ take (length s - 1) s) × (length x.now + 1 ≡ length s)) →
    IsSlice (first_text lines) r
text_is bytes end lines r same is cut =
    subst (λ t. IsSlice t r) (ap (λ n. before_feed (take n bytes)) is ∙ sym (text_first bytes) ∙ ap first_text same) (feed_cut (take end bytes) r cut)

-- no line is left where no byte is
pub some_count : (n : ℕ) → (suc n == 0) ≡ false
some_count n = grind (arith, nat_tests)

pub none_left : (bytes : List ℕ) (lines : List (List ℕ)) → lines_of bytes ≡ lines → (length bytes == 0) ≡ (length lines == 0)
none_left [] lines e = ap (λ l. length l == 0) e
none_left (b ∷ bytes) lines e =
    some_count (length bytes) ∙ sym (ap (λ l. length l == 0) (first_line b bytes) ∙ some_count (length (lines_of (drop (line_end (b ∷ bytes)) (b ∷ bytes))))) ∙ ap (λ l. length l == 0) e
