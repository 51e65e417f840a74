-- ASCII at the start of a text, in UTF-8 and as units.
use Rattle.std.proofs.Common.{◌≡◌, ℕ, ◌+◌, ◌-◌, ◌<◌, ◌≤◌, List, [], ◌∷◌, ◌++◌, length, take, drop, get_or, map, refl, sym, ap, ◌∙◌, subst, arith, ltb-true, IsUtf8, encode_utf8, encode_utf8_all, append_assoc, append-nil, take-append-drop}
use Rattle.std.specs.List.{prefix_len}
use Rattle.std.specs.Char.{is_ascii, len_utf8}
use Rattle.std.specs.Option.{unwrap_or}
use Rattle.std.specs.Str.{IsAscii, chars}
use Rattle.std.specs.Char.Escape.{encode_utf16}
use Rattle.std.specs.Char.Utf16.{utf16_lossy_chars}
use Rattle.std.proofs.str.Utf16.{lone_unit_char_low}
use Rattle.std.proofs.lemmas.List.{get_or-take, length-take-le, take_rest, length-append, drop-drop, drop_all}
use Rattle.std.proofs.lemmas.List.Sums.{prefix_len-le-length, prefix_len_passes}
use Rattle.std.proofs.lemmas.Str.{chars-nil, utf16_chars_lone, encodes-append, encodes-IsAscii, IsAscii-drop, IsUtf8-from_ascii, IsUtf8-drop, IsCharBoundary-from_take, drop_past_char, IsUtf8-past_char, IsCharBoundary-past_char, len_utf8_bounds}
use Rattle.std.proofs.lemmas.Str.Ascii.{IsAscii-from_reads}
use Rattle.code_units.specs.Utf8.{units_of, units_of_chars, utf8_of}
use Rattle.code_units.proofs.Utf8Laws.{units_of-append, units_of-ascii, units_of-char}

-- the ASCII that a list begins with
pub ascii_taken : (xs : List ℕ) (n : ℕ) → n ≡ prefix_len is_ascii xs → IsAscii (take n xs)
ascii_taken xs n e =
    let within : n ≤ length xs = omega (arith, e, prefix_len-le-length is_ascii xs) in
    IsAscii-from_reads (take n xs) n (omega (arith, length-take-le n xs within)) (λ k lt.
    subst (λ u. u < 128) (sym (get_or-take n xs k 0 lt)) (ltb-true (get_or xs k 0) 128 (prefix_len_passes is_ascii xs k 0 (omega (arith, e, lt)))))

lossy-ascii : (xs us : List ℕ) → IsAscii xs → utf16_lossy_chars (xs ++ us) ≡ xs ++ utf16_lossy_chars us
lossy-ascii [] us a = refl
lossy-ascii (x ∷ xs) us a =
    let small : x < 128 = a 0 in
    ap (map (λ o. unwrap_or o 0xFFFD)) (utf16_chars_lone x (xs ++ us) (λ pair. omega (arith, small, pair.0)))
    ∙ ap (λ o. unwrap_or o 0xFFFD ∷ utf16_lossy_chars (xs ++ us)) (lone_unit_char_low x (omega (arith, small)))
    ∙ ap (λ ys. x ∷ ys) (lossy-ascii xs us (λ i. IsAscii-drop (x ∷ xs) 1 a i))

pub utf8_of-ascii : (xs us : List ℕ) → IsAscii xs → utf8_of (xs ++ us) ≡ xs ++ utf8_of us
unfolding utf8_of
utf8_of-ascii xs us a =
    ap encode_utf8_all (lossy-ascii xs us a)
    ∙ encodes-append xs (utf16_lossy_chars us)
    ∙ ap (λ bs. bs ++ encode_utf8_all (utf16_lossy_chars us)) (encodes-IsAscii xs a)

-- the slice between two places is as long as they are apart
apart : (at n : ℕ) → at + n - at ≡ n
apart at n = omega arith

-- the ASCII from a place on, with slices as the calls write them
module _ (xs : List ℕ) (at n : ℕ) (run : n ≡ prefix_len is_ascii (take (length xs - at) (drop at xs))) where
  here : n ≡ prefix_len is_ascii (drop at xs)
  here = run ∙ ap (prefix_len is_ascii) (take_rest xs at)

  front : IsAscii (take n (drop at xs))
  front = ascii_taken (drop at xs) n here

  -- each of its units fits a byte
  pub fits : (k : ℕ) → get_or (take (at + n - at) (drop at xs)) k 0 < 256
  fits k =
      let small : get_or (take (at + n - at) (drop at xs)) k 0 < 128 = subst (λ m. get_or (take m (drop at xs)) k 0 < 128) (sym (apart at n)) (front k) in
      omega (arith, small)

  split : utf8_of (drop at xs) ≡ take n (drop at xs) ++ utf8_of (drop (at + n) xs)
  split =
      sym (ap utf8_of (take-append-drop n (drop at xs)))
      ∙ utf8_of-ascii (take n (drop at xs)) (drop n (drop at xs)) front
      ∙ ap (λ ys. take n (drop at xs) ++ utf8_of ys) (drop-drop n at xs)

  within : n ≤ length (drop at xs)
  within = omega (arith, here, prefix_len-le-length is_ascii (drop at xs))

  -- it takes a byte a unit in UTF-8
  pub bytes_len : n + length (utf8_of (drop (at + n) xs)) ≡ length (utf8_of (drop at xs))
  bytes_len =
      sym (ap length split
      ∙ length-append (take n (drop at xs)) (utf8_of (drop (at + n) xs))
      ∙ ap (λ m. m + length (utf8_of (drop (at + n) xs))) (length-take-le n (drop at xs) within))

  -- it was appended in UTF-8
  pub bytes_pushed : (out made : List ℕ) → made ≡ out ++ take (at + n - at) (drop at xs) → made ++ utf8_of (drop (at + n) xs) ≡ out ++ utf8_of (drop at xs)
  bytes_pushed out made e =
      ap (λ ys. ys ++ utf8_of (drop (at + n) xs)) (e ∙ ap (λ m. out ++ take m (drop at xs)) (apart at n))
      ∙ append_assoc out (take n (drop at xs)) (utf8_of (drop (at + n) xs))
      ∙ ap (λ ys. out ++ ys) (sym split)

  -- it was appended as units
  pub units_pushed : (out made : List ℕ) → made ≡ out ++ take (at + n - at) (drop at xs) → made ++ units_of (drop (at + n) xs) ≡ out ++ units_of (drop at xs)
  units_pushed out made e =
      let back : units_of (drop at xs) ≡ take n (drop at xs) ++ units_of (drop (at + n) xs) =
      sym (ap units_of (take-append-drop n (drop at xs)))
      ∙ units_of-append (take n (drop at xs)) (drop n (drop at xs)) (IsUtf8-from_ascii (take n (drop at xs)) front)
      ∙ (λ j. units_of-ascii (take n (drop at xs)) front j ++ units_of (drop-drop n at xs j)) in
      ap (λ ys. ys ++ units_of (drop (at + n) xs)) (e ∙ ap (λ m. out ++ take m (drop at xs)) (apart at n))
      ∙ append_assoc out (take n (drop at xs)) (units_of (drop (at + n) xs))
      ∙ ap (λ ys. out ++ ys) (sym back)

  -- behind it the bytes are UTF-8
  pub utf8_behind : IsUtf8 (drop at xs) → IsUtf8 (drop (at + n) xs)
  utf8_behind utf8 =
      subst IsUtf8 (drop-drop n at xs) (IsUtf8-drop (drop at xs) n utf8 (IsCharBoundary-from_take (drop at xs) n utf8 within (IsUtf8-from_ascii (take n (drop at xs)) front)))

-- one character more was appended
pub record CharPushed (bytes : List ℕ) (at c : ℕ) : Type 0 where
  pub units : units_of (drop at bytes) ≡ encode_utf16 c ++ units_of (drop (at + len_utf8 c) bytes)
  pub later : at < at + len_utf8 c
  pub within : at + len_utf8 c ≤ length bytes
  pub place : IsUtf8 (drop (at + len_utf8 c) bytes)

pub char_pushed : (bytes rest : List ℕ) (at c : ℕ) → at ≤ length bytes → IsUtf8 (drop at bytes) → drop at bytes ≡ encode_utf8 c ++ rest → CharPushed bytes at c
char_pushed bytes rest at c within utf8 e =
    let tail : drop (at + len_utf8 c) bytes ≡ rest = drop_past_char bytes rest at c e in
    record {
      units = units_of-char (drop at bytes) rest c utf8 e ∙ ap (λ xs. encode_utf16 c ++ units_of xs) (sym tail);
      later = omega (arith, (len_utf8_bounds c).0);
      within = (IsCharBoundary-past_char bytes rest at c within utf8 e).0;
      place = subst IsUtf8 (sym tail) (IsUtf8-past_char (drop at bytes) rest c utf8 e);
    }

-- nothing is left at the end
pub units_done : (us all bytes : List ℕ) (at : ℕ) → length bytes ≤ at → us ++ units_of (drop at bytes) ≡ all → us ≡ all
unfolding units_of
units_done us all bytes at past e = sym (append-nil us) ∙ ap (λ xs. us ++ xs) (sym (ap (λ xs. units_of_chars (chars xs)) (drop_all at bytes past) ∙ ap units_of_chars chars-nil)) ∙ e
