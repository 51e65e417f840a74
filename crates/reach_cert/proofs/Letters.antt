-- The bytes of names, numbers, references and lines.
use Rattle.std.proofs.Common.{◌≡◌, ℕ, ◌+◌, ◌-◌, ◌^◌, ◌<◌, ◌≤◌, Bool, true, ◌&&◌, List, [], ◌∷◌, ◌++◌, length, take, get_or, refl, sym, ap, ◌∙◌, subst, arith, nat_eq, nat_le, nat_lt}
use Rattle.std.specs.Fmt.{decimal}
use Rattle.std.specs.List.{AllByRecursion, list_all}
use Rattle.std.specs.Str.{IsAscii}
use Rattle.std.specs.Str.Parse.{AllDigits}
use Rattle.std.proofs.lemmas.Bool.{eqb-true}
use Rattle.std.proofs.lemmas.Bool.Decides.{nat_tests}
use Rattle.std.proofs.lemmas.Fmt.{decimal_is_IsNumeral}
use Rattle.std.proofs.lemmas.List.{take_all, take_more}
use Rattle.std.proofs.lemmas.Str.{IsUtf8-from_ascii}
use Rattle.std.proofs.lemmas.Str.Ascii.{IsAscii-nil, IsAscii-cons}
use Rattle.std.proofs.lemmas.Str.Parse.{digit_from_value}
use Rattle.code_units.specs.Utf8.{utf8_of}
use Rattle.code_units.proofs.RoundTrip.{utf8_of-units_of}
use Rattle.code_units.proofs.Signs.{and_both}
use Rattle.code_units.proofs.Utf8Laws.{units_of-ascii}
use Rattle.reach_cert.specs.declared.cert.Ref.{Ref}
use Rattle.reach_cert.specs.declared.cert.Ref.TheVariants.{Host, Raw, Global, Cell}
use Rattle.reach_cert.specs.declared.cert.RowKind.{RowKind}
use Rattle.reach_cert.specs.declared.cert.RowKind.TheVariants.{Object, Array, Function, Bunch}
use Rattle.reach_cert.specs.Certs.{Line, Head, RefusedLine, WidgetLine, CellLine, HeldLine, EndLine, kind_word, ref_word, refs_text, line_words}
use Rattle.reach_cert.specs.Shape.{is_capital, is_name, is_ref, is_row}

-- the byte is in a range
pub record Fits (low high b : ℕ) : Type 0 where
  pub from : low ≤ b
  pub to : b ≤ high

abbrev pub AllFit : ℕ → ℕ → List ℕ → Type 0
AllFit low high bytes = AllByRecursion (Fits low high) bytes

pub fit : (low high : ℕ) (b : ℕ) → nat_le low b && nat_le b high ≡ true → Fits low high b
fit low high b e = let both = and_both (nat_le low b) (nat_le b high) e in record { from = grind (arith, nat_tests, both.0); to = grind (arith, nat_tests, both.1) }

wider : (low high low' high' : ℕ) → low' ≤ low → high ≤ high' → (bytes : List ℕ) → AllFit low high bytes → AllFit low' high' bytes
wider low high low' high' l h [] f = tt
wider low high low' high' l h (b ∷ bytes) f = (record { from = omega (arith, l, f.0.from); to = omega (arith, h, f.0.to) }, wider low high low' high' l h bytes (f.1))

pub fit_both : (low high : ℕ) (xs ys : List ℕ) → AllFit low high xs → AllFit low high ys → AllFit low high (xs ++ ys)
fit_both low high [] ys f g = g
fit_both low high (x ∷ xs) ys f g = (f.0, fit_both low high xs ys (f.1) g)

-- ## Names

capitals : (bytes : List ℕ) → list_all is_capital bytes ≡ true → AllFit 65 95 bytes
capitals [] e = tt
capitals (b ∷ bytes) e =
    let both = and_both (is_capital b) (list_all is_capital bytes) e in
    let here = fit 65 90 b (both.0) in
    (record { from = here.from; to = omega (arith, here.to) }, capitals bytes (both.1))

last_of : (bytes : List ℕ) → 0 < length bytes → take (length bytes - 1) bytes ++ get_or bytes (length bytes - 1) 0 ∷ [] ≡ bytes
last_of bytes some =
    let n : length bytes - 1 + 1 ≡ length bytes = omega (arith, some) in
    let lt : length bytes - 1 < length bytes = omega (arith, some) in
    sym (take_more bytes (length bytes - 1) 0 lt) ∙ ap (λ k. take k bytes) n ∙ take_all (length bytes) bytes (omega arith)

pub name_fits : (word : List ℕ) → is_name word ≡ true → AllFit 65 95 word
unfolding is_name
name_fits word e =
    let a = and_both (nat_le 2 (length word) && nat_le (length word) 32 && nat_eq (get_or word (length word - 1) 0) 95) (list_all is_capital (take (length word - 1) word)) e in
    let b = and_both (nat_le 2 (length word) && nat_le (length word) 32) (nat_eq (get_or word (length word - 1) 0) 95) (a.0) in
    let c = and_both (nat_le 2 (length word)) (nat_le (length word) 32) (b.0) in
    let some : 2 ≤ length word = grind (arith, nat_tests, c.0) in
    let last : get_or word (length word - 1) 0 ≡ 95 = eqb-true (get_or word (length word - 1) 0) 95 (b.1) in
    subst (AllFit 65 95) (last_of word (omega (arith, some)))
    (fit_both 65 95 (take (length word - 1) word) (get_or word (length word - 1) 0 ∷ []) (capitals (take (length word - 1) word) (a.1))
    (record { from = omega (arith, last); to = omega (arith, last) }, tt))

ascii : (bytes : List ℕ) → AllFit 65 95 bytes → IsAscii bytes
ascii [] f = IsAscii-nil
ascii (b ∷ bytes) f = IsAscii-cons b bytes (omega (arith, f.0.to)) (ascii bytes (f.1))

-- a name is its own text
pub name_text : (word : List ℕ) → is_name word ≡ true → utf8_of word ≡ word
name_text word e =
    let a = ascii word (name_fits word e) in
    ap utf8_of (sym (units_of-ascii word a)) ∙ utf8_of-units_of word (IsUtf8-from_ascii word a)

-- ## Numbers

digits_fit : (ds : List ℕ) → AllDigits 10 ds → AllFit 48 57 ds
digits_fit [] h = tt
digits_fit (c ∷ ds) h = let here = digit_from_value c (h.0) in (record { from = here.0; to = here.1 }, digits_fit ds (h.1))

pub decimal_fits : (n : ℕ) → n < 2 ^ 32 → AllFit 48 57 (decimal n)
decimal_fits n small = digits_fit (decimal n) ((decimal_is_IsNumeral n (omega arith)).0.1)

-- ## References and lines

abbrev low : (l b : ℕ) → nat_le l b && nat_le b 122 ≡ true → Fits l 122 b
low l b e = fit l 122 b e

pub ref_fits : (ref : Ref) → is_ref ref ≡ true → AllFit 48 122 (ref_word ref)
ref_fits Host e = (low 48 104 refl, (low 48 111 refl, (low 48 115 refl, (low 48 116 refl, tt))))
ref_fits Raw e = (low 48 114 refl, (low 48 97 refl, (low 48 119 refl, tt)))
ref_fits Global e = (low 48 103 refl, (low 48 108 refl, (low 48 111 refl, (low 48 98 refl, (low 48 97 refl, (low 48 108 refl, tt))))))
ref_fits (Cell name number) e =
    let both = and_both (is_name name) (nat_lt number (2 ^ 32)) e in
    let small : number < 2 ^ 32 = grind (arith, nat_tests, both.1) in
    fit_both 48 122 (utf8_of name) (58 ∷ decimal number)
    (subst (AllFit 48 122) (sym (name_text name (both.0))) (wider 65 95 48 122 (omega arith) (omega arith) name (name_fits name (both.0))))
    (low 48 58 refl, wider 48 57 48 122 (omega arith) (omega arith) (decimal number) (decimal_fits number small))

pub kind_fits : (kind : RowKind) → AllFit 48 122 (kind_word kind)
kind_fits Object = (low 48 111 refl, (low 48 98 refl, (low 48 106 refl, (low 48 101 refl, (low 48 99 refl, (low 48 116 refl, tt))))))
kind_fits Array = (low 48 97 refl, (low 48 114 refl, (low 48 114 refl, (low 48 97 refl, (low 48 121 refl, tt)))))
kind_fits Function = (low 48 102 refl, (low 48 117 refl, (low 48 110 refl, (low 48 99 refl, (low 48 116 refl, (low 48 105 refl, (low 48 111 refl, (low 48 110 refl, tt))))))))
kind_fits Bunch = (low 48 98 refl, (low 48 117 refl, (low 48 110 refl, (low 48 99 refl, (low 48 104 refl, tt)))))

refs_fit : (refs : List Ref) → list_all is_ref refs ≡ true → AllFit 32 122 (refs_text refs)
refs_fit [] e = tt
refs_fit (ref ∷ refs) e =
    let both = and_both (is_ref ref) (list_all is_ref refs) e in
    (low 32 32 refl, fit_both 32 122 (ref_word ref) (refs_text refs) (wider 48 122 32 122 (omega arith) (omega arith) (ref_word ref) (ref_fits ref (both.0))) (refs_fit refs (both.1)))

-- a line whose names and numbers are of the stated shape
abbrev pub is_line : Line → Bool
is_line Head = true
is_line (RefusedLine name) = is_name name
is_line (WidgetLine name) = is_name name
is_line (CellLine n row) = nat_lt n (2 ^ 32) && is_row row
is_line (HeldLine refs) = list_all is_ref refs
is_line EndLine = true

name_line : (name : List ℕ) → is_name name ≡ true → AllFit 32 122 (utf8_of name)
name_line name e = subst (AllFit 32 122) (sym (name_text name e)) (wider 65 95 32 122 (omega arith) (omega arith) name (name_fits name e))

pub line_fits : (line : Line) → is_line line ≡ true → AllFit 32 122 (line_words line)
line_fits Head e = (low 32 114 refl, (low 32 101 refl, (low 32 97 refl, (low 32 99 refl, (low 32 104 refl, (low 32 32 refl, (low 32 49 refl, tt)))))))
line_fits (RefusedLine name) e = (low 32 114 refl, (low 32 101 refl, (low 32 102 refl, (low 32 117 refl, (low 32 115 refl, (low 32 101 refl, (low 32 100 refl, (low 32 32 refl, name_line name e))))))))
line_fits (WidgetLine name) e = (low 32 119 refl, (low 32 105 refl, (low 32 100 refl, (low 32 103 refl, (low 32 101 refl, (low 32 116 refl, (low 32 32 refl, name_line name e)))))))
line_fits (CellLine n row) e =
    let both = and_both (nat_lt n (2 ^ 32)) (is_row row) e in
    let small : n < 2 ^ 32 = grind (arith, nat_tests, both.0) in (
      low 32 99 refl,
      (
        low 32 32 refl,
        fit_both 32 122 (decimal n) (32 ∷ kind_word row.kind ++ refs_text row.refs) (wider 48 57 32 122 (omega arith) (omega arith) (decimal n) (decimal_fits n small))
            (low 32 32 refl, fit_both 32 122 (kind_word row.kind) (refs_text row.refs) (wider 48 122 32 122 (omega arith) (omega arith) (kind_word row.kind) (kind_fits row.kind)) (refs_fit row.refs (both.1))),
      ),
    )
line_fits (HeldLine refs) e = (low 32 104 refl, (low 32 101 refl, (low 32 108 refl, (low 32 100 refl, refs_fit refs e))))
line_fits EndLine e = (low 32 101 refl, (low 32 110 refl, (low 32 100 refl, tt)))
