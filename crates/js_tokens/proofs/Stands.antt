-- What a string stands for: one value at most, which the walk by modes gives; and each string of a text has it.
use Rattle.std.proofs.Common.{◌≡◌, ◌≢◌, ℕ, ◌+◌, List, [], ◌∷◌, ◌++◌, Bool, true, false, refl, ap, ◌∙◌, subst, sym, inl, inr, arith}
use Rattle.std.specs.Prelude.{◌*◌, nat_eq, ◌&&◌, not, if◌then◌else◌}
use Rattle.std.specs.Char.Escape.{encode_utf16}
use Rattle.std.proofs.lemmas.Bool.{and_parts, both_ways, cases_Bool, or_cases, eqb-true, false_from_ne_true, false≢true}
use Rattle.js_tokens.specs.declared.value.Mode.TheVariants as mode
use Rattle.js_tokens.specs.declared.class.Class.TheVariants as class
use Rattle.js_tokens.specs.Characters.{class_of, is_digit, is_hex_digit, is_line_end, Begins}
use Rattle.js_tokens.specs.Lexes.{Inside, Part, Close, LineEnd, Backslash, Plain, part_of, Escape, Zero, Digit, TwoDigits, FourDigits, NoEscape, Itself, escape_of, is_escape_of, two_digits as two_come, four_digits as four_come}
use Rattle.js_tokens.specs.Lexes.Inside.{close, plain as plain_char, escape}
use Rattle.js_tokens.specs.Value.{hex_value, string_value}
use Rattle.js_tokens.specs.Says.{StandsFor, is_itself}
use Rattle.js_tokens.specs.Says.StandsFor.{nothing, plain, backspace, tab, line_feed, vertical_tab, form_feed, carriage_return, null, two_digits, four_digits, itself}
use Rattle.js_tokens.proofs.Longest.{at_class}

-- ## One value

not_equal : (a b : ℕ) → a ≢ b → nat_eq a b ≡ false
not_equal a b n = false_from_ne_true (nat_eq a b) (λ e. n (eqb-true a b e))

-- what stands for itself is none of the others
differs : (c k : ℕ) → is_itself k ≡ false → is_itself c ≡ true → nat_eq c k ≡ false
differs c k is c_is = false_from_ne_true (nat_eq c k) (λ e. both_ways (is_itself c) (subst (λ x. is_itself x ≡ false) (sym (eqb-true c k e)) is) c_is)

itself_value : (c : ℕ) (cs : List ℕ) → is_itself c ≡ true → string_value mode.Plain (92 ∷ c ∷ cs) ≡ encode_utf16 c ++ string_value mode.Plain cs
itself_value c cs h =
    rw (differs c 98 refl h, differs c 116 refl h, differs c 110 refl h, differs c 118 refl h, differs c 102 refl h, differs c 114 refl h, differs c 48 refl h, differs c 120 refl h, differs c 117 refl h) refl

plain_value : (c : ℕ) (cs : List ℕ) → c ≢ 92 → string_value mode.Plain (c ∷ cs) ≡ encode_utf16 c ++ string_value mode.Plain cs
plain_value c cs n = rw (not_equal c 92 n) refl

-- the value of no digits is 0
nothing_before : (x : ℕ) → x ≡ 16 * 0 + x
nothing_before x = omega arith

pub value_of : {cs us : List ℕ} → StandsFor cs us → us ≡ string_value mode.Plain cs
value_of nothing = refl
value_of (plain {c} {cs} n s) = ap (λ l. encode_utf16 c ++ l) (value_of s) ∙ sym (plain_value c cs n)
value_of (backspace s) = ap (λ l. 8 ∷ l) (value_of s)
value_of (tab s) = ap (λ l. 9 ∷ l) (value_of s)
value_of (line_feed s) = ap (λ l. 10 ∷ l) (value_of s)
value_of (vertical_tab s) = ap (λ l. 11 ∷ l) (value_of s)
value_of (form_feed s) = ap (λ l. 12 ∷ l) (value_of s)
value_of (carriage_return s) = ap (λ l. 13 ∷ l) (value_of s)
value_of (null f s) = ap (λ l. 0 ∷ l) (value_of s)
value_of (two_digits {h} {i} {cs} p q s) =
    ap (λ l. (16 * hex_value h + hex_value i) ∷ l) (value_of s) ∙ ap (λ x. (16 * x + hex_value i) ∷ string_value mode.Plain cs) (nothing_before (hex_value h))
value_of (four_digits {h} {i} {j} {k} {cs} p q r t s) =
    ap (λ l. (16 * (16 * (16 * hex_value h + hex_value i) + hex_value j) + hex_value k) ∷ l) (value_of s)
    ∙ ap (λ x. (16 * (16 * (16 * x + hex_value i) + hex_value j) + hex_value k) ∷ string_value mode.Plain cs) (nothing_before (hex_value h))
value_of (itself {c} {cs} f s) = ap (λ l. encode_utf16 c ++ l) (value_of s) ∙ sym (itself_value c cs f)

pub one_value : (cs us vs : List ℕ) → StandsFor cs us → StandsFor cs vs → us ≡ vs
one_value cs us vs s t = value_of s ∙ sym (value_of t)

-- ## A string has it

abbrev pub Stands : List ℕ → Type 0
Stands cs = (us : List ℕ) × StandsFor cs us

-- what stands behind a plain character
behind : {c : ℕ} {cs us : List ℕ} → c ≢ 92 → StandsFor (c ∷ cs) us → Stands cs
behind n (plain {us = vs} m s) = (vs, s)
behind n (backspace s) = absurd (n refl)
behind n (tab s) = absurd (n refl)
behind n (line_feed s) = absurd (n refl)
behind n (vertical_tab s) = absurd (n refl)
behind n (form_feed s) = absurd (n refl)
behind n (carriage_return s) = absurd (n refl)
behind n (null f s) = absurd (n refl)
behind n (two_digits p q s) = absurd (n refl)
behind n (four_digits p q r t s) = absurd (n refl)
behind n (itself f s) = absurd (n refl)

hex_plain : (c : ℕ) → is_hex_digit c ≡ true → c ≢ 92
hex_plain c h e = both_ways (is_hex_digit c) (subst (λ x. is_hex_digit x ≡ false) (sym e) refl) h

quote_or : (P : ℕ → Type 0) → P 34 → P 39 → (q : ℕ) → class_of q ≡ class.Quote → P q
quote_or P a b q quote =
    elim (or_cases (nat_eq q 34) (nat_eq q 39) (at_class q class.Quote quote)) [
      | inl e ↦ subst P (sym (eqb-true q 34 e)) a
      | inr e ↦ subst P (sym (eqb-true q 39 e)) b
    ]

-- no quote is a hexadecimal digit
quote_hex : (q : ℕ) → class_of q ≡ class.Quote → is_hex_digit q ≡ true → ⊥
quote_hex q quote h = both_ways (is_hex_digit q) (quote_or (λ x. is_hex_digit x ≡ false) refl refl q quote) h

two_front : (pre rest : List ℕ) (q : ℕ) → (is_hex_digit q ≡ true → ⊥) → two_come (pre ++ q ∷ rest) ≡ true → Stands pre → (us : List ℕ) × StandsFor (92 ∷ 120 ∷ pre) us
two_front [] [] q never h s = absurd (false≢true h)
two_front [] (r ∷ rest) q never h s = absurd (never (and_parts (is_hex_digit q) (is_hex_digit r) h).0)
two_front (a ∷ []) rest q never h s = absurd (never (and_parts (is_hex_digit a) (is_hex_digit q) h).1)
two_front (a ∷ b ∷ pre) rest q never h s =
    let p = and_parts (is_hex_digit a) (is_hex_digit b) h in
    let t = behind (hex_plain b (p.1)) (behind (hex_plain a (p.0)) (s.1)).1 in
    (_, two_digits (p.0) (p.1) (t.1))

four_parts : (x y : ℕ) (cs : List ℕ) → four_come (x ∷ y ∷ cs) ≡ true → (is_hex_digit x ≡ true) × (is_hex_digit y ≡ true) × (two_come cs ≡ true)
four_parts x y cs h =
    let p = and_parts (is_hex_digit x && is_hex_digit y) (two_come cs) h in
    let q = and_parts (is_hex_digit x) (is_hex_digit y) (p.0) in
    (q.0, q.1, p.1)

four_front : (pre rest : List ℕ) (q : ℕ) → (is_hex_digit q ≡ true → ⊥) → four_come (pre ++ q ∷ rest) ≡ true → Stands pre → (us : List ℕ) × StandsFor (92 ∷ 117 ∷ pre) us
four_front [] [] q never h s = absurd (false≢true h)
four_front [] (r ∷ rest) q never h s = absurd (never (four_parts q r rest h).0)
four_front (a ∷ []) rest q never h s = absurd (never (four_parts a q rest h).1)
four_front (a ∷ b ∷ []) [] q never h s = absurd (false≢true (four_parts a b (q ∷ []) h).2)
four_front (a ∷ b ∷ []) (r ∷ rest) q never h s = absurd (never (and_parts (is_hex_digit q) (is_hex_digit r) (four_parts a b (q ∷ r ∷ rest) h).2).0)
four_front (a ∷ b ∷ c ∷ []) rest q never h s = absurd (never (and_parts (is_hex_digit c) (is_hex_digit q) (four_parts a b (c ∷ q ∷ rest) h).2).1)
four_front (a ∷ b ∷ c ∷ d ∷ pre) rest q never h s =
    let p = four_parts a b (c ∷ d ∷ pre ++ q ∷ rest) h in
    let t = and_parts (is_hex_digit c) (is_hex_digit d) (p.2) in
    let u = behind (hex_plain b (p.1)) (behind (hex_plain a (p.0)) (s.1)).1 in
    let v = behind (hex_plain d (t.1)) (behind (hex_plain c (t.0)) (u.1)).1 in
    (_, four_digits (p.0) (p.1) (t.0) (t.1) (v.1))

-- what the kind of an escape says of its character: zero, a digit, `x`, `u` or a line end
abbrev Says : Escape → Bool → Bool → Bool → Bool → Bool → Type 0
Says Zero z d x u l = z ≡ true
Says TwoDigits z d x u l = x ≡ true
Says FourDigits z d x u l = u ≡ true
Says Itself z d x u l = (d ≡ false) × (x ≡ false) × (u ≡ false) × (l ≡ false)
Says _ z d x u l = Unit {0}

says : (z d x u l : Bool) → Says (if z then Zero else (if d then Digit else (if x then TwoDigits else (if u then FourDigits else (if l then NoEscape else Itself))))) z d x u l
says true d x u l = refl
says false true x u l = tt
says false false true u l = refl
says false false false true l = refl
says false false false false true = tt
says false false false false false = (refl, refl, refl, refl)

said : (d : ℕ) (k : Escape) → escape_of d ≡ k → Says k (nat_eq d 48) (is_digit d) (nat_eq d 120) (nat_eq d 117) (is_line_end d)
said d k e = subst (λ x. Says x (nat_eq d 48) (is_digit d) (nat_eq d 120) (nat_eq d 117) (is_line_end d)) e (says (nat_eq d 48) (is_digit d) (nat_eq d 120) (nat_eq d 117) (is_line_end d))

-- the letters that stand for one unit, or any other character
letter : (d : ℕ) (pre : List ℕ) → escape_of d ≡ Itself → Stands pre → (us : List ℕ) × StandsFor (92 ∷ d ∷ pre) us
letter d pre is s =
    elim (cases_Bool (nat_eq d 98)) [
      | inl e ↦ subst (λ c. Stands (92 ∷ c ∷ pre)) (sym (eqb-true d 98 e)) (_, backspace (s.1))
      | inr b ↦
          elim (cases_Bool (nat_eq d 116)) [
            | inl e ↦ subst (λ c. Stands (92 ∷ c ∷ pre)) (sym (eqb-true d 116 e)) (_, tab (s.1))
            | inr t ↦
                elim (cases_Bool (nat_eq d 110)) [
                  | inl e ↦ subst (λ c. Stands (92 ∷ c ∷ pre)) (sym (eqb-true d 110 e)) (_, line_feed (s.1))
                  | inr n ↦
                      elim (cases_Bool (nat_eq d 118)) [
                        | inl e ↦ subst (λ c. Stands (92 ∷ c ∷ pre)) (sym (eqb-true d 118 e)) (_, vertical_tab (s.1))
                        | inr v ↦
                            elim (cases_Bool (nat_eq d 102)) [
                              | inl e ↦ subst (λ c. Stands (92 ∷ c ∷ pre)) (sym (eqb-true d 102 e)) (_, form_feed (s.1))
                              | inr f ↦
                                  elim (cases_Bool (nat_eq d 114)) [
                                    | inl e ↦ subst (λ c. Stands (92 ∷ c ∷ pre)) (sym (eqb-true d 114 e)) (_, carriage_return (s.1))
                                    | inr r ↦
                                        (let p = said d Itself is in let h : is_itself d ≡ true = rw (p.0, p.1, p.2, p.3, b, t, n, v, f, r) refl in (_, itself h (s.1)))
                                  ]
                            ]
                      ]
                ]
          ]
    ]

no_digit : (pre rest : List ℕ) (q : ℕ) → not (Begins is_digit (pre ++ q ∷ rest)) ≡ true → Begins is_digit pre ≡ false
no_digit [] rest q h = refl
no_digit (a ∷ pre) rest q h = false_from_ne_true (is_digit a) (λ e. both_ways (not (is_digit a)) (rw e refl) h)

escaped_stands : (d : ℕ) (pre rest : List ℕ) (q : ℕ) (k : Escape) → class_of q ≡ class.Quote → escape_of d ≡ k → is_escape_of k (pre ++ q ∷ rest) ≡ true → Stands pre → Stands (92 ∷ d ∷ pre)
escaped_stands d pre rest q Zero quote is h s = subst (λ c. Stands (92 ∷ c ∷ pre)) (sym (eqb-true d 48 (said d Zero is))) (_, null (no_digit pre rest q h) (s.1))
escaped_stands d pre rest q Digit quote is h s = absurd (false≢true h)
escaped_stands d pre rest q TwoDigits quote is h s = subst (λ c. Stands (92 ∷ c ∷ pre)) (sym (eqb-true d 120 (said d TwoDigits is))) (two_front pre rest q (quote_hex q quote) h s)
escaped_stands d pre rest q FourDigits quote is h s = subst (λ c. Stands (92 ∷ c ∷ pre)) (sym (eqb-true d 117 (said d FourDigits is))) (four_front pre rest q (quote_hex q quote) h s)
escaped_stands d pre rest q NoEscape quote is h s = absurd (false≢true h)
escaped_stands d pre rest q Itself quote is h s = letter d pre is s

-- what a character is: the quote, a backslash, or neither
abbrev Parts : Part → Bool → Bool → Bool → Type 0
Parts Close q l b = q ≡ true
Parts LineEnd q l b = Unit {0}
Parts Backslash q l b = b ≡ true
Parts Plain q l b = b ≡ false

parts : (q l b : Bool) → Parts (if q then Close else (if l then LineEnd else (if b then Backslash else Plain))) q l b
parts true l b = refl
parts false true b = tt
parts false false true = refl
parts false false false = refl

parted : (q c : ℕ) (p : Part) → part_of q c ≡ p → Parts p (nat_eq c q) (is_line_end c) (nat_eq c 92)
parted q c p e = subst (λ x. Parts x (nat_eq c q) (is_line_end c) (nat_eq c 92)) e (parts (nat_eq c q) (is_line_end c) (nat_eq c 92))

-- the characters of a string before its quote, and what they stand for
pub record Front (q : ℕ) (cs rest : List ℕ) : Type 0 where
  pub pre : List ℕ
  pub whole : cs ≡ pre ++ q ∷ rest
  pub stands : Stands pre

pub string_front : {q : ℕ} {cs rest : List ℕ} → class_of q ≡ class.Quote → Inside q cs rest → Front q cs rest
string_front {q} {rest = rest} quote (close {c} e) = record { pre = []; whole = ap (λ x. x ∷ rest) (eqb-true c q (parted q c Close e)); stands = ([], nothing) }
string_front {q} quote (plain_char {c} e i) =
    let f = string_front quote i in
    let n : c ≢ 92 = λ is. both_ways (nat_eq c 92) (parted q c Plain e) (rw is refl) in
    record { pre = c ∷ f.pre; whole = ap (λ l. c ∷ l) f.whole; stands = (_, plain n (f.stands.1)) }
string_front {q} {rest = rest} quote (escape {c} {d} {cs} e h i) =
    let f = string_front quote i in
    let is : c ≡ 92 = eqb-true c 92 (parted q c Backslash e) in
    let good : is_escape_of (escape_of d) (f.pre ++ q ∷ rest) ≡ true = subst (λ l. is_escape_of (escape_of d) l ≡ true) f.whole h in
    record {
      pre = c ∷ d ∷ f.pre;
      whole = ap (λ l. c ∷ d ∷ l) f.whole;
      stands = subst (λ x. Stands (x ∷ d ∷ f.pre)) (sym is) (escaped_stands d f.pre rest q (escape_of d) quote refl good f.stands);
    }
