-- The tokens of a text have proper texts.
use Rattle.std.proofs.Common.{◌≡◌, ℕ, zero, suc, ◌+◌, ◌-◌, ◌<◌, List, [], ◌∷◌, ◌++◌, length, take, drop, Bool, true, false, refl, ap, ◌∙◌, subst, sym, arith, length-append, encode_utf8, encode_utf8_all, All}
use Rattle.std.specs.Prelude.{◌/◌, ◌%◌, nat_lt, slice_range}
use Rattle.std.specs.List.{list_all}
use Rattle.std.specs.Str.{IsUtf8, bytes_eq, chars, all_scalars}
use Rattle.std.specs.Char.Escape.{encode_utf16}
use Rattle.std.proofs.Math.Utf8.{scalar}
use Rattle.std.proofs.lemmas.Bool.{and_parts, cond_both, false≢true}
use Rattle.std.proofs.lemmas.Bool.Decides.{nat_tests}
use Rattle.std.proofs.lemmas.Str.{encodes-chars, scalars-chars, encodes-append, length-encode}
use Rattle.js_grammar.specs.declared.Sign.{Sign}
use Rattle.js_grammar.specs.declared.Sign.TheVariants as sign
use Rattle.exact_refusals.specs.Places.{signs, HasTree}
use Rattle.js_grammar.specs.Grammar.{Token as Seen, Deep, IsProgram}
use Rattle.js_grammar.specs.Unplaced.{unplaced_stmts}
use Rattle.js_parser.specs.Signs.{look_up, words, marks, sign_as, sign_of, input}
use Rattle.js_parser.proofs.Tokens.{lexes_tokens}
use Rattle.js_tokens.specs.declared.token.Token.{Token}
use Rattle.js_tokens.specs.declared.token.TokenKind.{TokenKind}
use Rattle.js_tokens.specs.declared.token.TokenKind.TheVariants as kind
use Rattle.js_tokens.specs.Characters.{is_hex_digit}
use Rattle.js_tokens.specs.Words.{is_reserved}
use Rattle.js_tokens.specs.Says.{StandsFor}
use Rattle.js_tokens.specs.Says.StandsFor.{nothing, plain, backspace, tab, line_feed, vertical_tab, form_feed, carriage_return, null, two_digits, four_digits, itself}
use Rattle.js_tokens.specs.Value.{hex_value, text_between, text_of}
use Rattle.js_tokens.specs.Lexes.{front, Run, Fraction, Plus, Exponent, Number, size, Spelled, Reads, Lexes, IsTokenOf}
use Rattle.js_tokens.specs.Lexes.Run.{none, more}
use Rattle.js_tokens.specs.Lexes.Fraction.{no_fraction, fraction}
use Rattle.js_tokens.specs.Lexes.Plus.{no_sign, sign as plus_sign}
use Rattle.js_tokens.specs.Lexes.Exponent.{no_exponent, exponent}
use Rattle.js_tokens.specs.Lexes.Number.{hexadecimal, decimal, point}
use Rattle.js_tokens.specs.Lexes.Spelled.{name, number}
use Rattle.js_tokens.specs.Lexes.Reads.{done, blank, line_comment, comment, token}
use Rattle.js_tokens.proofs.Runs.{Suffix, whole, next, suffix_more, run_suffix}
use Rattle.js_tokens.proofs.Strings.{comment_suffix}
use Rattle.js_tokens.proofs.Longest.{spelled_suffix}
use Rattle.js_tokens.proofs.Lies.{Lies, size_cons, suffix_size, string_lies, said_string}
use Rattle.js_tree.specs.Plain.{Stmts}
use Rattle.tidy_laws.specs.Laws.{IsTidied}
use Rattle.tidy_laws.specs.Proper.{IsProper}
use Rattle.tidy_laws.specs.Tame.{TameStmts}
use Rattle.tidy_laws.specs.Told.{AreFit}
use Rattle.tidy_laws.proofs.Join.{any_tidied, tame_tidied}
use Rattle.tidy_laws.proofs.Solid.{both, name_solid, number_solid, solid_ascii}
use Rattle.tidy_laws.proofs.Words.{is_ascii, encodes_ascii, front_append, front_whole, take_length, are_units}

-- ## A token without what follows it

-- what stands before rest is w
record Cut (R : List ℕ → List ℕ → Type 0) (cs m r : List ℕ) : Type 0 where
  w : List ℕ
  split : cs ≡ w ++ r
  is : R w m

cut_run : {p : ℕ → Bool} {cs rest : List ℕ} (m r : List ℕ) → Run p cs rest → rest ≡ m ++ r → Cut (Run p) cs m r
cut_run m r none e = record { w = m; split = e; is = none }
cut_run m r (more {c} f q) e = let k = cut_run m r q e in record { w = c ∷ k.w; split = ap (λ l. c ∷ l) k.split; is = more f k.is }

cut_fraction : {cs rest : List ℕ} (m r : List ℕ) → Fraction cs rest → rest ≡ m ++ r → Cut Fraction cs m r
cut_fraction m r no_fraction e = record { w = m; split = e; is = no_fraction }
cut_fraction m r (fraction {c} f q) e = let k = cut_run m r q e in record { w = c ∷ k.w; split = ap (λ l. c ∷ l) k.split; is = fraction f k.is }

-- a sign before a digit
cut_plus : {cs rest : List ℕ} (m r : List ℕ) → Plus cs rest → rest ≡ m ++ r → Cut Plus cs m r
cut_plus m r no_sign e = record { w = m; split = e; is = no_sign }
cut_plus m r (plus_sign {c} f) e = record { w = c ∷ m; split = ap (λ l. c ∷ l) e; is = plus_sign f }

cut_exponent : {cs rest : List ℕ} (m r : List ℕ) → Exponent cs rest → rest ≡ m ++ r → Cut Exponent cs m r
cut_exponent m r no_exponent e = record { w = m; split = e; is = no_exponent }
cut_exponent m r (exponent {c} {d} f s h q) e =
    let k = cut_run m r q e in
    let j = cut_plus (d ∷ k.w) r s (ap (λ l. d ∷ l) k.split) in
    record { w = c ∷ j.w; split = ap (λ l. c ∷ l) j.split; is = exponent f j.is h k.is }

cut_number : {cs rest : List ℕ} (m r : List ℕ) → Number cs rest → rest ≡ m ++ r → Cut Number cs m r
cut_number m r (hexadecimal {a} {b} {c} f g h q) e = let k = cut_run m r q e in record { w = a ∷ b ∷ c ∷ k.w; split = ap (λ l. a ∷ b ∷ c ∷ l) k.split; is = hexadecimal f g h k.is }
cut_number m r (decimal {c} f q g x) e =
    let k = cut_exponent m r x e in
    let j = cut_fraction k.w r g k.split in
    let i = cut_run j.w r q j.split in
    record { w = c ∷ i.w; split = ap (λ l. c ∷ l) i.split; is = decimal f i.is j.is k.is }
cut_number m r (point {c} {d} f h q x) e =
    let k = cut_exponent m r x e in
    let i = cut_run k.w r q k.split in
    record { w = c ∷ d ∷ i.w; split = ap (λ l. c ∷ d ∷ l) i.split; is = point f h i.is k.is }

-- what a token of this kind is by itself
record Alone (k : TokenKind) (start rest : List ℕ) : Type 0 where
  w : List ℕ
  split : start ≡ w ++ rest
  is : Spelled k w []
  ascii : is_ascii w ≡ true

name_alone : {start rest : List ℕ} → Spelled kind.Name start rest → Alone kind.Name start rest
name_alone {rest = rest} (name {c} {cs} e r n) =
    let k = cut_run [] rest r refl in
    let w = c ∷ k.w in
    let free : is_reserved (front w []) ≡ false = ap is_reserved (front_whole w ∙ sym (front_append w rest)) ∙ ap (λ l. is_reserved (front (c ∷ l) rest)) (sym k.split) ∙ n in
    let it : Spelled kind.Name w [] = name e k.is free in
    record { w = w; split = ap (λ l. c ∷ l) k.split; is = it; ascii = solid_ascii w (name_solid it) }

number_alone : {start rest : List ℕ} → Spelled kind.Number start rest → Alone kind.Number start rest
number_alone {rest = rest} (number n) =
    let k = cut_number [] rest n refl in
    let it : Spelled kind.Number k.w [] = number k.is in
    record { w = k.w; split = k.split; is = it; ascii = solid_ascii k.w (number_solid it) }

-- ## Its bytes

drop_past : (xs ys : List ℕ) (n k : ℕ) → n ≡ length xs + k → drop n (xs ++ ys) ≡ drop k ys
drop_past [] ys n k e = ap (λ i. drop i ys) (omega (arith, e))
drop_past (x ∷ xs) ys zero k e = absurd (omega (arith, e))
drop_past (x ∷ xs) ys (suc n) k e = drop_past xs ys n k (omega (arith, e))

suffix_bytes : {cs rest : List ℕ} → Suffix cs rest → drop (size cs - size rest) (encode_utf8_all cs) ≡ encode_utf8_all rest
suffix_bytes {cs} whole = let e : size cs - size cs ≡ 0 = omega arith in ap (λ i. drop i (encode_utf8_all cs)) e
suffix_bytes (next {c} {cs} {rest} s) =
    let a = size_cons c cs in
    let b = suffix_size s in
    let l = length-encode c in
    drop_past (encode_utf8 c) (encode_utf8_all cs) (size (c ∷ cs) - size rest) (size cs - size rest) (omega (arith, a, b, l)) ∙ suffix_bytes s

lies_bytes : (bytes : List ℕ) (t : Token) (k : TokenKind) → IsUtf8 bytes → (l : Lies (length bytes) (chars bytes) t) → (a : Alone k l.start l.rest) → slice_range bytes t.from t.to ≡ a.w
lies_bytes bytes t k utf8 l a =
    let cs = chars bytes in
    let spell : encode_utf8_all cs ≡ bytes = encodes-chars bytes utf8 in
    let n : size cs ≡ length bytes = ap length spell in
    let le = suffix_size l.suffix in
    let w_bytes : encode_utf8_all a.w ≡ a.w = encodes_ascii a.w a.ascii in
    let start_bytes : encode_utf8_all l.start ≡ a.w ++ encode_utf8_all l.rest = ap encode_utf8_all a.split ∙ encodes-append a.w l.rest ∙ ap (λ x. x ++ encode_utf8_all l.rest) w_bytes in
    let sizes : size l.start ≡ length a.w + size l.rest = ap length start_bytes ∙ length-append a.w (encode_utf8_all l.rest) in
    let f = l.from_is in
    let g = l.to_is in
    let there : drop t.from bytes ≡ a.w ++ encode_utf8_all l.rest =
    ap (λ x. drop t.from x) (sym spell) ∙ ap (λ x. drop x (encode_utf8_all cs)) (let e : t.from ≡ size cs - size l.start = omega (arith, f, n) in e) ∙ suffix_bytes l.suffix ∙ start_bytes in
    ap (take (t.to - t.from)) there ∙ take_length a.w (encode_utf8_all l.rest) (t.to - t.from) (omega (arith, f, g, sizes, n, le))

-- ## The units of a string

hex_small : (c : ℕ) → is_hex_digit c ≡ true → hex_value c < 16
hex_small c e = grind (arith, nat_tests)

small_true : (u n : ℕ) → u < n → nat_lt u n ≡ true
small_true u n h = grind (arith, nat_tests)

scalar_less : (c : ℕ) → scalar c ≡ true → c < 1114112
scalar_less c e = grind (arith, nat_tests)

char_units : (c : ℕ) → scalar c ≡ true → are_units (encode_utf16 c) ≡ true
char_units c e =
    let l = scalar_less c e in
    cond_both (nat_lt c 65536) (c ∷ []) _ (λ us. are_units us ≡ true)
    (λ f. both (nat_lt c 65536) true f refl)
    (λ f.
    let high = 0xD800 + (c - 0x1_0000) / 0x400 in
    let low = 0xDC00 + (c - 0x1_0000) % 0x400 in
    both (nat_lt high 65536) (are_units (low ∷ [])) (small_true high 65536 (omega (arith, l))) (both (nat_lt low 65536) true (small_true low 65536 (omega arith)) refl))

units_append : (us vs : List ℕ) → are_units us ≡ true → are_units vs ≡ true → are_units (us ++ vs) ≡ true
units_append [] vs e f = f
units_append (u ∷ us) vs e f = let each = and_parts (nat_lt u 65536) (are_units us) e in both (nat_lt u 65536) (are_units (us ++ vs)) each.0 (units_append us vs each.1 f)

unit_more : (u : ℕ) (us : List ℕ) → u < 65536 → are_units us ≡ true → are_units (u ∷ us) ≡ true
unit_more u us lt e = both (nat_lt u 65536) (are_units us) (small_true u 65536 lt) e

behind : (c : ℕ) (cs : List ℕ) → all_scalars (c ∷ cs) ≡ true → all_scalars cs ≡ true
behind c cs e = (and_parts (scalar c) (all_scalars cs) e).1

stands_units : {cs us : List ℕ} → StandsFor cs us → all_scalars cs ≡ true → are_units us ≡ true
stands_units nothing e = refl
stands_units (plain {c} {cs} {us} n s) e = units_append (encode_utf16 c) us (char_units c (and_parts (scalar c) (all_scalars cs) e).0) (stands_units s (behind c cs e))
stands_units (backspace {cs} s) e = stands_units s (behind 98 cs (behind 92 (98 ∷ cs) e))
stands_units (tab {cs} s) e = stands_units s (behind 116 cs (behind 92 (116 ∷ cs) e))
stands_units (line_feed {cs} s) e = stands_units s (behind 110 cs (behind 92 (110 ∷ cs) e))
stands_units (vertical_tab {cs} s) e = stands_units s (behind 118 cs (behind 92 (118 ∷ cs) e))
stands_units (form_feed {cs} s) e = stands_units s (behind 102 cs (behind 92 (102 ∷ cs) e))
stands_units (carriage_return {cs} s) e = stands_units s (behind 114 cs (behind 92 (114 ∷ cs) e))
stands_units (null {cs} f s) e = stands_units s (behind 48 cs (behind 92 (48 ∷ cs) e))
stands_units (two_digits {h} {i} {cs} {us} p q s) e =
    let a = hex_small h p in
    let b = hex_small i q in
    unit_more _ us (omega (arith, a, b)) (stands_units s (behind i cs (behind h (i ∷ cs) (behind 120 (h ∷ i ∷ cs) (behind 92 (120 ∷ h ∷ i ∷ cs) e)))))
stands_units (four_digits {h} {i} {j} {k} {cs} {us} p q r t s) e =
    let a = hex_small h p in
    let b = hex_small i q in
    let c = hex_small j r in
    let d = hex_small k t in
    unit_more _ us (omega (arith, a, b, c, d)) (stands_units s (behind k cs (behind j (k ∷ cs) (behind i (j ∷ k ∷ cs) (behind h (i ∷ j ∷ k ∷ cs) (behind 117 (h ∷ i ∷ j ∷ k ∷ cs) (behind 92 (117 ∷ h ∷ i ∷ j ∷ k ∷ cs) e)))))))
stands_units (itself {c} {cs} {us} f s) e =
    let g = behind 92 (c ∷ cs) e in
    units_append (encode_utf16 c) us (char_units c (and_parts (scalar c) (all_scalars cs) g).0) (stands_units s (behind c cs g))

string_proper : (bytes : List ℕ) (t : Token) → IsTokenOf bytes t → t.kind ≡ kind.Str → are_units (text_of bytes t) ≡ true
string_proper bytes t h is =
    let l = string_lies bytes t h is in
    stands_units (said_string bytes t h is) (scalars-chars _ l.inner)

-- ## Reserved words and marks

abbrev is_plain : Sign → Bool
is_plain sign.Name = false
is_plain sign.Number = false
is_plain sign.Str = false
is_plain _ = true

plain_proper : (s : Sign) (text : List ℕ) → is_plain s ≡ true → IsProper s text
plain_proper sign.Name text e = absurd (false≢true e)
plain_proper sign.Number text e = absurd (false≢true e)
plain_proper sign.Str text e = absurd (false≢true e)
plain_proper _ text e = tt

look_up_plain : (rows : List (List ℕ × Sign)) (text : List ℕ) → list_all (λ row. is_plain row.1) rows ≡ true → is_plain (look_up rows text) ≡ true
look_up_plain [] text e = refl
look_up_plain (row ∷ rows) text e =
    let each = and_parts (is_plain row.1) (list_all (λ r. is_plain r.1) rows) e in
    cond_both (bytes_eq text row.0) row.1 (look_up rows text) (λ s. is_plain s ≡ true) (λ _. each.0) (λ _. look_up_plain rows text each.1)

words_plain : list_all (λ row. is_plain row.1) words ≡ true
unfolding words
words_plain = refl

marks_plain : list_all (λ row. is_plain row.1) marks ≡ true
unfolding marks
marks_plain = refl

-- ## Each token

text_bytes : (bytes : List ℕ) (t : Token) (k : TokenKind) → t.kind ≡ k → text_of bytes t ≡ text_between k bytes t.from t.to
unfolding text_of
text_bytes bytes t k e = ap (λ x. text_between x bytes t.from t.to) e

spelled_as : {j k : TokenKind} {start rest : List ℕ} → j ≡ k → Spelled j start rest → Spelled k start rest
spelled_as {start = start} {rest} e s = subst (λ x. Spelled x start rest) e s

proper_as : (bytes : List ℕ) (t : Token) (k : TokenKind) → t.kind ≡ k → IsUtf8 bytes → IsTokenOf bytes t → Lies (length bytes) (chars bytes) t → IsProper (sign_as k (slice_range bytes t.from t.to)) (text_of bytes t)
proper_as bytes t kind.Name e utf8 h l =
    let a = name_alone (spelled_as e l.spelled) in
    subst (λ us. Spelled kind.Name us []) (sym (text_bytes bytes t kind.Name e ∙ lies_bytes bytes t kind.Name utf8 l a)) a.is
proper_as bytes t kind.Number e utf8 h l =
    let a = number_alone (spelled_as e l.spelled) in
    subst (λ us. Spelled kind.Number us []) (sym (text_bytes bytes t kind.Number e ∙ lies_bytes bytes t kind.Number utf8 l a)) a.is
proper_as bytes t kind.Str e utf8 h l = string_proper bytes t h e
proper_as bytes t kind.Reserved e utf8 h l = plain_proper _ _ (look_up_plain words _ words_plain)
proper_as bytes t kind.Mark e utf8 h l = plain_proper _ _ (look_up_plain marks _ marks_plain)

abbrev Propers : List ℕ → List Token → Type 0
Propers bytes [] = Unit {0}
Propers bytes (t ∷ ts) = IsProper (sign_of bytes t) (text_of bytes t) × Propers bytes ts

reads_proper : (bytes cs : List ℕ) (ts : List Token) → IsUtf8 bytes → Suffix (chars bytes) cs → Reads (length bytes) cs ts → All (IsTokenOf bytes) ts → Propers bytes ts
reads_proper bytes cs ts utf8 suffix done all = tt
reads_proper bytes cs ts utf8 suffix (blank {cs = ds} f h) all = reads_proper bytes ds ts utf8 (suffix_more suffix (next whole)) h all
reads_proper bytes cs ts utf8 suffix (line_comment {rest = rest} f g r stop h) all = reads_proper bytes rest ts utf8 (suffix_more suffix (next (next (run_suffix r)))) h all
reads_proper bytes cs ts utf8 suffix (comment {rest = rest} f g c h) all = reads_proper bytes rest ts utf8 (suffix_more suffix (next (next (comment_suffix c)))) h all
reads_proper bytes cs ts utf8 suffix (token {k} {rest = rest} {ts = us} s long apart h) all =
    let t : Token = record { kind = k; from = length bytes - size cs; to = length bytes - size rest } in (
      proper_as bytes t k refl utf8 (all 0 t (omega arith)) (record { start = cs; rest = rest; suffix = suffix; spelled = s; from_is = refl; to_is = refl }),
      reads_proper bytes rest us utf8 (suffix_more suffix (spelled_suffix s)) h (λ i d lt. all (suc i) d (omega (arith, lt))),
    )

-- ## What the grammar sees

abbrev FitTokens : List Seen → Type 0
FitTokens [] = Unit {0}
FitTokens ((s, x) ∷ ts) = IsProper s x.text × FitTokens ts

input_fit : (bytes : List ℕ) (ts : List Token) → Propers bytes ts → FitTokens (input bytes ts)
input_fit bytes [] p = (tt, tt)
input_fit bytes (t ∷ ts) p = (p.0, input_fit bytes ts p.1)

fit_of : (ts : List Deep) → FitTokens (signs ts) → AreFit IsProper ts
fit_of [] f = tt
fit_of (((s, x), d) ∷ ts) f = (f.0, fit_of ts f.1)

-- the tokens of a text have proper texts
pub tokens_fit : (bytes : List ℕ) (lexed : List Token) (ts : List Deep) → Lexes bytes lexed → signs ts ≡ input bytes lexed → AreFit IsProper ts
tokens_fit bytes lexed ts l same =
    let p = reads_proper bytes (chars bytes) lexed l.0 whole l.1 (lexes_tokens bytes lexed l) in
    fit_of ts (subst FitTokens (sym same) (input_fit bytes lexed p))

-- the tidied text of a text's program
pub any_text : (limit : ℕ) (bytes : List ℕ) (lexed : List Token) (p : Stmts) → Lexes bytes lexed → HasTree IsProgram limit (input bytes lexed) p → (depth : ℕ) × IsTidied depth p
any_text limit bytes lexed p l h = any_tidied h.tokens p h.spelled (tokens_fit bytes lexed h.tokens l h.same)

pub tame_text : (limit : ℕ) (bytes : List ℕ) (lexed : List Token) (p q : Stmts) → Lexes bytes lexed → HasTree IsProgram limit (input bytes lexed) q → unplaced_stmts q ≡ unplaced_stmts p → TameStmts p → IsTidied limit p
tame_text limit bytes lexed p q l h e t = tame_tidied limit h.tokens p q h.spelled h.within (tokens_fit bytes lexed h.tokens l h.same) e t
