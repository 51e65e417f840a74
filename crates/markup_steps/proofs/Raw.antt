-- Raw text that is read at once.
use Rattle.std.proofs.Common.{◌≡◌, ℕ, ◌+◌, List, [], ◌∷◌, ◌++◌, false, Some, length, take, drop, refl, sym, ap, ◌∙◌, arith, append_assoc, append-nil, length-append, encode_utf8, encode_utf8_all}
use Rattle.std.specs.Global.{Vec}
use Rattle.std.specs.Prelude.{◌==◌, Result, Ok, Err, OnOk}
use Rattle.std.specs.Char.{len_utf8}
use Rattle.std.specs.Char.Escape.{encode_utf16}
use Rattle.std.specs.Str.{IsUtf8, IsAscii, IsCharBoundary, NoCharPasses, NonePass, chars}
use Rattle.std.proofs.lemmas.Bool.Decides.{nat_tests}
use Rattle.std.proofs.lemmas.List.{length-take-le, take-append-drop}
use Rattle.std.proofs.lemmas.Str.{IsUtf8-take, chars-append, chars_from_encodes, length-encode}
use Rattle.code_units.proofs.Utf8Laws.{units_of-ascii}
use Rattle.code_units.specs.Utf8.{units_of, units_of_chars}
use Rattle.markup_grammar.specs.declared.Sign.{Sign}
use Rattle.markup_grammar.specs.declared.Sign.TheVariants as sign
use Rattle.markup_grammar.specs.Judge.{goes_on, reads}
use Rattle.markup_grammar.specs.Machine as machine
use Rattle.markup_grammar.specs.Machine.{Opening, Open, State_at, InRaw}
use Rattle.markup_grammar.specs.Signs.{Spot, is_less, sign_of}
use Rattle.markup_steps.specs.declared.mode.Mode.TheVariants as mode
use Rattle.markup_steps.specs.declared.reader.Reader.{Reader}
use Rattle.markup_steps.specs.States.{state_of, mode_of, trees_of, opens_of, opening_of}
use Rattle.plain_tree.specs.Trees.{Trees}
use Rattle.plain_tree.specs.Plains.{Places}

-- only `<` has its sign
no_less : (c : ℕ) → (c == 60) ≡ false → is_less (sign_of c) ≡ false
no_less c e = grind (arith, nat_tests, e)

raw_step : (h : Opening) (at : ℕ) (us : List ℕ) (ts : Trees Places) (k : List Open) (s : Sign) (x : Spot) → is_less s ≡ false → machine.in_raw h at us ts k s x ≡ Some (State_at (InRaw h at (us ++ encode_utf16 x.code)) ts k)
raw_step h at us ts k sign.Less x e = cc
raw_step h at us ts k s x e = refl

-- each character but `<` is added
raw_chars : (h : Opening) (p : ℕ) (us : List ℕ) (ts : Trees Places) (k : List Open) (cs ds : List ℕ) (at : ℕ) → NonePass (λ c. c == 60) cs → reads (State_at (InRaw h p us) ts k) at (cs ++ ds) ≡ reads (State_at (InRaw h p (us ++ units_of_chars cs)) ts k) (at + length (encode_utf8_all cs)) ds
raw_chars h p us ts k [] ds at none = ap (λ vs. reads (State_at (InRaw h p vs) ts k) at ds) (sym (append-nil us)) ∙ ap (λ n. reads (State_at (InRaw h p (us ++ [])) ts k) n ds) (omega arith)
raw_chars h p us ts k (c ∷ cs) ds at none =
    ap (λ o. goes_on o at (λ next. reads next (at + len_utf8 c) (cs ++ ds))) (raw_step h p us ts k (sign_of c) (record { code = c; at = at }) (no_less c none.0))
    ∙ raw_chars h p (us ++ encode_utf16 c) ts k cs ds (at + len_utf8 c) none.1
    ∙ ap (λ vs. reads (State_at (InRaw h p vs) ts k) (at + len_utf8 c + length (encode_utf8_all cs)) ds) (append_assoc us (encode_utf16 c) (units_of_chars cs))
    ∙ ap (λ n. reads (State_at (InRaw h p (us ++ units_of_chars (c ∷ cs))) ts k) n ds) (omega (arith, length-append (encode_utf8 c) (encode_utf8_all cs), length-encode c))

-- the front of a text, in which no `<` stands
pub raw_read : (h : Opening) (p : ℕ) (us : List ℕ) (ts : Trees Places) (k : List Open) (text : List ℕ) (n at : ℕ) → IsUtf8 text → IsCharBoundary text n → NoCharPasses (λ c. c == 60) (take n text) → reads (State_at (InRaw h p us) ts k) at (chars text) ≡ reads (State_at (InRaw h p (us ++ units_of (take n text))) ts k) (at + n) (chars (drop n text))
unfolding units_of
raw_read h p us ts k text n at u b none =
    let f = IsUtf8-take text n u b in
    let cs : none.0 ≡ chars (take n text) = chars_from_encodes none.0 (take n text) f none.1 in
    let long : length (encode_utf8_all none.0) ≡ n = ap length none.1 ∙ length-take-le n text b.0 in
    ap (reads (State_at (InRaw h p us) ts k) at) (ap chars (sym (take-append-drop n text)) ∙ chars-append (take n text) (drop n text) f ∙ ap (λ l. l ++ chars (drop n text)) (sym cs))
    ∙ raw_chars h p us ts k none.0 (chars (drop n text)) at none.2
    ∙ ap (λ l. reads (State_at (InRaw h p (us ++ units_of_chars l)) ts k) (at + length (encode_utf8_all none.0)) (chars (drop n text))) cs
    ∙ ap (λ m. reads (State_at (InRaw h p (us ++ units_of (take n text))) ts k) (at + m) (chars (drop n text))) long

-- a reader takes it
pub raw_taken : (r : Reader) (units : Vec ℕ) (text run : List ℕ) (n at : ℕ) → r.mode ≡ mode.InRaw → IsUtf8 text → IsCharBoundary text n → NoCharPasses (λ c. c == 60) (take n text) → run ≡ take n text → units.items ≡ r.piece.units.items ++ units_of run → reads (state_of r) at (chars text) ≡ reads (state_of (record r { piece = record { units = units; at = r.piece.at } })) (at + n) (chars (drop n text))
raw_taken r units text run n at e u b none is grown =
    let s : Reader = record r { piece = record { units = units; at = r.piece.at } } in
    ap (λ m. reads (State_at (mode_of r m) (trees_of r) (opens_of r)) at (chars text)) e
    ∙ raw_read (opening_of r.head) r.piece.at r.piece.units.items (trees_of r) (opens_of r) text n at u b none
    ∙ ap (λ us. reads (State_at (InRaw (opening_of r.head) r.piece.at us) (trees_of r) (opens_of r)) (at + n) (chars (drop n text))) (sym (grown ∙ ap (λ l. r.piece.units.items ++ units_of l) is))
    ∙ sym (ap (λ m. reads (State_at (mode_of s m) (trees_of s) (opens_of s)) (at + n) (chars (drop n text))) e)

-- ASCII bytes are their units
pub ascii_units : {E : Type 0} (r : Result (Unit {0}) E) (before after text bytes : List ℕ) → IsAscii text → bytes ≡ text → OnOk r (after ≡ before ++ bytes) → OnOk r (after ≡ before ++ units_of text)
ascii_units (Ok u) before after text bytes a is e = e ∙ ap (λ us. before ++ us) (is ∙ sym (units_of-ascii text a))
ascii_units (Err e) before after text bytes a is h = tt
