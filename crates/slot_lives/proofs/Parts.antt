-- The parts of printed trees are spelled.
use Rattle.std.proofs.Common.{◌≡◌, ℕ, suc, ◌+◌, List, [], ◌∷◌, ◌++◌, Bool, true, false, cond, ◌&&◌, nat_eq, map, refl, sym, ap, ◌∙◌, subst, append_assoc, append-nil, eqb-true}
use Rattle.std.specs.Prelude.{codes}
use Rattle.std.specs.List.{list_all}
use Rattle.std.specs.Char.{len_utf8}
use Rattle.std.specs.Char.Escape.{encode_utf16}
use Rattle.std.specs.Char.Utf16.{utf16_lossy_chars}
use Rattle.code_units.specs.Utf8.{units_of_chars}
use Rattle.code_units.proofs.Signs.{and_both}
use Rattle.markup_grammar.specs.declared.Sign.{Sign}
use Rattle.markup_grammar.specs.Signs.{Char, sign_of, located, in_tag, in_attribute, in_text, in_value}
use Rattle.markup_grammar.specs.Grammar as grammar
use Rattle.markup_grammar.specs.Grammar.{Name, Word, Piece, Text, Value, Attributes, Head}
use Rattle.markup_grammar.specs.Grammar.Blanks.{no_blank}
use Rattle.markup_grammar.specs.Grammar.Name.{first, next}
use Rattle.markup_grammar.specs.Grammar.Word.{done, letter}
use Rattle.markup_grammar.specs.Grammar.Reference.{amp, lt, gt, quot}
use Rattle.markup_grammar.specs.Grammar.Piece.{itself, reference}
use Rattle.markup_grammar.specs.Grammar.Text.{one_piece, more_text}
use Rattle.markup_grammar.specs.Grammar.Value.{empty, more_value}
use Rattle.markup_grammar.specs.Grammar.Attribute.{valued}
use Rattle.markup_grammar.specs.Grammar.Attributes.{no_attribute, and_attribute}
use Rattle.markup_grammar.specs.Grammar.Head.{head}
use Rattle.plain_tree.specs.declared.plain.Attr.{Attr}
use Rattle.plain_tree.specs.Names.{is_letter, is_in_tag, is_in_attribute, is_name, is_tag_name, is_attribute_name}
use Rattle.plain_tree.specs.Plains.{attribute_of}
use Rattle.plain_tree.specs.Print.{escape, escape_in_value}
use Rattle.plain_tree.specs.Trees.{Attribute}
use Rattle.slot_lives.proofs.Signs.{letter_sign, tag_sign, attribute_sign, letter_in_tag, text_sign, value_sign}
use Rattle.slot_lives.proofs.Texts.{IsText, text_back}
use Rattle.slot_lives.proofs.Chars.{escaped, attribute_chars, attributes_chars}

-- ## Texts and values

-- a character that is no quote
plain_piece : (f : Sign → Bool) (c p : ℕ) (rest : List ℕ) → (nat_eq c 60 ≡ false → nat_eq c 38 ≡ false → f (sign_of c) ≡ true) → (q : ℕ) × Piece f (encode_utf16 c) p (located p (escape c ++ rest)) (located q rest)
plain_piece f c p rest plain = by (nat_eq c 38) (nat_eq c 60) (nat_eq c 62) refl refl refl
  where
    named : (d : ℕ) (word : List ℕ) → nat_eq c d ≡ true → ((q : ℕ) × Piece f (encode_utf16 d) p (located p (word ++ rest)) (located q rest)) → (q : ℕ) × Piece f (encode_utf16 c) p (located p (word ++ rest)) (located q rest)
    named d word e h = (h.0, subst (λ x. Piece f (encode_utf16 x) p (located p (word ++ rest)) (located (h.0) rest)) (sym (eqb-true c d e)) (h.1))

    by : (a b d : Bool) → nat_eq c 38 ≡ a → nat_eq c 60 ≡ b → nat_eq c 62 ≡ d → (q : ℕ) × Piece f (encode_utf16 c) p (located p (cond a (codes "&amp;") (cond b (codes "&lt;") (cond d (codes "&gt;") (c ∷ []))) ++ rest)) (located q rest)
    by true b d e g h = named 38 (codes "&amp;") e (p + 1 + 1 + 1 + 1 + 1, reference (amp (letter refl (letter refl (letter refl done)))))
    by false true d e g h = named 60 (codes "&lt;") g (p + 1 + 1 + 1 + 1, reference (lt (letter refl (letter refl done))))
    by false false true e g h = named 62 (codes "&gt;") h (p + 1 + 1 + 1 + 1, reference (gt (letter refl (letter refl done))))
    by false false false e g h = (p + len_utf8 c, itself (plain g e))

text_piece : (c p : ℕ) (rest : List ℕ) → (q : ℕ) × Piece in_text (encode_utf16 c) p (located p (escape c ++ rest)) (located q rest)
text_piece c p rest = plain_piece in_text c p rest (text_sign c)

value_piece : (c p : ℕ) (rest : List ℕ) → (q : ℕ) × Piece (in_value true) (encode_utf16 c) p (located p (escape_in_value c ++ rest)) (located q rest)
value_piece c p rest = by (nat_eq c 34) refl
  where
    by : (b : Bool) → nat_eq c 34 ≡ b → (q : ℕ) × Piece (in_value true) (encode_utf16 c) p (located p (cond b (codes "&quot;") (escape c) ++ rest)) (located q rest)
    by true e = (p + 1 + 1 + 1 + 1 + 1 + 1, subst (λ x. Piece (in_value true) (encode_utf16 x) p (located p (codes "&quot;" ++ rest)) (located (p + 1 + 1 + 1 + 1 + 1 + 1) rest)) (sym (eqb-true c 34 e)) (reference (quot (letter refl (letter refl (letter refl (letter refl done)))))))
    by false e = plain_piece (in_value true) c p rest (λ less ampersand. value_sign c less ampersand e)

text_goes : (cs : List ℕ) {us : List ℕ} {at : ℕ} {front : List Char} (p : ℕ) (rest : List ℕ) → Text us at front (located p (escaped escape cs rest)) → (q : ℕ) × Text (us ++ units_of_chars cs) at front (located q rest)
text_goes [] {us} {at} {front} p rest t = (p, subst (λ l. Text l at front (located p rest)) (sym (append-nil us)) t)
text_goes (c ∷ cs) {us} {at} {front} p rest t =
    let piece = text_piece c p (escaped escape cs rest) in
    let more = text_goes cs (piece.0) rest (more_text t (piece.1)) in
    (more.0, subst (λ l. Text l at front (located (more.0) rest)) (append_assoc us (encode_utf16 c) (units_of_chars cs)) (more.1))

-- a text of these characters
pub text_read : (c : ℕ) (cs : List ℕ) (p : ℕ) (rest : List ℕ) → (q : ℕ) × Text (units_of_chars (c ∷ cs)) p (located p (escaped escape (c ∷ cs) rest)) (located q rest)
text_read c cs p rest = let piece = text_piece c p (escaped escape cs rest) in text_goes cs (piece.0) rest (one_piece (piece.1))

value_goes : (cs : List ℕ) {us : List ℕ} {front : List Char} (p : ℕ) (rest : List ℕ) → Value true us front (located p (escaped escape_in_value cs rest)) → (q : ℕ) × Value true (us ++ units_of_chars cs) front (located q rest)
value_goes [] {us} {front} p rest v = (p, subst (λ l. Value true l front (located p rest)) (sym (append-nil us)) v)
value_goes (c ∷ cs) {us} {front} p rest v =
    let piece = value_piece c p (escaped escape_in_value cs rest) in
    let more = value_goes cs (piece.0) rest (more_value v (piece.1)) in
    (more.0, subst (λ l. Value true l front (located (more.0) rest)) (append_assoc us (encode_utf16 c) (units_of_chars cs)) (more.1))

value_read : (cs : List ℕ) (p : ℕ) (rest : List ℕ) → (q : ℕ) × Value true (units_of_chars cs) (located p (escaped escape_in_value cs rest)) (located q rest)
value_read cs p rest = value_goes cs p rest empty

-- ## Names

name_goes : (f : Sign → Bool) (test : ℕ → Bool) → ((c : ℕ) → test c ≡ true → f (sign_of c) ≡ true) → (cs : List ℕ) {us : List ℕ} {at : ℕ} {front : List Char} (p : ℕ) (rest : List ℕ) → list_all test cs ≡ true → Name f us at front (located p (cs ++ rest)) → (q : ℕ) × Name f (us ++ cs) at front (located q rest)
name_goes f test h [] {us} {at} {front} p rest e n = (p, subst (λ l. Name f l at front (located p rest)) (sym (append-nil us)) n)
name_goes f test h (c ∷ cs) {us} {at} {front} p rest e n =
    let each = and_both (test c) (list_all test cs) e in
    let more = name_goes f test h cs (p + len_utf8 c) rest (each.1) (next n (h c (each.0))) in
    (more.0, subst (λ l. Name f l at front (located (more.0) rest)) (append_assoc us (c ∷ []) cs) (more.1))

name_read : (f : Sign → Bool) (test : ℕ → Bool) → ((c : ℕ) → test c ≡ true → f (sign_of c) ≡ true) → (cs : List ℕ) (p : ℕ) (rest : List ℕ) → is_name test cs ≡ true → (q : ℕ) × Name f cs p (located p (cs ++ rest)) (located q rest)
name_read f test h [] p rest e = cc
name_read f test h (c ∷ cs) p rest e =
    let each = and_both (is_letter c) (list_all test cs) e in
    name_goes f test h cs (p + len_utf8 c) rest (each.1) (begin (each.0))
  where
    begin : is_letter c ≡ true → Name f (c ∷ []) p (located p (c ∷ (cs ++ rest))) (located (p + len_utf8 c) (cs ++ rest))
    begin e = subst (λ s. Name f (c ∷ []) p ((s, record { code = c; at = p }) ∷ located (p + len_utf8 c) (cs ++ rest)) (located (p + len_utf8 c) (cs ++ rest))) (sym (letter_sign c e)) first

word_goes : (cs : List ℕ) (p : ℕ) (rest : List ℕ) → list_all is_in_tag cs ≡ true → (q : ℕ) × Word cs (located p (cs ++ rest)) (located q rest)
word_goes [] p rest e = (p, done)
word_goes (c ∷ cs) p rest e =
    let each = and_both (is_in_tag c) (list_all is_in_tag cs) e in
    let more = word_goes cs (p + len_utf8 c) rest (each.1) in
    (more.0, letter (tag_sign c (each.0)) (more.1))

pub name_all : (test : ℕ → Bool) → ((c : ℕ) → is_letter c ≡ true → test c ≡ true) → (us : List ℕ) → is_name test us ≡ true → list_all test us ≡ true
name_all test h [] e = refl
name_all test h (u ∷ us) e =
    let each = and_both (is_letter u) (list_all test us) e in
    ap (λ b. b && list_all test us) (h u (each.0)) ∙ each.1

-- the name of an end tag
pub word_read : (tag : List ℕ) (p : ℕ) (rest : List ℕ) → is_tag_name tag ≡ true → (q : ℕ) × Word tag (located p (tag ++ rest)) (located q rest)
word_read tag p rest e = word_goes tag p rest (name_all is_in_tag letter_in_tag tag e)

-- ## Heads

-- an attribute with its name and its text
pub record IsSpelled (a : Attribute) : Type 0 where
  pub name : is_attribute_name (a.0) ≡ true
  pub text : IsText (a.1)

abbrev pub AreSpelled : List Attribute → Type 0
AreSpelled [] = Unit {0}
AreSpelled (a ∷ others) = IsSpelled a × AreSpelled others

attribute_read : (a : Attribute) → IsSpelled a → (p : ℕ) (rest : List ℕ) → (q : ℕ) × (x : Attr) × (attribute_of x ≡ a) × grammar.Attribute x (located p (attribute_chars a rest)) (located q rest)
attribute_read a s p rest =
    let cs = utf16_lossy_chars (a.1) in
    let n = name_read in_attribute is_in_attribute attribute_sign (a.0) p (61 ∷ 34 ∷ escaped escape_in_value cs (34 ∷ rest)) (s.name) in
    let v = value_read cs (n.0 + 1 + 1) (34 ∷ rest) in
    (v.0 + 1, record { name = a.0; value = units_of_chars cs; at = p; value_at = suc (n.0 + 1) }, ap (λ l. (a.0, l)) (text_back (a.1) (s.text)), valued {double = true} (n.1) (v.1))

attributes_read : (attrs : List Attribute) → AreSpelled attrs → {before : List Attr} {front : List Char} (p : ℕ) (rest : List ℕ) → Attributes before front (located p (attributes_chars attrs rest)) → (q : ℕ) × (xs : List Attr) × (map attribute_of xs ≡ attrs) × Attributes (before ++ xs) front (located q rest)
attributes_read [] s {before} {front} p rest h = (p, [], refl, subst (λ l. Attributes l front (located p rest)) (sym (append-nil before)) h)
attributes_read (a ∷ others) s {before} {front} p rest h =
    let one = attribute_read a (s.0) (p + 1) (attributes_chars others rest) in
    let more = attributes_read others (s.1) (one.0) rest (and_attribute h no_blank (one.3)) in
    (more.0, one.1 ∷ more.1, (λ j. one.2 j ∷ more.2 j), subst (λ l. Attributes l front (located (more.0) rest)) (append_assoc before (one.1 ∷ []) (more.1)) (more.3))

-- a start tag, before its `>`
pub head_read : (tag : List ℕ) (attrs : List Attribute) → is_tag_name tag ≡ true → AreSpelled attrs → (p : ℕ) (rest : List ℕ) → (q : ℕ) × (xs : List Attr) × (map attribute_of xs ≡ attrs) × Head tag xs p (located p (60 ∷ tag ++ attributes_chars attrs rest)) (located q rest)
head_read tag attrs e s p rest =
    let n = name_read in_tag is_in_tag tag_sign tag (p + 1) (attributes_chars attrs rest) e in
    let more = attributes_read attrs s (n.0) rest no_attribute in
    (more.0, more.1, more.2, head (n.1) (more.3) no_blank)
