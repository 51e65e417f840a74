-- The characters of printed trees, before others, and their bytes.
use Rattle.std.proofs.Common.{◌≡◌, ℕ, List, [], ◌∷◌, ◌++◌, Bool, true, false, cond, refl, sym, ap, ◌∙◌, append_assoc, encode_utf8_all}
use Rattle.std.specs.Prelude.{codes}
use Rattle.std.specs.List.{flat_map}
use Rattle.std.specs.Str.{all_scalars}
use Rattle.std.specs.Char.Utf16.{utf16_lossy_chars}
use Rattle.std.proofs.lemmas.Str.{encodes-append}
use Rattle.code_units.specs.Utf8.{utf8_of}
use Rattle.plain_tree.specs.Names.{is_void}
use Rattle.plain_tree.specs.Print.{escape, escape_in_value, printed_text, printed_value, written, printed_attribute, opening, closing, printed}
use Rattle.plain_tree.specs.Trees.{Attribute, TextOf, ElementOf, End, Node, PlainTrees}
use Rattle.slot_lives.proofs.Texts.{is_ascii, IsText, text_scalars, Escapes, text_escapes, value_escapes, written_text, written_scalars, scalars_append, scalars_ascii, encodes_ascii, utf8_ascii}

-- each character attrs it is written
abbrev pub escaped : (ℕ → List ℕ) → List ℕ → List ℕ → List ℕ
escaped e [] rest = rest
escaped e (c ∷ cs) rest = e c ++ escaped e cs rest

-- an attribute without the space before it
abbrev pub attribute_chars : Attribute → List ℕ → List ℕ
attribute_chars a rest = a.0 ++ (61 ∷ 34 ∷ escaped escape_in_value (utf16_lossy_chars (a.1)) (34 ∷ rest))

abbrev pub attributes_chars : List Attribute → List ℕ → List ℕ
attributes_chars [] rest = rest
attributes_chars (a ∷ others) rest = 32 ∷ attribute_chars a (attributes_chars others rest)

abbrev pub tree_chars : PlainTrees → List ℕ → List ℕ
tree_chars End rest = rest
tree_chars (Node m (TextOf us) ks ts) rest = escaped escape (utf16_lossy_chars us) (tree_chars ts rest)
tree_chars (Node m (ElementOf tag attrs) ks ts) rest =
    60 ∷ tag ++ attributes_chars attrs (62 ∷ cond (is_void tag) (tree_chars ts rest) (tree_chars ks (60 ∷ 47 ∷ tag ++ (62 ∷ tree_chars ts rest))))

-- ## Trees whose parts can be written

-- an attribute that is written attrs it stands
pub record IsWritten (style : List ℕ → List ℕ) (a : Attribute) : Type 0 where
  pub name : is_ascii (a.0) ≡ true
  pub text : IsText (a.1)
  pub same : printed_attribute style a ≡ written (a.0) (a.1)

abbrev pub AreWritten : (List ℕ → List ℕ) → List Attribute → Type 0
AreWritten style [] = Unit {0}
AreWritten style (a ∷ others) = IsWritten style a × AreWritten style others

abbrev pub WritesAll : (List ℕ → List ℕ) → PlainTrees → Type 0
WritesAll style End = Unit {0}
WritesAll style (Node m (TextOf us) ks ts) = IsText us × WritesAll style ts
WritesAll style (Node m (ElementOf tag attrs) ks ts) = (is_ascii tag ≡ true) × AreWritten style attrs × WritesAll style ks × WritesAll style ts

-- ## Scalars

escaped_is : (e : ℕ → List ℕ) (cs rest : List ℕ) → escaped e cs rest ≡ flat_map e cs ++ rest
escaped_is e [] rest = refl
escaped_is e (c ∷ cs) rest = ap (λ l. e c ++ l) (escaped_is e cs rest) ∙ sym (append_assoc (e c) (flat_map e cs) rest)

escaped_scalars : (e : ℕ → List ℕ) → Escapes e → (us rest : List ℕ) → IsText us → all_scalars rest ≡ true → all_scalars (escaped e (utf16_lossy_chars us) rest) ≡ true
escaped_scalars e esc us rest t s =
    let cs = utf16_lossy_chars us in
    ap all_scalars (escaped_is e cs rest) ∙ scalars_append (flat_map e cs) rest (written_scalars e esc cs (text_scalars us t)) s

attributes_scalars : (style : List ℕ → List ℕ) (attrs : List Attribute) (rest : List ℕ) → AreWritten style attrs → all_scalars rest ≡ true → all_scalars (attributes_chars attrs rest) ≡ true
attributes_scalars style [] rest w s = s
attributes_scalars style (a ∷ others) rest w s =
    scalars_append (a.0) _ (scalars_ascii (a.0) ((w.0).name)) (escaped_scalars escape_in_value value_escapes (a.1) (34 ∷ attributes_chars others rest) ((w.0).text) (attributes_scalars style others rest (w.1) s))

either_scalars : (b : Bool) (cs ds : List ℕ) → all_scalars cs ≡ true → all_scalars ds ≡ true → all_scalars (cond b cs ds) ≡ true
either_scalars true cs ds e f = e
either_scalars false cs ds e f = f

pub tree_scalars : (style : List ℕ → List ℕ) (ts : PlainTrees) (rest : List ℕ) → WritesAll style ts → all_scalars rest ≡ true → all_scalars (tree_chars ts rest) ≡ true
tree_scalars style End rest w s = s
tree_scalars style (Node m (TextOf us) ks ts) rest w s = escaped_scalars escape text_escapes us (tree_chars ts rest) (w.0) (tree_scalars style ts rest (w.1) s)
tree_scalars style (Node m (ElementOf tag attrs) ks ts) rest w s =
    let after = tree_scalars style ts rest (w.3) s in
    let tag_scalars = scalars_ascii tag (w.0) in
    let end = scalars_append tag (62 ∷ tree_chars ts rest) tag_scalars after in
    scalars_append tag _ tag_scalars (attributes_scalars style attrs _ (w.1) (either_scalars (is_void tag) (tree_chars ts rest) (tree_chars ks (60 ∷ 47 ∷ tag ++ (62 ∷ tree_chars ts rest))) after (tree_scalars style ks (60 ∷ 47 ∷ tag ++ (62 ∷ tree_chars ts rest)) (w.2) end)))

-- ## Bytes

-- a text attrs it is written, and others
escaped_bytes : (e : ℕ → List ℕ) → Escapes e → (us rest : List ℕ) → IsText us → encode_utf8_all (escaped e (utf16_lossy_chars us) rest) ≡ utf8_of (flat_map e us) ++ encode_utf8_all rest
escaped_bytes e esc us rest t =
    let cs = utf16_lossy_chars us in
    ap encode_utf8_all (escaped_is e cs rest) ∙ encodes-append (flat_map e cs) rest ∙ ap (λ l. l ++ encode_utf8_all rest) (sym (written_text e esc us t))

-- ASCII characters before others
ascii_bytes : (us rest : List ℕ) → is_ascii us ≡ true → encode_utf8_all (us ++ rest) ≡ utf8_of us ++ encode_utf8_all rest
ascii_bytes us rest e = encodes_ascii us rest e ∙ ap (λ l. l ++ encode_utf8_all rest) (sym (utf8_ascii us e))

five : (a b c d e : List ℕ) → a ++ (b ++ (c ++ (d ++ e))) ≡ a ++ b ++ c ++ d ++ e
five a b c d e = sym (append_assoc (a ++ b ++ c) d e ∙ append_assoc (a ++ b) c (d ++ e) ∙ append_assoc a b (c ++ (d ++ e)))

attribute_bytes : (style : List ℕ → List ℕ) (a : Attribute) (rest : List ℕ) → IsWritten style a → encode_utf8_all (32 ∷ attribute_chars a rest) ≡ printed_attribute style a ++ encode_utf8_all rest
attribute_bytes style a rest w =
    let value = escaped escape_in_value (utf16_lossy_chars (a.1)) (34 ∷ rest) in
    encodes_ascii (codes " ") (attribute_chars a rest) refl
    ∙ ap (λ l. codes " " ++ l) (
    ascii_bytes (a.0) (codes "=\"" ++ value) (w.name)
    ∙ ap (λ l. utf8_of (a.0) ++ l) (
    encodes_ascii (codes "=\"") value refl
    ∙ ap (λ l. codes "=\"" ++ l) (escaped_bytes escape_in_value value_escapes (a.1) (34 ∷ rest) (w.text) ∙ ap (λ l. printed_value (a.1) ++ l) (encodes_ascii (codes "\"") rest refl)))
    ∙ five (utf8_of (a.0)) (codes "=\"") (printed_value (a.1)) (codes "\"") (encode_utf8_all rest))
    ∙ ap (λ l. l ++ encode_utf8_all rest) (sym (w.same))

attributes_bytes : (style : List ℕ → List ℕ) (attrs : List Attribute) (rest : List ℕ) → AreWritten style attrs → encode_utf8_all (attributes_chars attrs rest) ≡ flat_map (printed_attribute style) attrs ++ encode_utf8_all rest
attributes_bytes style [] rest w = refl
attributes_bytes style (a ∷ others) rest w =
    attribute_bytes style a (attributes_chars others rest) (w.0)
    ∙ ap (λ l. printed_attribute style a ++ l) (attributes_bytes style others rest (w.1))
    ∙ sym (append_assoc (printed_attribute style a) (flat_map (printed_attribute style) others) (encode_utf8_all rest))

-- a start tag
opening_bytes : (style : List ℕ → List ℕ) (tag : List ℕ) (attrs : List Attribute) (rest : List ℕ) → is_ascii tag ≡ true → AreWritten style attrs → encode_utf8_all (60 ∷ tag ++ attributes_chars attrs (62 ∷ rest)) ≡ opening style tag attrs ++ encode_utf8_all rest
opening_bytes style tag attrs rest e w =
    encodes_ascii (codes "<") (tag ++ attributes_chars attrs (62 ∷ rest)) refl
    ∙ ap (λ l. codes "<" ++ l) (
    ascii_bytes tag (attributes_chars attrs (62 ∷ rest)) e
    ∙ ap (λ l. utf8_of tag ++ l) (
    attributes_bytes style attrs (62 ∷ rest) w
    ∙ ap (λ l. flat_map (printed_attribute style) attrs ++ l) (encodes_ascii (codes ">") rest refl)))
    ∙ ap (λ l. codes "<" ++ l) (sym (append_assoc (utf8_of tag ++ flat_map (printed_attribute style) attrs) (codes ">") (encode_utf8_all rest) ∙ append_assoc (utf8_of tag) (flat_map (printed_attribute style) attrs) (codes ">" ++ encode_utf8_all rest)))

-- an end tag
closing_bytes : (tag rest : List ℕ) → is_ascii tag ≡ true → encode_utf8_all (60 ∷ 47 ∷ tag ++ (62 ∷ rest)) ≡ closing tag ++ encode_utf8_all rest
closing_bytes tag rest e =
    encodes_ascii (codes "</") (tag ++ (62 ∷ rest)) refl
    ∙ ap (λ l. codes "</" ++ l) (ascii_bytes tag (62 ∷ rest) e ∙ ap (λ l. utf8_of tag ++ l) (encodes_ascii (codes ">") rest refl) ∙ sym (append_assoc (utf8_of tag) (codes ">") (encode_utf8_all rest)))

either_bytes : (b : Bool) (xs ys zs : List ℕ) (after kids : List ℕ) → encode_utf8_all after ≡ zs → encode_utf8_all kids ≡ xs ++ (ys ++ zs) → encode_utf8_all (cond b after kids) ≡ cond b [] (xs ++ ys) ++ zs
either_bytes true xs ys zs after kids e f = e
either_bytes false xs ys zs after kids e f = f ∙ sym (append_assoc xs ys zs)

pub tree_bytes : (style : List ℕ → List ℕ) (ts : PlainTrees) (rest : List ℕ) → WritesAll style ts → encode_utf8_all (tree_chars ts rest) ≡ printed style ts ++ encode_utf8_all rest
tree_bytes style End rest w = refl
tree_bytes style (Node m (TextOf us) ks ts) rest w =
    escaped_bytes escape text_escapes us (tree_chars ts rest) (w.0)
    ∙ ap (λ l. printed_text us ++ l) (tree_bytes style ts rest (w.1))
    ∙ sym (append_assoc (printed_text us) (printed style ts) (encode_utf8_all rest))
tree_bytes style (Node m (ElementOf tag attrs) ks ts) rest w =
    let after = tree_bytes style ts rest (w.3) in
    let end = 60 ∷ 47 ∷ tag ++ (62 ∷ tree_chars ts rest) in
    let kids = tree_bytes style ks end (w.2) ∙ ap (λ l. printed style ks ++ l) (closing_bytes tag (tree_chars ts rest) (w.0) ∙ ap (λ l. closing tag ++ l) after) in
    let inner = cond (is_void tag) [] (printed style ks ++ closing tag) in
    opening_bytes style tag attrs (cond (is_void tag) (tree_chars ts rest) (tree_chars ks end)) (w.0) (w.1)
    ∙ ap (λ l. opening style tag attrs ++ l) (either_bytes (is_void tag) (printed style ks) (closing tag) (printed style ts ++ encode_utf8_all rest) (tree_chars ts rest) (tree_chars ks end) after kids)
    ∙ sym (append_assoc (opening style tag attrs ++ inner) (printed style ts) (encode_utf8_all rest) ∙ append_assoc (opening style tag attrs) inner (printed style ts ++ encode_utf8_all rest))
