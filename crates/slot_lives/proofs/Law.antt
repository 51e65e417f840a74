-- What is printed of readable trees is read attrs these trees.
use Rattle.std.proofs.Common.{◌≡◌, ℕ, suc, ◌+◌, ◌<◌, ◌≤◌, List, [], ◌∷◌, ◌++◌, Bool, true, false, cond, ◌&&◌, nat_lt, map, refl, sym, ap, ◌∙◌, subst, arith, lt-ltb, append-nil, encode_utf8_all}
use Rattle.std.specs.Prelude.{◌||◌, not, codes}
use Rattle.std.specs.List.{list_all}
use Rattle.std.specs.Str.{bytes_eq, chars, all_scalars}
use Rattle.std.specs.Char.Utf16.{utf16_lossy_chars}
use Rattle.std.proofs.lemmas.Bool.{true≢false, false≢true}
use Rattle.std.proofs.lemmas.Slice.Eq.{bytes_eq-Decides}
use Rattle.std.proofs.lemmas.Str.{chars-encodes}
use Rattle.code_units.specs.Utf8.{units_of_chars}
use Rattle.code_units.proofs.Signs.{and_both}
use Rattle.markup_grammar.specs.Signs.{Char, located}
use Rattle.markup_grammar.specs.Grammar.{limit, Text, Content, Closed, Element, Spells}
use Rattle.markup_grammar.specs.Grammar.Blanks.{no_blank}
use Rattle.markup_grammar.specs.Grammar.Spells.{no_text, and_text, nothing, and_element, void_element, element}
use Rattle.markup_grammar.specs.Markup.{MarkupSpells}
use Rattle.markup_grammar.proofs.Answers.{one_reading}
use Rattle.plain_tree.proofs.Lists.{beside_assoc, beside_end}
use Rattle.plain_tree.specs.declared.plain.Attr.{Attr}
use Rattle.plain_tree.specs.Names.{is_tag_name, is_attribute_name, is_in_tag, is_in_attribute, is_void, is_script}
use Rattle.plain_tree.specs.Normal.{is_without_null, is_empty, is_normal_attribute, is_end, begins_no_text, is_normal}
use Rattle.plain_tree.specs.Plains.{Places, attribute_of, text_node, element_node}
use Rattle.plain_tree.specs.Print.{escape, written, written_style, printed_attribute, printed}
use Rattle.plain_tree.specs.Trees.{Attribute, TextOf, ElementOf, Trees, End, Node, PlainTrees, beside, nesting, unmarked}
use Rattle.slot_lives.specs.Reading.{is_text, is_readable_value, is_readable_label, all_labels, IsReadable, ReadsAs}
use Rattle.slot_lives.proofs.Signs.{tag_ascii, attribute_ascii, letter_in_tag, letter_in_attribute}
use Rattle.slot_lives.proofs.Texts.{ascii_from, IsText, text_is, text_back, not_true}
use Rattle.slot_lives.proofs.Chars.{escaped, attributes_chars, tree_chars, IsWritten, AreWritten, WritesAll, tree_scalars, tree_bytes}
use Rattle.slot_lives.proofs.Parts.{name_all, text_read, word_read, IsSpelled, AreSpelled, head_read}

-- ## What is known of each part

-- each node, and what stands behind it, can be spelled
abbrev SpellsAll : PlainTrees → Type 0
SpellsAll End = Unit {0}
SpellsAll (Node m (TextOf us) ks ts) = IsText us × (is_empty us ≡ false) × (is_end ks ≡ true) × (begins_no_text ts ≡ true) × SpellsAll ts
SpellsAll (Node m (ElementOf tag attrs) ks ts) = (is_tag_name tag ≡ true) × AreSpelled attrs × (is_script tag ≡ false) × (is_void tag ≡ true → is_end ks ≡ true) × SpellsAll ks × SpellsAll ts

-- what is neither left out nor changed is written attrs it stands
style_stands : (style : List ℕ → List ℕ) (name v : List ℕ) → not (is_empty v) ≡ true → style v ≡ v → written_style name (style v) ≡ written name v
style_stands style name [] e f = cc
style_stands style name (u ∷ us) e f = ap (written_style name) f

attribute_stands : (style : List ℕ → List ℕ) (a : Attribute) → (not (bytes_eq (a.0) (codes "style")) || not (is_empty (a.1)) && bytes_eq (style (a.1)) (a.1)) ≡ true → printed_attribute style a ≡ written (a.0) (a.1)
attribute_stands style a = by (bytes_eq (a.0) (codes "style"))
  where
    by : (b : Bool) → (not b || not (is_empty (a.1)) && bytes_eq (style (a.1)) (a.1)) ≡ true → cond b (written_style (a.0) (style (a.1))) (written (a.0) (a.1)) ≡ written (a.0) (a.1)
    by false e = refl
    by true e = let each = and_both (not (is_empty (a.1))) (bytes_eq (style (a.1)) (a.1)) e in style_stands style (a.0) (a.1) (each.0) ((bytes_eq-Decides (style (a.1)) (a.1)).0 (each.1))

attribute_facts : (style : List ℕ → List ℕ) (a : Attribute) → is_normal_attribute a ≡ true → is_readable_value style a ≡ true → IsSpelled a × IsWritten style a
attribute_facts style a n v =
    let name = (and_both (is_attribute_name (a.0)) (is_without_null (a.1)) n).0 in
    let value = and_both (is_text (a.1)) (not (bytes_eq (a.0) (codes "style")) || not (is_empty (a.1)) && bytes_eq (style (a.1)) (a.1)) v in
    let text = text_is (a.1) (value.0) in
    (record { name = name; text = text }, record { name = ascii_from is_in_attribute attribute_ascii (a.0) (name_all is_in_attribute letter_in_attribute (a.0) name); text = text; same = attribute_stands style a (value.1) })

attributes_facts : (style : List ℕ → List ℕ) (attrs : List Attribute) → list_all is_normal_attribute attrs ≡ true → list_all (is_readable_value style) attrs ≡ true → AreSpelled attrs × AreWritten style attrs
attributes_facts style [] n v = (tt, tt)
attributes_facts style (a ∷ others) n v =
    let first = and_both (is_normal_attribute a) (list_all is_normal_attribute others) n in
    let second = and_both (is_readable_value style a) (list_all (is_readable_value style) others) v in
    let one = attribute_facts style a (first.0) (second.0) in
    let more = attributes_facts style others (first.1) (second.1) in
    ((one.0, more.0), (one.1, more.1))

void_facts : (v e : Bool) → not (v && not e) ≡ true → v ≡ true → e ≡ true
void_facts true true h g = refl
void_facts true false h g = cc
void_facts false e h g = cc

tree_facts : (style : List ℕ → List ℕ) (ts : PlainTrees) → is_normal ts ≡ true → all_labels (is_readable_label style) ts ≡ true → SpellsAll ts × WritesAll style ts
tree_facts style End n v = (tt, tt)
tree_facts style (Node m (TextOf us) ks ts) n v =
    let n4 = and_both (not (is_empty us) && is_without_null us && is_end ks && begins_no_text ts) (is_normal ts) n in
    let n3 = and_both (not (is_empty us) && is_without_null us && is_end ks) (begins_no_text ts) (n4.0) in
    let n2 = and_both (not (is_empty us) && is_without_null us) (is_end ks) (n3.0) in
    let n1 = and_both (not (is_empty us)) (is_without_null us) (n2.0) in
    let v2 = and_both (is_text us && all_labels (is_readable_label style) ks) (all_labels (is_readable_label style) ts) v in
    let text = text_is us ((and_both (is_text us) (all_labels (is_readable_label style) ks) (v2.0)).0) in
    let more = tree_facts style ts (n4.1) (v2.1) in
    ((text, not_true (is_empty us) (n1.0), n2.1, n3.1, more.0), (text, more.1))
tree_facts style (Node m (ElementOf tag attrs) ks ts) n v =
    let n4 = and_both (is_tag_name tag && list_all is_normal_attribute attrs && not (is_void tag && not (is_end ks)) && is_normal ks) (is_normal ts) n in
    let n3 = and_both (is_tag_name tag && list_all is_normal_attribute attrs && not (is_void tag && not (is_end ks))) (is_normal ks) (n4.0) in
    let n2 = and_both (is_tag_name tag && list_all is_normal_attribute attrs) (not (is_void tag && not (is_end ks))) (n3.0) in
    let n1 = and_both (is_tag_name tag) (list_all is_normal_attribute attrs) (n2.0) in
    let v2 = and_both (is_readable_label style (ElementOf tag attrs) && all_labels (is_readable_label style) ks) (all_labels (is_readable_label style) ts) v in
    let v1 = and_both (is_readable_label style (ElementOf tag attrs)) (all_labels (is_readable_label style) ks) (v2.0) in
    let v0 = and_both (not (is_script tag)) (list_all (is_readable_value style) attrs) (v1.0) in
    let values = attributes_facts style attrs (n1.1) (v0.1) in
    let kids = tree_facts style ks (n3.1) (v1.1) in
    let more = tree_facts style ts (n4.1) (v2.1) in
    ((n1.0, values.0, not_true (is_script tag) (v0.0), void_facts (is_void tag) (is_end ks) (n2.1), kids.0, more.0), (ascii_from is_in_tag tag_ascii tag (name_all is_in_tag letter_in_tag tag (n1.0)), values.1, kids.1, more.1))

-- ## Trees

-- content before some trees, the last of which is no text where this is known
abbrev Front : Bool → ℕ → Trees Places → List Char → List Char → Type 0
Front true d before cs rest = Spells (Closed d before) cs rest
Front false d before cs rest = Spells (Content d before) cs rest

content : {d : ℕ} {before : Trees Places} {cs rest : List Char} (b : Bool) → Front b d before cs rest → Spells (Content d before) cs rest
content true s = no_text s
content false s = s

-- the trees are read behind others
record Reads (ts : PlainTrees) (d : ℕ) (before : Trees Places) (front : List Char) (rest : List ℕ) : Type 0 where
  end : ℕ
  trees : Trees Places
  same : unmarked trees ≡ ts
  spelled : Spells (Content d (beside before trees)) front (located end rest)

spelled_beside : (d : ℕ) (before one more : Trees Places) (front rest : List Char) → Spells (Content d (beside (beside before one) more)) front rest → Spells (Content d (beside before (beside one more))) front rest
spelled_beside d before one more front rest s = subst (λ ts. Spells (Content d ts) front rest) (beside_assoc before one more) s

one_more : (d : ℕ) (before one : Trees Places) (front cs rest : List Char) → Spells (Content d before) front cs → Spells (Element d one) cs rest → Spells (Closed d (beside before one)) front rest
one_more d before one front cs rest s e = and_element s e

end_is : (ts : PlainTrees) → is_end ts ≡ true → End ≡ ts
end_is End e = refl
end_is (Node m l ks ts) e = cc

text_spelled : (us : List ℕ) → IsText us → is_empty us ≡ false → (p : ℕ) (rest : List ℕ) → (q : ℕ) × Text us p (located p (escaped escape (utf16_lossy_chars us) rest)) (located q rest)
text_spelled us t some p rest = of (utf16_lossy_chars us) (text_back us t)
  where
    of : (cs : List ℕ) → units_of_chars cs ≡ us → (q : ℕ) × Text us p (located p (escaped escape cs rest)) (located q rest)
    of [] e = absurd (true≢false (ap is_empty e ∙ some))
    of (c ∷ cs) e = let h = text_read c cs p rest in (h.0, subst (λ l. Text l p (located p (escaped escape (c ∷ cs) rest)) (located (h.0) rest)) e (h.1))

few : (d : ℕ) → d < 200 → nat_lt d limit ≡ true
unfolding limit
few d h = lt-ltb d 200 h

-- an element is read where its children are
record ReadsElement (tag : List ℕ) (attrs : List Attribute) (ks : PlainTrees) (d p : ℕ) (cs : List Char) (rest : List ℕ) : Type 0 where
  end : ℕ
  attributes : List Attr
  kids : Trees Places
  same_attributes : map attribute_of attributes ≡ attrs
  same_kids : unmarked kids ≡ ks
  spelled : Spells (Element d (element_node tag attributes kids p)) cs (located end rest)

element_read : (tag : List ℕ) (attrs : List Attribute) (ks : PlainTrees) (d p : ℕ) (rest : List ℕ) → is_tag_name tag ≡ true → AreSpelled attrs → is_script tag ≡ false → (is_void tag ≡ true → is_end ks ≡ true) → d < 200
    → ((at : ℕ) (more : List ℕ) → Reads ks (suc d) End (located at (tree_chars ks more)) more)
    → ReadsElement tag attrs ks d p (located p (60 ∷ tag ++ attributes_chars attrs (62 ∷ cond (is_void tag) rest (tree_chars ks (60 ∷ 47 ∷ tag ++ (62 ∷ rest)))))) rest
element_read tag attrs ks d p rest name values script void small kids_read = by (is_void tag) refl
  where
    closing : List ℕ
    closing = 60 ∷ 47 ∷ tag ++ (62 ∷ rest)

    by : (v : Bool) → is_void tag ≡ v → ReadsElement tag attrs ks d p (located p (60 ∷ tag ++ attributes_chars attrs (62 ∷ cond v rest (tree_chars ks closing)))) rest
    by true e =
        let h = head_read tag attrs name values p (62 ∷ rest) in
        record { end = h.0 + 1; attributes = h.1; kids = End; same_attributes = h.2; same_kids = end_is ks (void e); spelled = void_element (few d small) (h.3) e }
    by false e =
        let h = head_read tag attrs name values p (62 ∷ tree_chars ks closing) in
        let k = kids_read (h.0 + 1) closing in
        let w = word_read tag (k.end + 1 + 1) (62 ∷ rest) name in
        record { end = w.0 + 1; attributes = h.1; kids = k.trees; same_attributes = h.2; same_kids = k.same; spelled = element (few d small) (h.3) e script (k.spelled) (w.1) no_blank }

tree_read : (ts : PlainTrees) → SpellsAll ts → (b : Bool) → (b ≡ false → begins_no_text ts ≡ true) → (d : ℕ) → d + nesting ts ≤ 200 → (before : Trees Places) (front : List Char) (p : ℕ) (rest : List ℕ) → Front b d before front (located p (tree_chars ts rest)) → Reads ts d before front rest
tree_read End r b w d n before front p rest s = record { end = p; trees = End; same = refl; spelled = subst (λ t. Spells (Content d t) front (located p rest)) (sym (beside_end before)) (content b s) }
tree_read (Node m (TextOf us) ks ts) r false w d n before front p rest s = absurd (false≢true (w refl))
tree_read (Node m (TextOf us) ks ts) r true w d n before front p rest s =
    let t = text_spelled us (r.0) (r.1) p (tree_chars ts rest) in
    let more = tree_read ts (r.4) false (λ _. r.3) d n (beside before (text_node us p)) front (t.0) rest (and_text s (t.1)) in
    record {
      end = more.end;
      trees = beside (text_node us p) more.trees;
      same = λ j. Node tt (TextOf us) (end_is ks (r.2) j) (more.same j);
      spelled = spelled_beside d before (text_node us p) more.trees front (located (more.end) rest) more.spelled;
    }
tree_read (Node m (ElementOf tag attrs) ks ts) r b w d n before front p rest s =
    let e = element_read tag attrs ks d p (tree_chars ts rest) (r.0) (r.1) (r.2) (r.3) (omega (arith, n)) (λ at more. tree_read ks (r.4) true (λ h. absurd (true≢false h)) (suc d) (omega (arith, n)) End (located at (tree_chars ks more)) at more nothing) in
    let one = element_node tag e.attributes e.kids p in
    let more = tree_read ts (r.5) true (λ h. absurd (true≢false h)) d (omega (arith, n)) (beside before one) front (e.end) rest (one_more d before one front (located p (tree_chars (Node m (ElementOf tag attrs) ks ts) rest)) (located (e.end) (tree_chars ts rest)) (content b s) e.spelled) in
    record {
      end = more.end;
      trees = beside one more.trees;
      same = λ j. Node tt (ElementOf tag (e.same_attributes j)) (e.same_kids j) (more.same j);
      spelled = spelled_beside d before one more.trees front (located (more.end) rest) more.spelled;
    }

-- ## The law

pub printed_is_read : (style : List ℕ → List ℕ) (trees : PlainTrees) → IsReadable style trees → ReadsAs (printed style trees) trees
printed_is_read style trees r = record { read = (all.trees, spells); same = λ ts h. ap unmarked (one_reading (printed style trees) ts all.trees h spells) ∙ all.same }
  where
    facts : SpellsAll trees × WritesAll style trees
    facts = tree_facts style trees r.normal r.labels

    cs : List ℕ
    cs = tree_chars trees []

    scalars : all_scalars cs ≡ true
    scalars = tree_scalars style trees [] (facts.1) refl

    bytes : encode_utf8_all cs ≡ printed style trees
    bytes = tree_bytes style trees [] (facts.1) ∙ append-nil (printed style trees)

    all : Reads trees 0 End (located 0 cs) []
    all = tree_read trees (facts.0) true (λ h. absurd (true≢false h)) 0 (let n = r.nested in omega (arith, n)) End (located 0 cs) 0 [] nothing

    spells : MarkupSpells (printed style trees) all.trees
    spells = ((cs, (scalars, bytes)), subst (λ l. Spells (Content 0 all.trees) (located 0 l) []) (sym (ap chars (sym bytes) ∙ chars-encodes cs scalars)) all.spelled)
