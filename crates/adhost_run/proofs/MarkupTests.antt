-- Tests of a widget's file that compute: what passes them breaks no markup rule, and is the file's markup.
use Rattle.std.proofs.Common.{◌≡◌, ℕ, ◌+◌, List, [], ◌∷◌, Bool, true, false, not, ◌&&◌, ◌||◌, if◌then◌else◌, codes, map, length, Option, Some, None, option_map, is_some, refl, sym, ap, ◌∙◌, inl, inr}
use Rattle.std.specs.Prelude.{nat_lt}
use Rattle.std.specs.List.{list_any}
use Rattle.std.specs.Str.{bytes_eq}
use Rattle.std.proofs.lemmas.Bool.{false≢true}
use Rattle.std.proofs.lemmas.Str.{IsUtf8-from_ascii, chars-IsAscii}
use Rattle.code_units.specs.Utf8.{utf8_of}
use Rattle.code_units.proofs.Utf8Laws.{units_of-ascii}
use Rattle.code_units.proofs.RoundTrip.{utf8_of-units_of}
use Rattle.plain_tree.specs.declared.plain.Attr.{Attr}
use Rattle.plain_tree.specs.Trees.{Trees, TextOf, ElementOf, End, Node, size}
use Rattle.plain_tree.specs.Plains.{Places}
use Rattle.markup_grammar.specs.Machine.{begin}
use Rattle.markup_grammar.specs.Judge as judges
use Rattle.markup_grammar.specs.Judge.{Judged, reads, behind}
use Rattle.markup_grammar.specs.Markup.{MarkupSpells}
use Rattle.markup_grammar.proofs.Places.{text_judged, whole}
use Rattle.widget_form.specs.declared.form.Span.{Span}
use Rattle.widget_form.specs.Forms.{span_in, span_of}
use Rattle.markup_rules.specs.declared.repeats.Saying.{Saying}
use Rattle.markup_rules.specs.Elements.{Element, elements, roots, others, scripts, is_script, is_sourced, first_named, is_named, before_scripts, Item, items, is_script_item}
use Rattle.markup_rules.specs.Words.{is_own_id}
use Rattle.markup_rules.specs.Rows.{Perhaps, misrooted, is_content, Followed, Twice, name_of, ids, FileRows, misnamed, unended, Disordered, before_last, node_limit, RootRows, OtherRows, is_allowed, is_unsafe, is_foreign, AttributeRows, MarkupRows, SlotAttributeRows, SlotRows, Breaks, IsGood}
use Rattle.adhost_run.proofs.ScriptTests.{or_left, or_right, any_in, is_ascii, ascii}

-- ## Sets of breaches

perhaps_some : (rule : ℕ) (o : Option ℕ) (r p : ℕ) → Perhaps rule o r p → is_some o ≡ true
perhaps_some rule None r p broken = absurd broken
perhaps_some rule (Some place) r p broken = refl

-- ## Rows

abbrev is_followed : List Item → Bool
is_followed [] = false
is_followed (i ∷ rest) = (is_script_item i && list_any is_content rest) || is_followed rest

followed : (is : List Item) (r p : ℕ) → Followed is r p → is_followed is ≡ true
followed [] r p broken = absurd broken
followed (i ∷ rest) r p (inl broken) = or_left (is_script_item i && list_any is_content rest) (is_followed rest) broken.passed
followed (i ∷ rest) r p (inr broken) = or_right (is_script_item i && list_any is_content rest) (is_followed rest) (followed rest r p broken)

abbrev is_twice : List Saying → Bool
is_twice [] = false
is_twice (s ∷ rest) = list_any (λ (t : Saying). bytes_eq t.text s.text) rest || is_twice rest

twice : (rule : ℕ) (ss : List Saying) (r p : ℕ) → Twice rule ss r p → is_twice ss ≡ true
twice rule [] r p broken = absurd broken
twice rule (s ∷ rest) r p (inl broken) = or_left (list_any (λ (t : Saying). bytes_eq t.text s.text) rest) (is_twice rest) (any_in (λ (t : Saying). bytes_eq t.text s.text) rest broken.item broken.is_in broken.broken.passed)
twice rule (s ∷ rest) r p (inr broken) = or_right (list_any (λ (t : Saying). bytes_eq t.text s.text) rest) (is_twice rest) (twice rule rest r p broken)

abbrev is_disordered : Bool → List Element → Bool
is_disordered is_first [] = false
is_disordered is_first (s ∷ rest) = (if is_first then is_sourced s else not (is_sourced s)) || is_disordered false rest

disordered : (is_first : Bool) (ss : List Element) (r p : ℕ) → Disordered is_first ss r p → is_disordered is_first ss ≡ true
disordered is_first [] r p broken = absurd broken
disordered is_first (s ∷ rest) r p (inl broken) = or_left (if is_first then is_sourced s else not (is_sourced s)) (is_disordered false rest) broken.passed
disordered is_first (s ∷ rest) r p (inr broken) = or_right (if is_first then is_sourced s else not (is_sourced s)) (is_disordered false rest) (disordered false rest r p broken)

abbrev is_bad_file : Trees Places → Bool
is_bad_file file = is_some (misrooted (items file)) || (is_followed (items file) || is_twice (ids (elements file)))

bad_file : (file : Trees Places) (r p : ℕ) → FileRows file r p → is_bad_file file ≡ true
bad_file file r p (inl broken) = or_left (is_some (misrooted (items file))) _ (perhaps_some 2 (misrooted (items file)) r p broken)
bad_file file r p (inr (inl broken)) = or_right (is_some (misrooted (items file))) _ (or_left (is_followed (items file)) _ (followed (items file) r p broken))
bad_file file r p (inr (inr broken)) = or_right (is_some (misrooted (items file))) _ (or_right (is_followed (items file)) _ (twice 8 (ids (elements file)) r p broken))

abbrev is_bad_root : List ℕ → Element → Bool
is_bad_root name root =
    is_some (misnamed name root.at (first_named (codes "id") root.attrs)) || (is_some (unended root.at (items root.kids))
    || (is_disordered true (before_last (scripts root)) || nat_lt node_limit (size (before_scripts root.kids) + 1)))

bad_root : (name : List ℕ) (root : Element) (r p : ℕ) → RootRows name root r p → is_bad_root name root ≡ true
bad_root name root r p (inl broken) = or_left (is_some (misnamed name root.at (first_named (codes "id") root.attrs))) _ (perhaps_some 3 (misnamed name root.at (first_named (codes "id") root.attrs)) r p broken)
bad_root name root r p (inr (inl broken)) =
    or_right (is_some (misnamed name root.at (first_named (codes "id") root.attrs))) _ (or_left (is_some (unended root.at (items root.kids))) _ (perhaps_some 4 (unended root.at (items root.kids)) r p broken))
bad_root name root r p (inr (inr (inl broken))) =
    or_right (is_some (misnamed name root.at (first_named (codes "id") root.attrs))) _ (or_right (is_some (unended root.at (items root.kids))) _
    (or_left (is_disordered true (before_last (scripts root))) _ (disordered true (before_last (scripts root)) r p broken)))
bad_root name root r p (inr (inr (inr broken))) =
    or_right (is_some (misnamed name root.at (first_named (codes "id") root.attrs))) _ (or_right (is_some (unended root.at (items root.kids))) _
    (or_right (is_disordered true (before_last (scripts root))) _ broken.passed))

abbrev is_bad_id : List ℕ → Attr → Bool
is_bad_id name a = is_named (codes "id") a && not (is_own_id name a.value)

abbrev is_bad_other : List ℕ → Element → Bool
is_bad_other name e = list_any (λ (s : Element). true) (scripts e) || list_any (is_bad_id name) e.attrs

bad_other : (name : List ℕ) (e : Element) (r p : ℕ) → OtherRows name e r p → is_bad_other name e ≡ true
bad_other name e r p (inl broken) = or_left (list_any (λ (s : Element). true) (scripts e)) _ (any_in (λ (s : Element). true) (scripts e) broken.item broken.is_in refl)
bad_other name e r p (inr broken) = or_right (list_any (λ (s : Element). true) (scripts e)) _ (any_in (is_bad_id name) e.attrs broken.item broken.is_in broken.broken.passed)

-- (a `style` is taken for a bad one)
abbrev is_bad_attribute : Bool → Attr → Bool
is_bad_attribute of_script a = not (is_allowed of_script a.name) || (is_unsafe a || is_named (codes "style") a)

bad_attribute : (of_script : Bool) (a : Attr) (r p : ℕ) → AttributeRows of_script a r p → is_bad_attribute of_script a ≡ true
bad_attribute of_script a r p (inl broken) = or_left (not (is_allowed of_script a.name)) _ broken.passed
bad_attribute of_script a r p (inr (inl broken)) = or_right (not (is_allowed of_script a.name)) _ (or_left (is_unsafe a) _ broken.passed)
bad_attribute of_script a r p (inr (inr broken)) = or_right (not (is_allowed of_script a.name)) _ (or_right (is_unsafe a) _ broken.named)

abbrev is_bad_element : Element → Bool
is_bad_element e = is_foreign e.tag || (is_twice (map name_of e.attrs) || list_any (is_bad_attribute (is_script e.tag)) e.attrs)

bad_element : (e : Element) (r p : ℕ) → MarkupRows e r p → is_bad_element e ≡ true
bad_element e r p (inl broken) = or_left (is_foreign e.tag) _ broken.passed
bad_element e r p (inr (inl broken)) = or_right (is_foreign e.tag) _ (or_left (is_twice (map name_of e.attrs)) _ (twice 7 (map name_of e.attrs) r p broken))
bad_element e r p (inr (inr broken)) =
    or_right (is_foreign e.tag) _ (or_right (is_twice (map name_of e.attrs)) _
    (any_in (is_bad_attribute (is_script e.tag)) e.attrs broken.item broken.is_in (bad_attribute (is_script e.tag) broken.item r p broken.broken)))

abbrev is_bad_slot_attribute : List ℕ → List (List ℕ) → Bool → Attr → Bool
is_bad_slot_attribute name libs of_script a =
    (is_named (codes "for") a && not (is_own_id name a.value)) || (of_script && is_named (codes "src") a && not (list_any (bytes_eq a.value) libs))

bad_slot_attribute : (name : List ℕ) (libs : List (List ℕ)) (of_script : Bool) (a : Attr) (r p : ℕ) → SlotAttributeRows name libs of_script a r p → is_bad_slot_attribute name libs of_script a ≡ true
bad_slot_attribute name libs of_script a r p (inl broken) = or_left (is_named (codes "for") a && not (is_own_id name a.value)) _ broken.passed
bad_slot_attribute name libs of_script a r p (inr broken) = or_right (is_named (codes "for") a && not (is_own_id name a.value)) _ broken.passed

abbrev is_bad_slot_element : List ℕ → List (List ℕ) → Element → Bool
is_bad_slot_element name libs e = is_followed (items e.kids) || list_any (is_bad_slot_attribute name libs (is_script e.tag)) e.attrs

bad_slot_element : (name : List ℕ) (libs : List (List ℕ)) (e : Element) (r p : ℕ) → SlotRows name libs e r p → is_bad_slot_element name libs e ≡ true
bad_slot_element name libs e r p (inl broken) = or_left (is_followed (items e.kids)) _ (followed (items e.kids) r p broken)
bad_slot_element name libs e r p (inr broken) =
    or_right (is_followed (items e.kids)) _
    (any_in (is_bad_slot_attribute name libs (is_script e.tag)) e.attrs broken.item broken.is_in (bad_slot_attribute name libs (is_script e.tag) broken.item r p broken.broken))

-- ## Files

abbrev pub is_bad_markup : List ℕ → List (List ℕ) → Trees Places → Bool
is_bad_markup name libs file =
    is_bad_file file || (list_any (is_bad_root name) (roots file) || (list_any (is_bad_other name) (others file)
    || (list_any is_bad_element (elements file) || list_any (is_bad_slot_element name libs) (elements file))))

bad_markup : (name : List ℕ) (libs : List (List ℕ)) (file : Trees Places) (r p : ℕ) → Breaks name libs file r p → is_bad_markup name libs file ≡ true
bad_markup name libs file r p (inl broken) = or_left (is_bad_file file) _ (bad_file file r p broken)
bad_markup name libs file r p (inr (inl broken)) = or_right (is_bad_file file) _ (or_left (list_any (is_bad_root name) (roots file)) _ (any_in (is_bad_root name) (roots file) broken.item broken.is_in (bad_root name broken.item r p broken.broken)))
bad_markup name libs file r p (inr (inr (inl broken))) =
    or_right (is_bad_file file) _ (or_right (list_any (is_bad_root name) (roots file)) _
    (or_left (list_any (is_bad_other name) (others file)) _ (any_in (is_bad_other name) (others file) broken.item broken.is_in (bad_other name broken.item r p broken.broken))))
bad_markup name libs file r p (inr (inr (inr (inl broken)))) =
    or_right (is_bad_file file) _ (or_right (list_any (is_bad_root name) (roots file)) _ (or_right (list_any (is_bad_other name) (others file)) _
    (or_left (list_any is_bad_element (elements file)) _ (any_in is_bad_element (elements file) broken.item broken.is_in (bad_element broken.item r p broken.broken)))))
bad_markup name libs file r p (inr (inr (inr (inr broken)))) =
    or_right (is_bad_file file) _ (or_right (list_any (is_bad_root name) (roots file)) _ (or_right (list_any (is_bad_other name) (others file)) _ (or_right (list_any is_bad_element (elements file)) _
    (any_in (is_bad_slot_element name libs) (elements file) broken.item broken.is_in (bad_slot_element name libs broken.item r p broken.broken)))))

pub good_markup : (name : List ℕ) (libs : List (List ℕ)) (file : Trees Places) → is_bad_markup name libs file ≡ false → IsGood name libs file
good_markup name libs file good r p broken = false≢true (sym good ∙ bad_markup name libs file r p broken)

-- the trees of an ASCII text
abbrev trees_in : Judged → Option (Trees Places)
trees_in (judges.Read file) = Some file
trees_in (judges.Bad at) = None

abbrev pub trees_of : List ℕ → Option (Trees Places)
trees_of bytes = trees_in (behind (reads begin 0 bytes) (length bytes) [])

same_trees : (ts file : Trees Places) → Some ts ≡ Some file → ts ≡ file
same_trees ts file e = cc

no_trees : (file : Trees Places) → None ≡ Some file → ⊥
no_trees file e = cc

read_so : (j : Judged) (file : Trees Places) → trees_in j ≡ Some file → j ≡ judges.Read file
read_so (judges.Read ts) file e = ap judges.Read (same_trees ts file e)
read_so (judges.Bad at) file e = absurd (no_trees file e)

pub trees_spelled : (bytes : List ℕ) (file : Trees Places) → is_ascii bytes ≡ true → trees_of bytes ≡ Some file → MarkupSpells bytes file
trees_spelled bytes file small e =
    let a = ascii bytes small in
    let utf8 = IsUtf8-from_ascii bytes a in
    text_judged bytes utf8 (judges.Read file)
    (whole bytes utf8 ∙ ap (λ (cs : List ℕ). behind (reads begin 0 cs) (length bytes) []) (chars-IsAscii bytes a) ∙ read_so (behind (reads begin 0 bytes) (length bytes) []) file e)

abbrev span_at : ℕ → ℕ → Span
span_at start stop = record { from = start; to = stop }

-- where the text of a script stands that is ASCII
abbrev ascii_span : Trees Places → Option Span
ascii_span End = None
ascii_span (Node m (TextOf us) ks ts) = if is_ascii us then Some (span_at m.at (m.at + length us)) else None
ascii_span (Node m (ElementOf tag attrs) ks ts) = None

abbrev pub script_span : Option Element → Option Span
script_span None = None
script_span (Some e) = ascii_span e.kids

no_span : (span : Span) → None ≡ Some span → ⊥
no_span span e = cc

text_span : (m : Places) (us : List ℕ) (span : Span) (b : Bool) → is_ascii us ≡ b → (if b then Some (span_at m.at (m.at + length us)) else None) ≡ Some span → Some (span_at m.at (m.at + length (utf8_of us))) ≡ Some span
text_span m us span false small e = absurd (no_span span e)
text_span m us span true small e =
    let a = ascii us small in
    ap (λ (l : List ℕ). Some (span_at m.at (m.at + length l))) (ap utf8_of (sym (units_of-ascii us a)) ∙ utf8_of-units_of us (IsUtf8-from_ascii us a)) ∙ e

ascii_there : (at : ℕ) (kids : Trees Places) (span : Span) → ascii_span kids ≡ Some span → Some (span_in at kids) ≡ Some span
ascii_there at End span e = absurd (no_span span e)
ascii_there at (Node m (TextOf us) ks ts) span e = text_span m us span (is_ascii us) refl e
ascii_there at (Node m (ElementOf tag attrs) ks ts) span e = absurd (no_span span e)

pub script_there : (o : Option Element) (span : Span) → script_span o ≡ Some span → option_map span_of o ≡ Some span
script_there None span e = absurd (no_span span e)
script_there (Some s) span e = ascii_there s.at s.kids span e
