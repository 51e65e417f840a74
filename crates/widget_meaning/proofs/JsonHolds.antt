-- The text that is written for a value is that of its tree, and is read back as that tree.
use Rattle.std.proofs.Common.{◌≡◌, ℕ, zero, suc, ◌+◌, ◌<◌, ◌≤◌, ◌^◌, pos, negsuc, Bool, true, false, cond, nat_lt, List, [], ◌∷◌, ◌++◌, Option, Some, None, refl, sym, ap, ◌∙◌, arith, append_assoc, append-nil, ltb-true, IsUtf8, option_and_then}
use Rattle.std.specs.Prelude.{⊤, if◌then◌else◌, codes, filter, decimal, option_map}
use Rattle.std.specs.Fmt.{signed_decimal}
use Rattle.std.specs.Str.{IsAscii, bytes_eq}
use Rattle.std.proofs.lemmas.Bool.{false≢true, and_parts}
use Rattle.std.proofs.lemmas.Str.{IsUtf8-append, IsUtf8-from_ascii}
use Rattle.std.proofs.lemmas.Str.Ascii.{IsAscii-nil, IsAscii-cons}
use Rattle.std.proofs.lemmas.Fmt.{IsAscii-decimal, IsAscii-signed}
use Rattle.code_units.specs.Utf8.{units_of, utf8_of}
use Rattle.code_units.specs.Permitted.{is_permitted}
use Rattle.code_units.proofs.Utf8Laws.{units_of-append, units_of-ascii}
use Rattle.code_units.proofs.UnitsBack.{IsUtf8-utf8_of}
use Rattle.code_units.proofs.RoundTrip.{utf8_of-units_of}
use Rattle.json.specs.Lex.{tokens}
use Rattle.json.specs.Print.{quoted}
use Rattle.json.specs.Json as grammar
use Rattle.json.specs.Tree.{depth, items_depth, members_depth, json_tokens, HasNumbers, ItemsHaveNumbers, MembersHaveNumbers}
use Rattle.json.proofs.Printed.Utf8.{IsUtf8-quoted, are_ascii}
use Rattle.json.proofs.Printed.Decimals.{IsNumber-decimal, IsNumber-signed_decimal}
use Rattle.json.proofs.Printed.Tokens.{tokens-print}
use Rattle.json.proofs.Printed.Trees.{value-json_tokens, ArePrintable-json_tokens}
use Rattle.serde_json.specs.Data as json
use Rattle.serde_json.specs.Read.{of_json, of_items, of_members, max_depth}
use Rattle.serde_json.specs.Written.{compact_text, items_text, comma_if, outline, items_outline, members_outline}
use Rattle.serde_json.specs.Written as serde
use Rattle.serde_json.proofs.Numbers.{number_of-decimal, number_of-negative}
use Rattle.serde_json.proofs.Texts.{print-outline}
use Rattle.widget_meaning.specs.Limits.{max_nesting}
use Rattle.widget_meaning.specs.Values.{Value, Undefined, Null, Truth, NaN, Num, Text, Own, Host}
use Rattle.widget_meaning.specs.OwnState.{State, Kind, Object, Array, Function, Bunch, Pairs, lookup, cell_at}
use Rattle.widget_meaning.specs.Properties.{index_name}
use Rattle.widget_meaning.specs.JsonTexts.{Written, Wrote, NoJson, TooLong, Writer, write, and_write, quoted_text, element_text, elements_text, members_text, cell_text, value_text}
use Rattle.widget_meaning.specs.JsonLaws.{PartTree, items_tree, members_tree, cell_tree, tree_of, in_order, items_in_order, put_all, HasUnits, IsOrdinary, AreOrdinary, JsonLaws}

-- these units are those of these bytes
record Spells (us bs : List ℕ) : Type 0 where
  utf8 : IsUtf8 bs
  units : us ≡ units_of bs

ascii : (bs : List ℕ) → are_ascii bs ≡ true → IsAscii bs
ascii [] e = IsAscii-nil
ascii (b ∷ bs) e = let p = and_parts (nat_lt b 128) (are_ascii bs) e in IsAscii-cons b bs (ltb-true b 128 p.0) (ascii bs p.1)

spells_ascii : (bs : List ℕ) → IsAscii bs → Spells bs bs
spells_ascii bs a = record { utf8 = IsUtf8-from_ascii bs a; units = sym (units_of-ascii bs a) }

spells_append : (us bs vs cs : List ℕ) → Spells us bs → Spells vs cs → Spells (us ++ vs) (bs ++ cs)
spells_append us bs vs cs h k = record {
  utf8 = IsUtf8-append bs cs h.utf8 k.utf8;
  units = ap (λ xs. xs ++ vs) h.units ∙ ap (λ xs. units_of bs ++ xs) k.units ∙ sym (units_of-append bs cs h.utf8);
}

spells_quoted : (t : List ℕ) → HasUnits t → Spells (quoted_text t) (quoted (utf8_of t))
spells_quoted t h = record { utf8 = IsUtf8-quoted (utf8_of t) (IsUtf8-utf8_of t h); units = refl }

spells_comma : (later : Bool) → Spells (comma_if later) (comma_if later)
spells_comma true = spells_ascii (44 ∷ []) (ascii (44 ∷ []) refl)
spells_comma false = spells_ascii [] IsAscii-nil

-- what was written went on
is_wrote : Written → Bool
is_wrote (Wrote t) = true
is_wrote NoJson = false
is_wrote TooLong = false

text_of : Written → List ℕ
text_of (Wrote t) = t
text_of NoJson = []
text_of TooLong = []

nothing : {A : Type 0} (w : List ℕ) → NoJson ≡ Wrote w → A
unfolding is_wrote
nothing w e = absurd (false≢true (ap is_wrote e))

and_wrote : (r : Written) (k : List ℕ → Written) (w : List ℕ) → and_write r k ≡ Wrote w → (t : List ℕ) × (r ≡ Wrote t) × (k t ≡ Wrote w)
unfolding is_wrote
and_wrote (Wrote t) k w e = (t, refl, e)
and_wrote NoJson k w e = absurd (false≢true (ap is_wrote e))
and_wrote TooLong k w e = absurd (false≢true (ap is_wrote e))

went_on : (b : Bool) (t w : List ℕ) → (if b then TooLong else Wrote t) ≡ Wrote w → w ≡ t
unfolding is_wrote text_of
went_on true t w e = absurd (false≢true (ap is_wrote e))
went_on false t w e = sym (ap text_of e)

wrote : (t more w : List ℕ) → write t more ≡ Wrote w → w ≡ t ++ more
wrote t more w e = went_on _ (t ++ more) w e

regroup : (t a b c u v w : List ℕ) → u ≡ t ++ a → v ≡ u ++ b → w ≡ v ++ c → w ≡ t ++ (a ++ (b ++ c))
regroup t a b c u v w e f g = g ∙ ap (λ xs. xs ++ c) (f ∙ ap (λ xs. xs ++ b) e) ∙ append_assoc (t ++ a) b c ∙ append_assoc t a (b ++ c)

-- what was written for a value, for items and for members
record Value-written (m : ℕ) (o : Option json.Data) (t w : List ℕ) : Type 0 where
  d : json.Data
  is : o ≡ Some d
  more : List ℕ
  spells : Spells more (compact_text d)
  grown : w ≡ t ++ more
  shallow : depth (outline d) ≤ m
  numbers : HasNumbers (outline d)
  ordered : of_json (outline d) ≡ Some (in_order d)

record Items-written (later : Bool) (m : ℕ) (o : Option json.Items) (t w : List ℕ) : Type 0 where
  ds : json.Items
  is : o ≡ Some ds
  more : List ℕ
  spells : Spells more (items_text later ds)
  grown : w ≡ t ++ more
  shallow : items_depth (items_outline ds) ≤ m
  numbers : ItemsHaveNumbers (items_outline ds)
  ordered : of_items (items_outline ds) ≡ Some (items_in_order ds)

record Members-written (later : Bool) (m : ℕ) (o : Option json.Members) (t w : List ℕ) : Type 0 where
  ms : json.Members
  is : o ≡ Some ms
  more : List ℕ
  spells : Spells more (serde.members_text later ms)
  grown : w ≡ t ++ more
  shallow : members_depth (members_outline ms) ≤ m
  numbers : MembersHaveNumbers (members_outline ms)
  ordered : (found : json.Members) → of_members (members_outline ms) found ≡ Some (put_all ms found)

abbrev Good : ℕ → PartTree → Writer → Type 0
Good m tree value = (v : Value) (t w : List ℕ) → IsOrdinary v → value v t ≡ Wrote w → Value-written m (tree v) t w

-- the elements of an array
abbrev pub OrdinaryOption : Option Value → Type 0
OrdinaryOption None = ⊤
OrdinaryOption (Some v) = IsOrdinary v

found_ordinary : (b : Bool) (v : Value) (o : Option Value) → IsOrdinary v → OrdinaryOption o → OrdinaryOption (if b then Some v else o)
found_ordinary true v o h k = h
found_ordinary false v o h k = k

pub lookup_ordinary : (ps : Pairs) (x : List ℕ) → AreOrdinary ps → OrdinaryOption (lookup ps x)
lookup_ordinary [] x h = tt
lookup_ordinary (p ∷ ps) x h = found_ordinary (bytes_eq x p.0) p.1 (lookup ps x) h.1 (lookup_ordinary ps x h.2)

module _ (m : ℕ) (tree : PartTree) (value : Writer) (good : Good m tree value) where
  element : (o : Option Value) (t w : List ℕ) → OrdinaryOption o → element_text value o t ≡ Wrote w → Value-written m (option_and_then tree o) t w
  element None t w h e = nothing w e
  element (Some v) t w h e = good v t w h e

  items : (ps : Pairs) → AreOrdinary ps → (later : Bool) (i n : ℕ) (t w : List ℕ) → elements_text value ps (comma_if later) i n t ≡ Wrote w → Items-written later m (items_tree tree ps i n) t w
  items ps h later i zero t w e = record {
    ds = json.no_items;
    is = refl;
    more = 93 ∷ [];
    spells = spells_ascii (93 ∷ []) (ascii (93 ∷ []) refl);
    grown = wrote t (93 ∷ []) w e;
    shallow = omega arith;
    numbers = tt;
    ordered = refl;
  }
  items ps h later i (suc n) t w e =
      let a = and_wrote (write t (comma_if later)) _ w e in
      let b = and_wrote (element_text value (lookup ps (index_name i)) a.0) _ w a.2 in
      let x = element (lookup ps (index_name i)) a.0 b.0 (lookup_ordinary ps (index_name i) h) b.1 in
      let r = items ps h true (i + 1) n b.0 w b.2 in
      record {
        ds = json.item x.d r.ds;
        is = rw x.is (rw r.is refl);
        more = comma_if later ++ (x.more ++ r.more);
        spells = spells_append _ _ _ _ (spells_comma later) (spells_append _ _ _ _ x.spells r.spells);
        grown = regroup t (comma_if later) x.more r.more a.0 b.0 w (wrote t (comma_if later) a.0 a.1) x.grown r.grown;
        shallow = omega (arith, x.shallow, r.shallow);
        numbers = (x.numbers, r.numbers);
        ordered = rw x.ordered (rw r.ordered refl);
      }

  members : (ps : Pairs) → AreOrdinary ps → (later : Bool) (t w : List ℕ) → members_text value (comma_if later) ps t ≡ Wrote w → Members-written later m (members_tree tree ps) t w
  members [] h later t w e = record {
    ms = json.no_members;
    is = refl;
    more = 125 ∷ [];
    spells = spells_ascii (125 ∷ []) (ascii (125 ∷ []) refl);
    grown = wrote t (125 ∷ []) w e;
    shallow = omega arith;
    numbers = tt;
    ordered = λ found. refl;
  }
  members (p ∷ ps) h later t w e =
      let q = quoted_text p.0 in
      let a = and_wrote (write t (comma_if later ++ (q ++ (58 ∷ [])))) _ w e in
      let b = and_wrote (value p.1 a.0) _ w a.2 in
      let x = good p.1 a.0 b.0 h.1 b.1 in
      let r = members ps h.2 true b.0 w b.2 in
      record {
        ms = json.member (utf8_of p.0) x.d r.ms;
        is = rw x.is (rw r.is refl);
        more = comma_if later ++ (q ++ ((58 ∷ []) ++ (x.more ++ r.more)));
        spells = spells_append _ _ _ _ (spells_comma later)
            (spells_append _ _ _ _ (spells_quoted p.0 h.0) (spells_append (58 ∷ []) (58 ∷ []) _ _ (spells_ascii (58 ∷ []) (ascii (58 ∷ []) refl)) (spells_append _ _ _ _ x.spells r.spells)));
        grown = regroup t (comma_if later ++ (q ++ (58 ∷ []))) x.more r.more a.0 b.0 w (wrote t (comma_if later ++ (q ++ (58 ∷ []))) a.0 a.1) x.grown r.grown
            ∙ ap (λ xs. t ++ xs) (append_assoc (comma_if later) (q ++ (58 ∷ [])) (x.more ++ r.more) ∙ ap (λ xs. comma_if later ++ xs) (append_assoc q (58 ∷ []) (x.more ++ r.more)));
        shallow = omega (arith, x.shallow, r.shallow);
        numbers = (x.numbers, r.numbers);
        ordered = λ found. rw x.ordered (r.ordered (json.put (utf8_of p.0) (in_order x.d) found));
      }

-- the permitted names are ordinary too
kept_ordinary : (b : Bool) (x : List ℕ) (v : Value) (ps : Pairs) → HasUnits x → IsOrdinary v → AreOrdinary ps → AreOrdinary (cond b ((x, v) ∷ ps) ps)
kept_ordinary true x v ps h k l = (h, k, l)
kept_ordinary false x v ps h k l = l

permitted_ordinary : (ps : Pairs) → AreOrdinary ps → AreOrdinary (filter (λ p. is_permitted p.0) ps)
permitted_ordinary [] h = tt
permitted_ordinary (p ∷ ps) h = kept_ordinary (is_permitted p.0) p.0 p.1 (filter (λ p. is_permitted p.0) ps) h.0 h.1 (permitted_ordinary ps h.2)

-- an array and an object
opened : (t bracket more u w : List ℕ) → u ≡ t ++ bracket → w ≡ u ++ more → w ≡ t ++ (bracket ++ more)
opened t bracket more u w e f = f ∙ ap (λ xs. xs ++ more) e ∙ append_assoc t bracket more

cell : (m : ℕ) (tree : PartTree) (value : Writer) (good : Good m tree value) (kind : Kind) (ps : Pairs) (t w : List ℕ) → AreOrdinary ps → cell_text value kind ps t ≡ Wrote w → Value-written (suc m) (cell_tree tree kind ps) t w
cell m tree value good Object ps t w h e =
    let a = and_wrote (write t (123 ∷ [])) _ w e in
    let r = members m tree value good (filter (λ p. is_permitted p.0) ps) (permitted_ordinary ps h) false a.0 w a.2 in
    record {
      d = json.object r.ms;
      is = rw r.is refl;
      more = (123 ∷ []) ++ r.more;
      spells = spells_append (123 ∷ []) (123 ∷ []) _ _ (spells_ascii (123 ∷ []) (ascii (123 ∷ []) refl)) r.spells;
      grown = opened t (123 ∷ []) r.more a.0 w (wrote t (123 ∷ []) a.0 a.1) r.grown;
      shallow = omega (arith, r.shallow);
      numbers = r.numbers;
      ordered = ap (option_map json.object) (r.ordered json.no_members);
    }
cell m tree value good (Array len) ps t w h e =
    let a = and_wrote (write t (91 ∷ [])) _ w e in
    let r = items m tree value good ps h false 0 len a.0 w a.2 in
    record {
      d = json.array r.ds;
      is = rw r.is refl;
      more = (91 ∷ []) ++ r.more;
      spells = spells_append (91 ∷ []) (91 ∷ []) _ _ (spells_ascii (91 ∷ []) (ascii (91 ∷ []) refl)) r.spells;
      grown = opened t (91 ∷ []) r.more a.0 w (wrote t (91 ∷ []) a.0 a.1) r.grown;
      shallow = omega (arith, r.shallow);
      numbers = r.numbers;
      ordered = ap (option_map json.array) r.ordered;
    }
cell m tree value good (Function f scope) ps t w h e = nothing w e
cell m tree value good (Bunch ns) ps t w h e = nothing w e

-- primitives
leaf : (m : ℕ) (d : json.Data) (more t w : List ℕ) → write t more ≡ Wrote w → Spells more (compact_text d) → depth (outline d) ≡ 0 → HasNumbers (outline d) → of_json (outline d) ≡ Some (in_order d) → Value-written m (Some d) t w
leaf m d more t w e spells flat numbers ordered = record {
  d = d;
  is = refl;
  more = more;
  spells = spells;
  grown = wrote t more w e;
  shallow = omega (arith, flat);
  numbers = numbers;
  ordered = ordered;
}

null_leaf : (m : ℕ) (t w : List ℕ) → write t (codes "null") ≡ Wrote w → Value-written m (Some json.null) t w
null_leaf m t w e = leaf m json.null (codes "null") t w e (spells_ascii (codes "null") (ascii (codes "null") refl)) refl tt refl

truth_leaf : (m : ℕ) (b : Bool) (t w : List ℕ) → write t (compact_text (json.boolean b)) ≡ Wrote w → Value-written m (Some (json.boolean b)) t w
truth_leaf m true t w e = leaf m (json.boolean true) (codes "true") t w e (spells_ascii (codes "true") (ascii (codes "true") refl)) refl tt refl
truth_leaf m false t w e = leaf m (json.boolean false) (codes "false") t w e (spells_ascii (codes "false") (ascii (codes "false") refl)) refl tt refl

unsigned_leaf : (m n : ℕ) (t w : List ℕ) → n < 2 ^ 53 → write t (decimal n) ≡ Wrote w → Value-written m (Some (json.number (json.unsigned n))) t w
unsigned_leaf m n t w h e =
    leaf m (json.number (json.unsigned n)) (decimal n) t w e (spells_ascii (decimal n) (IsAscii-decimal n (omega (arith, h)))) refl (IsNumber-decimal n (omega (arith, h)))
    (ap (option_map json.number) (number_of-decimal n (omega (arith, h))))

negative_leaf : (m n : ℕ) (t w : List ℕ) → suc n < 2 ^ 53 → write t (signed_decimal (negsuc n)) ≡ Wrote w → Value-written m (Some (json.number (json.negative (negsuc n)))) t w
negative_leaf m n t w h e =
    leaf m (json.number (json.negative (negsuc n))) (signed_decimal (negsuc n)) t w e (spells_ascii (signed_decimal (negsuc n)) (IsAscii-signed (negsuc n) (omega (arith, h)))) refl
    (IsNumber-signed_decimal (negsuc n) (omega (arith, h))) (ap (option_map json.number) (number_of-negative n (omega (arith, h))))

text_leaf : (m : ℕ) (u t w : List ℕ) → HasUnits u → write t (quoted_text u) ≡ Wrote w → Value-written m (Some (json.string (utf8_of u))) t w
text_leaf m u t w h e = leaf m (json.string (utf8_of u)) (quoted_text u) t w e (spells_quoted u h) refl tt refl

-- every value
module _ (s : State) (heap : (n : ℕ) → AreOrdinary (cell_at s n).pairs) where
  value : (m : ℕ) → Good m (tree_of m s) (value_text m s)
  value zero Undefined t w h e = nothing w e
  value zero Null t w h e = null_leaf 0 t w e
  value zero (Truth true) t w h e = truth_leaf 0 true t w e
  value zero (Truth false) t w h e = truth_leaf 0 false t w e
  value zero NaN t w h e = nothing w e
  value zero (Num (pos n)) t w h e = unsigned_leaf 0 n t w h e
  value zero (Num (negsuc n)) t w h e = negative_leaf 0 n t w h e
  value zero (Text u) t w h e = text_leaf 0 u t w h e
  value zero (Own n) t w h e = nothing w e
  value zero (Host x) t w h e = nothing w e
  value (suc m) Undefined t w h e = nothing w e
  value (suc m) Null t w h e = null_leaf (suc m) t w e
  value (suc m) (Truth true) t w h e = truth_leaf (suc m) true t w e
  value (suc m) (Truth false) t w h e = truth_leaf (suc m) false t w e
  value (suc m) NaN t w h e = nothing w e
  value (suc m) (Num (pos n)) t w h e = unsigned_leaf (suc m) n t w h e
  value (suc m) (Num (negsuc n)) t w h e = negative_leaf (suc m) n t w h e
  value (suc m) (Text u) t w h e = text_leaf (suc m) u t w h e
  value (suc m) (Own n) t w h e = cell m (tree_of m s) (value_text m s) (value m) (cell_at s n).kind (cell_at s n).pairs t w (heap n) e
  value (suc m) (Host x) t w h e = nothing w e

-- read back
read_back : (d : json.Data) → HasNumbers (outline d) → depth (outline d) ≤ max_depth → of_json (outline d) ≡ Some (in_order d)
    → option_and_then of_json (option_and_then (λ p. grammar.if_last p.0 p.1) (grammar.value max_depth (tokens (compact_text d)))) ≡ Some (in_order d)
read_back d numbers shallow ordered =
    let same : tokens (compact_text d) ≡ json_tokens (outline d) = ap tokens (sym (print-outline d)) ∙ tokens-print (json_tokens (outline d)) (ArePrintable-json_tokens (outline d) numbers) in
    ap (λ ts. option_and_then of_json (option_and_then (λ p. grammar.if_last p.0 p.1) (grammar.value max_depth ts))) (same ∙ sym (append-nil (json_tokens (outline d))))
    ∙ ap (λ r. option_and_then of_json (option_and_then (λ p. grammar.if_last p.0 p.1) r)) (value-json_tokens (outline d) max_depth [] shallow)
    ∙ ordered

pub json_laws : JsonLaws
json_laws s v t heap h e =
    let x = value s heap max_nesting v [] t h e in
    let bytes : utf8_of t ≡ compact_text x.d = ap utf8_of (x.grown ∙ x.spells.units) ∙ utf8_of-units_of (compact_text x.d) x.spells.utf8 in
    record {
      tree = x.d;
      is = x.is;
      written = bytes;
      read = rw bytes (read_back x.d x.numbers (omega (arith, x.shallow)) x.ordered);
    }
