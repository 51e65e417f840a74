-- The weight of a value is that of the objects that are made for it.
use Rattle.std.proofs.Common.{◌≡◌, ℕ, ◌+◌, List, [], ◌∷◌, ◌++◌, length, refl, sym, ap, ◌∙◌, Bool, true, false, ◌&&◌, arith, not}
use Rattle.std.specs.Prelude.{◌||◌, sum_by}
use Rattle.std.specs.List.{flat_map, list_all, list_any}
use Rattle.std.proofs.lemmas.Grind.{flat_map-append}
use Rattle.std.proofs.lemmas.List.{length-append}
use Rattle.std.proofs.lemmas.List.Concat.{flat_map-cons}
use Rattle.std.proofs.lemmas.List.Folds.{list_all-append, list_any-append}
use Rattle.std.proofs.lemmas.List.Sums.{sum_by-append, sum_by-cons}
use Rattle.serde_json.specs.Data as json
use Rattle.code_units.specs.Permitted.{is_permitted}
use Rattle.code_units.specs.Utf8.{units_of}
use Rattle.widget_meaning.specs.Values.{Value, Own, Text}
use Rattle.widget_meaning.specs.OwnState.{Cell, Pairs, new_array, plain_object}
use Rattle.widget_meaning.specs.Properties.{index_name}
use Rattle.widget_meaning.specs.NativeForms.{is_too_long}
use Rattle.widget_meaning.specs.JsonValues.{Parts, cells_at, has_numbers, has_permitted_names, items_at, items_have_numbers, members_at, members_have_numbers, texts_in, texts_of, value_at, with_part}
use Rattle.json_text.specs.declared.weighing.Weight.{Weight}
use Rattle.json_text.specs.Building.{slots_in}
use Rattle.json_text.specs.Weights.{cell_weight, items_weight, members_weight, name_weight, no_weight, plus, slot_weight, text_weight, weight}

abbrev is_named : Cell → Bool
is_named c = has_permitted_names c.kind c.pairs

abbrev pair_texts : Pairs → List (List ℕ)
pair_texts ps = flat_map (λ (p : List ℕ × Value). texts_of p.1) ps

abbrev cell_texts : List Cell → List (List ℕ)
cell_texts cs = flat_map (λ (c : Cell). pair_texts c.pairs) cs

-- What a value and the objects that are made for it weigh.
pub record Weighs (v : Value) (cs : List Cell) (a : Weight) : Type 0 where
  pub cells : length cs ≡ a.cells
  pub slots : slots_in cs ≡ a.slots
  pub units : sum_by length (texts_in v cs) ≡ a.units
  pub named : list_all is_named cs ≡ a.named
  pub short : list_any is_too_long (texts_in v cs) ≡ not a.short

-- The same of parts, whose names may be judged.
record PartsWeigh (judged : Pairs → Bool) (p : Parts) (a : Weight) : Type 0 where
  cells : length p.1 ≡ a.cells
  slots : length p.0 + slots_in p.1 ≡ a.slots
  units : sum_by length (pair_texts p.0 ++ cell_texts p.1) ≡ a.units
  named : (judged p.0 && list_all is_named p.1) ≡ a.named
  short : list_any is_too_long (pair_texts p.0 ++ cell_texts p.1) ≡ not a.short

mixed : (t a c d x y : Bool) → (t || c) ≡ not x → (a || d) ≡ not y → ((t || a) || (c || d)) ≡ not (x && y)
mixed true a c d true y h g = cc
mixed true a c d false y h g = refl
mixed false a true d true y h g = cc
mixed false true true d false y h g = refl
mixed false false true d false y h g = refl
mixed false true false d true y h g = g
mixed false false false d true y h g = g
mixed false a false d false y h g = cc

all_mixed : (p a c d : Bool) → ((p && a) && (c && d)) ≡ ((p && c) && (a && d))
all_mixed true true c d = refl
all_mixed true false true d = refl
all_mixed true false false d = refl
all_mixed false a c d = refl

-- a part, and then the others
module _ (judged : Pairs → Bool) (x : List ℕ) (v : Value) (cs : List Cell) (q : Parts) (e a b : Weight) (h : Weighs v cs a) (g : PartsWeigh judged q b) where
  texts : pair_texts ((x, v) ∷ q.0) ++ cell_texts (cs ++ q.1) ≡ (texts_of v ++ pair_texts q.0) ++ (cell_texts cs ++ cell_texts q.1)
  texts = λ j. flat_map-cons (λ (p : List ℕ × Value). texts_of p.1) (x, v) q.0 j ++ flat_map-append (λ (c : Cell). pair_texts c.pairs) cs q.1 j

  abbrev many : List (List ℕ) → ℕ
  many ts = sum_by length ts

  abbrev long : List (List ℕ) → Bool
  long ts = list_any is_too_long ts

  part_weighs : e.cells ≡ 0 → e.slots ≡ 1 → e.units ≡ 0 → e.short ≡ true → judged ((x, v) ∷ q.0) ≡ (e.named && judged q.0) → PartsWeigh judged (with_part x v cs q) (plus (plus e a) b)
  part_weighs no_cells one no_units shorter names = record {
    cells = omega (arith, no_cells, h.cells, g.cells, length-append cs q.1);
    slots = omega (arith, one, h.slots, g.slots, sum_by-append (λ (c : Cell). length c.pairs) cs q.1);
    units =
        ap many texts
        ∙ omega (
          arith,
          no_units,
          h.units,
          g.units,
          sum_by-append length (texts_of v ++ pair_texts q.0) (cell_texts cs ++ cell_texts q.1),
          sum_by-append length (texts_of v) (pair_texts q.0),
          sum_by-append length (cell_texts cs) (cell_texts q.1),
          sum_by-append length (texts_of v) (cell_texts cs),
          sum_by-append length (pair_texts q.0) (cell_texts q.1),
        );
    named =
        (λ j. names j && list_all-append is_named cs q.1 j)
        ∙ all_mixed e.named (judged q.0) (list_all is_named cs) (list_all is_named q.1)
        ∙ (λ j. (e.named && h.named j) && g.named j);
    short =
        ap long texts
        ∙ list_any-append is_too_long (texts_of v ++ pair_texts q.0) (cell_texts cs ++ cell_texts q.1)
        ∙ (λ j. list_any-append is_too_long (texts_of v) (pair_texts q.0) j || list_any-append is_too_long (cell_texts cs) (cell_texts q.1) j)
        ∙ mixed (long (texts_of v)) (long (pair_texts q.0)) (long (cell_texts cs)) (long (cell_texts q.1)) a.short b.short
        (sym (list_any-append is_too_long (texts_of v) (cell_texts cs)) ∙ h.short) (sym (list_any-append is_too_long (pair_texts q.0) (cell_texts q.1)) ∙ g.short)
        ∙ ap (λ s. not ((s && a.short) && b.short)) (sym shorter);
  }

-- an object or array around its parts
whole_weighs : (judged : Pairs → Bool) (n : ℕ) (c : Cell) (p : Parts) (a : Weight) → c.pairs ≡ p.0 → is_named c ≡ judged p.0 → PartsWeigh judged p a → Weighs (Own n) (c ∷ p.1) (plus cell_weight a)
whole_weighs judged n c p a pairs names h =
    let texts : texts_in (Own n) (c ∷ p.1) ≡ pair_texts p.0 ++ cell_texts p.1 = flat_map-cons (λ (d : Cell). pair_texts d.pairs) c p.1 ∙ ap (λ ps. pair_texts ps ++ cell_texts p.1) pairs in
    record {
      cells = omega (arith, h.cells);
      slots = omega (arith, h.slots, sum_by-cons (λ (d : Cell). length d.pairs) c p.1, ap length pairs);
      units = omega (arith, ap (sum_by length) texts, h.units);
      named = ap (λ b. b && list_all is_named p.1) names ∙ h.named;
      short = ap (list_any is_too_long) texts ∙ h.short;
    }

-- a value without objects
plain_weighs : (v : Value) → texts_of v ≡ [] → Weighs v [] no_weight
plain_weighs v none = record {
  cells = refl;
  slots = refl;
  units = ap (λ (ts : List (List ℕ)). sum_by length (ts ++ [])) none;
  named = refl;
  short = ap (λ (ts : List (List ℕ)). list_any is_too_long (ts ++ [])) none;
}

text_weighs : (t : List ℕ) → Weighs (Text t) [] (text_weight t)
text_weighs t = record { cells = refl; slots = refl; units = omega arith; named = refl; short = twice (is_too_long t) }
  where
    twice : (b : Bool) → (b || false) ≡ not (not b)
    twice true = refl
    twice false = refl

mutual
  pub weighs : (n : ℕ) (d : json.Data) → Weighs (value_at n d) (cells_at n d) (weight d)
  weighs n json.null = plain_weighs (value_at n json.null) refl
  weighs n (json.boolean b) = plain_weighs (value_at n (json.boolean b)) refl
  weighs n (json.number x) = record { cells = refl; slots = refl; units = refl; named = refl; short = refl }
  weighs n (json.string bs) = text_weighs (units_of bs)
  weighs n (json.array ds) = whole_weighs (λ ps. true) n (new_array (length (items_at (n + 1) 0 ds).0) (items_at (n + 1) 0 ds).0) (items_at (n + 1) 0 ds) (items_weight ds) refl refl (items_weigh (n + 1) 0 ds)
  weighs n (json.object ms) = whole_weighs (λ ps. list_all (λ p. is_permitted p.0) ps) n (plain_object (members_at (n + 1) ms).0) (members_at (n + 1) ms) (members_weight ms) refl refl (members_weigh (n + 1) ms)

  items_weigh : (n i : ℕ) (ds : json.Items) → PartsWeigh (λ ps. true) (items_at n i ds) (items_weight ds)
  items_weigh n i json.no_items = record { cells = refl; slots = refl; units = refl; named = refl; short = refl }
  items_weigh n i (json.item d ds) =
      part_weighs (λ ps. true) (index_name i) (value_at n d) (cells_at n d) (items_at (n + length (cells_at n d)) (i + 1) ds) slot_weight (weight d) (items_weight ds)
      (weighs n d) (items_weigh (n + length (cells_at n d)) (i + 1) ds) refl refl refl refl refl

  members_weigh : (n : ℕ) (ms : json.Members) → PartsWeigh (λ ps. list_all (λ p. is_permitted p.0) ps) (members_at n ms) (members_weight ms)
  members_weigh n json.no_members = record { cells = refl; slots = refl; units = refl; named = refl; short = refl }
  members_weigh n (json.member k d ms) =
      part_weighs (λ ps. list_all (λ p. is_permitted p.0) ps) (units_of k) (value_at n d) (cells_at n d) (members_at (n + length (cells_at n d)) ms) (name_weight (units_of k)) (weight d) (members_weight ms)
      (weighs n d) (members_weigh (n + length (cells_at n d)) ms) refl refl refl refl refl

-- its numbers
mutual
  pub numbers : (d : json.Data) → has_numbers d ≡ (weight d).whole
  numbers json.null = refl
  numbers (json.boolean b) = refl
  numbers (json.number x) = refl
  numbers (json.string bs) = refl
  numbers (json.array ds) = items_numbers ds
  numbers (json.object ms) = members_numbers ms

  items_numbers : (ds : json.Items) → items_have_numbers ds ≡ (items_weight ds).whole
  items_numbers json.no_items = refl
  items_numbers (json.item d ds) = λ j. numbers d j && items_numbers ds j

  members_numbers : (ms : json.Members) → members_have_numbers ms ≡ (members_weight ms).whole
  members_numbers json.no_members = refl
  members_numbers (json.member k d ms) = λ j. numbers d j && members_numbers ms j
