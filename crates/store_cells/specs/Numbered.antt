-- Cells by the numbers of their names, and what they are by name.
use Rattle.std.specs.Prelude.{◌≡◌, ℕ, zero, suc, ◌+◌, ◌-◌, ◌<◌, ◌≤◌, Bool, false, List, [], ◌∷◌, Option, None, Some, is_some, nat_lt, nat_eq, not, ◌&&◌, if◌then◌else◌, map, length, slice_get, slice_index_or, filter, MatchOption}
use Rattle.std.specs.Option.{option_map, option_map_or, option_and_then}
use Rattle.std.specs.BTreeMap.{insert_entry as tree_insert, is_at}
use Rattle.std.specs.Ordering.{nat_cmp}
use Rattle.std.specs.Str.{bytes_eq}
use Rattle.std.specs.List.{list_any}
use Rattle.std.specs.Map.{lookup, remove_entry}
use Rattle.indexmap.specs.IndexMap.{insert_entry}
use Rattle.code_units.specs.declared.owner.Owner.TheVariants as whose
use Rattle.store_cells.specs.declared.kind.Form.TheVariants as form
use Rattle.store_cells.specs.declared.value.Value.{Value}
use Rattle.store_cells.specs.declared.cell.Head.{Head}
use Rattle.store_cells.specs.declared.pairs.TheConstants.{FIRST_HOLE}
use Rattle.code_units.specs.Permitted.{is_permitted}
use Rattle.store_cells.specs.Lists.{climb}
use Rattle.store_cells.specs.Cells.{PlainCell, is_array, is_own, is_visible_form, widget_of}
use Rattle.store_cells.specs.declared.cell.Write.{Write}
use Rattle.store_cells.specs.declared.cell.Write.TheVariants as write
use Rattle.code_units.specs.Indices.{index_of}
use Rattle.store_cells.specs.Arrays.{is_below, is_reference, count_value, length_in, length_name, written, cut}

-- A cell as it is kept: its fixed part, the indices of an Array with the numbers of the names that are these, how many
-- of its elements refer to cells, and its pairs by the numbers of their names.
pub record NumberedCell : Type 0 where
  pub head : Head
  pub elements : List (ℕ × ℕ)
  pub references : ℕ
  pub entries : List (ℕ × Value)

-- the number of the name that is an index
abbrev pub found_in : List (ℕ × ℕ) → ℕ → Option ℕ
found_in els i = lookup (is_at (nat_cmp i)) els

-- the name with a number is noted as the index right before `end`, which is 0 where it is none
abbrev pub noted : ℕ → ℕ → List (ℕ × ℕ) → List (ℕ × ℕ)
noted zero n els = els
noted (suc at) n els = tree_insert nat_cmp els at n

-- what is noted below an index
abbrev pub noted_below : ℕ → List (ℕ × ℕ) → List (ℕ × ℕ)
noted_below n els = filter (λ p. nat_lt p.0 n) els

-- the pairs of a table without the holes that names left, which have numbers that no name has
abbrev pub live : List (ℕ × Value) → List (ℕ × Value)
live es = filter (λ e. nat_lt e.0 FIRST_HOLE) es

-- the name with a number
abbrev pub name_at : List (List ℕ) → ℕ → List ℕ
name_at names n = slice_index_or names n []

-- the pairs with their names
abbrev pub named : List (List ℕ) → List (ℕ × Value) → List (List ℕ × Value)
named names es = map (λ e. (name_at names e.0, e.1)) es

-- a cell with its names
abbrev pub plain : List (List ℕ) → NumberedCell → PlainCell
plain names c = record { owner = c.head.owner; form = c.head.form; up = c.head.up; pairs = named names c.entries }

-- whether a pair is an element and refers to a cell
abbrev pub is_referring : List (List ℕ) → ℕ × Value → Bool
is_referring names e = is_some (index_of (name_at names e.0)) && is_reference e.1

-- how many elements refer to cells
abbrev pub references_in : List (List ℕ) → List (ℕ × Value) → ℕ
references_in names es = length (filter (is_referring names) es)

-- whether the value under a name refers to a cell
abbrev pub refers_at : ℕ → List (ℕ × Value) → Bool
refers_at n es = option_map_or is_reference (lookup (nat_eq n) es) false

-- a count after one thing that counted or not is another
abbrev pub recounted : Bool → Bool → ℕ → ℕ
recounted had has k = (k - (if had then 1 else 0)) + (if has then 1 else 0)

-- the count of the elements that refer to cells, after the value under a name, which is an element where `e` is past its
-- index and not 0
abbrev pub element_recounted : ℕ → Bool → Bool → ℕ → ℕ
element_recounted zero had has k = k
element_recounted (suc at) had has k = recounted had has k

-- the cells with their names
abbrev pub cells_of : List (List ℕ) → List NumberedCell → List PlainCell
cells_of names cs = map (plain names) cs

-- the fixed parts of the cells
abbrev pub heads : List NumberedCell → List Head
heads cs = map (λ c. c.head) cs

-- whether a cell has a name of its own, by its number
abbrev pub numbered_has : ℕ → NumberedCell → Bool
numbered_has n c = is_some (lookup (nat_eq n) c.entries)

-- the place of the first cell with a name, from a cell on upwards, by its number
abbrev pub numbered_holder : List NumberedCell → ℕ → ℕ → Option ℕ
numbered_holder cells i n = climb (numbered_has n) (λ c. c.head.up) (length cells) cells (Some i)

-- the value under a name of the cell at a place, by its number
abbrev pub numbered_own : List NumberedCell → ℕ → ℕ → Option Value
numbered_own cells n i = option_and_then (λ c. lookup (nat_eq n) c.entries) (slice_get cells i)

-- the value under a name of the first cell with it, from a cell on upwards, by its number
abbrev pub numbered_along : List NumberedCell → ℕ → ℕ → Option Value
numbered_along cells i n = option_and_then (numbered_own cells n) (numbered_holder cells i n)

-- whether the cell at a place has a name that may have a number
abbrev pub numbered_has_at : List NumberedCell → ℕ → Option ℕ → Bool
numbered_has_at cells i None = false
numbered_has_at cells i (Some n) = option_map_or (numbered_has n) (slice_get cells i) false

-- whether a fixed part is that of one of a widget's visible cells
abbrev pub own_head : ℕ → Head → Bool
own_head w h = is_own w h.owner h.form

-- the place of a cell among its owner's visible cells, by its fixed part
abbrev pub own_place : Head → Option ℕ
own_place h = option_and_then (λ w. if is_visible_form h.form then Some h.number else None) (widget_of h.owner)

-- a cell after a write under a name by its number, where `e` is past the index that the name is
abbrev pub numbered_written : ℕ → Value → ℕ → NumberedCell → NumberedCell
numbered_written n v e c = record c {
  elements = noted e n c.elements;
  references = element_recounted e (refers_at n c.entries) (is_reference v) c.references;
  entries = insert_entry nat_eq c.entries n v;
}

-- a cell after writes under two names by their numbers
abbrev pub numbered_two : ℕ → Value → ℕ → Value → ℕ → NumberedCell → NumberedCell
numbered_two n v m u e c = record (numbered_written n v e c) {
  entries = insert_entry nat_eq (insert_entry nat_eq c.entries n v) m u;
}

-- a cell after a write under a name that it has, by its number
abbrev pub numbered_held : ℕ → Value → NumberedCell → NumberedCell
numbered_held n v c = record c { entries = insert_entry nat_eq c.entries n v }

-- a cell after a name was taken out by its number, where `e` is past the index that the name is
abbrev pub numbered_without : ℕ → ℕ → NumberedCell → NumberedCell
numbered_without n e c = record c {
  references = element_recounted e (refers_at n c.entries) false c.references;
  entries = remove_entry (nat_eq n) c.entries;
}

-- a cell after its elements from an index on were taken out
abbrev pub numbered_cut : List (List ℕ) → ℕ → NumberedCell → NumberedCell
numbered_cut names n c = record c {
  elements = noted_below n c.elements;
  references = references_in names (filter (λ e. is_below n (name_at names e.0)) c.entries);
  entries = filter (λ e. is_below n (name_at names e.0)) c.entries;
}

-- a later table has the older one's names under their numbers
pub record Grown (old new : List (List ℕ)) : Type 0 where
  pub longer : length old ≤ length new
  pub kept : (k : ℕ) → k < length old → slice_index_or new k [] ≡ slice_index_or old k []

-- the length of an Array, which stands under the number 0
abbrev pub numbered_length : List (ℕ × Value) → ℕ
numbered_length es = option_map_or (λ n. n) (option_and_then length_in (lookup (nat_eq 0) es)) 0

-- what a cell has under the name that is noted as an index
abbrev pub numbered_element : ℕ → NumberedCell → Option Value
numbered_element at c = option_and_then (λ n. lookup (nat_eq n) c.entries) (found_in c.elements at)

-- how a write under a name of an Array goes, by its length and the index that the name is
abbrev pub element_plan : ℕ → Option ℕ → Write
element_plan len None = write.Own 0
element_plan len (Some i) = if nat_lt i len then write.Own (i + 1) else write.Longer (i + 1)

-- how a write under the `length` of an Array goes, none where it is a bad length
abbrev pub length_plan : Value → Option Write
length_plan v = option_map (λ n. write.Length n) (length_in v)

-- how a write under a name of an Array goes
abbrev pub array_plan : List ℕ → Value → NumberedCell → Option Write
array_plan name v c =
    if bytes_eq name length_name then length_plan v else Some (element_plan (numbered_length c.entries) (index_of name))

-- how a write under a name goes, none where it is a bad length
abbrev pub plan_of : List ℕ → Value → NumberedCell → Option Write
plan_of name v c = if is_array c.head.form then array_plan name v c else Some (write.Own 0)

-- a cell after a write that goes as planned
abbrev pub by_plan : Write → List ℕ → Value → PlainCell → PlainCell
by_plan (write.Own e) name v c = written name v c
by_plan (write.Length n) name v c = cut n (written length_name v c)
by_plan (write.Longer n) name v c = written length_name (count_value n) (written name v c)

-- the number of a name in the table, none exactly where it is not there
abbrev pub IsNumberOf : List (List ℕ) → List ℕ → Option ℕ → Type 0
IsNumberOf names name number =
    MatchOption number (list_any (bytes_eq name) names ≡ false) (λ n. (slice_get names n ≡ Some name) × (n < length names))

-- whether a name is the `length` of an Array
abbrev pub is_length_in : NumberedCell → List ℕ → Bool
is_length_in c name = is_array c.head.form && bytes_eq name length_name

-- whether a name is listed: it is permitted, and not the `length` of an Array
abbrev pub is_listed : NumberedCell → List ℕ → Bool
is_listed c name = is_permitted name && not (is_length_in c name)

-- the fixed part of the RawNode of a page node
abbrev pub node_head : ℕ → Head
node_head n = record { owner = whose.Host; form = form.RawNode n; up = None; links = 0; number = 0 }

-- a cell as it is made
abbrev pub first_numbered : Head → NumberedCell
first_numbered h = record {
  head = h;
  elements = [];
  references = 0;
  entries = if is_array h.form then (0, count_value 0) ∷ [] else [];
}
