-- The entries of a page, their markup read and their slots with fuel.
use Rattle.std.specs.Prelude.{◌≡◌, ◌≤◌, ℕ, List, Option, Some, None, unwrap_or, string_bytes, sum_by}
use Rattle.markup_grammar.specs.Markup.{MarkupSpells}
use Rattle.plain_tree.specs.Trees.{Trees, size}
use Rattle.plain_tree.specs.Plains.{Places, placed_all}
use Rattle.json_shapes.specs.Each.{Each}
use Rattle.manifest_shape.specs.declared.slot.PageEntry.{PageEntry}
use Rattle.manifest_shape.specs.declared.slot.PageEntry.TheVariants as shaped
use Rattle.widget_form.specs.Rows.{IsHostMarkup}
use Rattle.manifest_reader.specs.declared.entry.Entry.{Entry}
use Rattle.manifest_reader.specs.declared.entry.Entry.TheVariants.{Html, Slot}

-- an entry as plain data: the trees of its markup, or the name, the file and the fuel of a slot
pub data Part : Type 0 where
  Markup : Trees Places → Part
  Widget : List ℕ → List ℕ → ℕ → Part

abbrev pub part_of : Entry → Part
part_of (Html content) = Markup (placed_all content.items)
part_of (Slot name file fuel) = Widget name (string_bytes file) fuel

-- the nodes of its markup
abbrev pub nodes_of : Part → ℕ
nodes_of (Markup trees) = size trees
nodes_of (Widget name file fuel) = 0

-- the most nodes that the markup of a page may have
abbrev pub node_limit : ℕ
node_limit = 262144

-- a text is markup that may stand in a page, and has these trees
pub record IsPageMarkup (text : List ℕ) (trees : Trees Places) : Type 0 where
  pub spells : MarkupSpells text trees
  pub allowed : IsHostMarkup trees

-- the fuel of a slot where the manifest gives none
abbrev pub usual_fuel : ℕ
usual_fuel = 100000

-- the fuel of a slot: its own, else that which the manifest gives, else 100,000
abbrev pub fuel_of : Option ℕ → Option ℕ → ℕ
fuel_of None given = unwrap_or given usual_fuel
fuel_of (Some own) given = own

-- an entry of a shape, its markup read and its fuel filled in
abbrev pub IsFilled : Option ℕ → PageEntry → Part → Type 0
IsFilled given (shaped.Html text) (Markup trees) = IsPageMarkup (string_bytes text) trees
IsFilled given (shaped.Html text) (Widget name file fuel) = ⊥
IsFilled given (shaped.Slot slot) (Markup trees) = ⊥
IsFilled given (shaped.Slot slot) (Widget name file fuel) = (name ≡ slot.name) × (file ≡ string_bytes slot.file) × (fuel ≡ fuel_of slot.fuel given)

-- so are these entries, in a manifest that gives this fuel, and they have few enough nodes together
pub record AreFilled (given : Option ℕ) (entries : List PageEntry) (parts : List Part) : Type 0 where
  pub each : Each (IsFilled given) entries parts
  pub nodes : sum_by nodes_of parts ≤ node_limit
