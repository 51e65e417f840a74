-- The markup among the entries of a page, and how far it may be there.
use Rattle.std.specs.Prelude.{◌≡◌, ◌≤◌, ◌<◌, ⊤, ℕ, List, length, take, codes, Option, Some, None, string_bytes, sum_by}
use Rattle.serde_json.specs.Data.{Data}
use Rattle.plain_tree.specs.Trees.{Trees, End, size}
use Rattle.plain_tree.specs.Plains.{Places}
use Rattle.json_shapes.specs.Each.{Each}
use Rattle.json_shapes.specs.Look.{text_at}
use Rattle.json_shapes.specs.declared.fault.ShapeFault.{ShapeFault}
use Rattle.json_shapes.specs.declared.fault.ShapeFault.TheVariants.{NotJson, BadShape, TooMany, Memory}
use Rattle.manifest_shape.specs.declared.slot.PageEntry.{PageEntry}
use Rattle.manifest_shape.specs.declared.slot.PageEntry.TheVariants.{Html, Slot}
use Rattle.manifest_reader.specs.Page.{IsPageMarkup, node_limit}

-- the text of an entry that is markup
abbrev pub entry_text : PageEntry → Option (List ℕ)
entry_text (Html text) = Some (string_bytes text)
entry_text (Slot slot) = None

abbrev pub html_text : Data → Option (List ℕ)
html_text d = text_at (codes "html") d

-- the trees of a text that may stand in a page; where there is no text, there are none
abbrev pub IsHtmlOf : Option (List ℕ) → Trees Places → Type 0
IsHtmlOf None trees = trees ≡ End
IsHtmlOf (Some text) trees = IsPageMarkup text trees

-- each text may stand in a page, and they have few enough nodes together
pub record AreHtml (texts : List (Option (List ℕ))) : Type 0 where
  pub trees : List (Trees Places)
  pub each : Each IsHtmlOf texts trees
  pub nodes : sum_by size trees ≤ node_limit

-- so do the first n of them, and no more
pub record IsLongestHtml (texts : List (Option (List ℕ))) (n : ℕ) : Type 0 where
  pub within : n ≤ length texts
  pub good : AreHtml (take n texts)
  pub longest : (m : ℕ) → m ≤ length texts → AreHtml (take m texts) → m ≤ n

-- why texts may not all stand in a page
abbrev pub IsHtmlFault : List (Option (List ℕ)) → ShapeFault → Type 0
IsHtmlFault texts NotJson = ⊥
IsHtmlFault texts (BadShape item) = (item < length texts) × IsLongestHtml texts item
IsHtmlFault texts (TooMany items) = ⊥
IsHtmlFault texts Memory = ⊤
