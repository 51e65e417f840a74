-- The content of a slot, as the meaning of widgets has it, and its scripts.
use Rattle.std.specs.Prelude.{◌≡◌, ℕ, List, [], ◌∷◌, ◌++◌, map, Option, Some, None, slice_get}
use Rattle.std.specs.Option.{option_map_or}
use Rattle.js_tree.specs.declared.tree.Tree.{Tree}
use Rattle.js_tree.specs.Plain.{Stmts, NoStmts}
use Rattle.js_tree.specs.Trees.{program_of}
use Rattle.plain_tree.specs.Plains.{placed}
use Rattle.tree_ops.specs.Trees.{numbered}
use Rattle.adsafe_rules.specs.declared.accepted.Accepted.{Accepted}
use Rattle.adsafe_rules.specs.Accepts.{tree_of}
use Rattle.widget_meaning.specs.Alone.{Content}
use Rattle.page_plan.specs.declared.SlotContent.{SlotContent}
use Rattle.page_plan.specs.declared.SlotContent.TheVariants as slot

-- the program of the library at a place
abbrev pub program_there : List Tree → ℕ → Stmts
program_there ts place = option_map_or program_of (slice_get ts place) NoStmts

-- the widget of a slot, over the trees of the libraries of its page; none where it is refused
abbrev pub content_in : List Tree → SlotContent → Option Content
content_in ts (slot.Runs body places script) = Some (record {
  root = numbered 0 (placed body);
  libraries = map (program_there ts) places.items;
  script = program_of (tree_of script);
})
content_in ts slot.Refused = None

-- the same over accepted libraries
abbrev pub program_at : List Accepted → ℕ → Stmts
program_at libs place = program_there (map tree_of libs) place

abbrev pub content_of : List Accepted → SlotContent → Option Content
content_of libs content = content_in (map tree_of libs) content

-- the scripts of a slot: those of the libraries that it names, each there, in their order, and then its last script; none where it is refused
abbrev pub HasScriptsIn : List Tree → SlotContent → List Tree → Type 0
HasScriptsIn ts (slot.Runs body places script) own = map Some own ≡ map (slice_get ts) places.items ++ Some (tree_of script) ∷ []
HasScriptsIn ts slot.Refused own = own ≡ []
