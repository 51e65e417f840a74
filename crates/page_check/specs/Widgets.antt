-- The widget of a slot, as the meaning of widgets has it.
use Rattle.std.specs.Prelude.{◌≡◌, ℕ, List}
use Rattle.js_tree.specs.Plain.{Stmts}
use Rattle.plain_tree.specs.Trees.{Trees}
use Rattle.plain_tree.specs.Plains.{Places}
use Rattle.tree_ops.specs.Trees.{numbered}
use Rattle.markup_rules.specs.Elements.{body_of}
use Rattle.slot_check.specs.Sources.{Slot}
use Rattle.slot_check.specs.Slot.{IsWidget}
use Rattle.widget_meaning.specs.Alone.{Content}

-- the subtree of a file with its programs
abbrev pub widget : Trees Places → List Stmts → Stmts → Content
widget file programs script = record { root = numbered 0 (body_of file); libraries = programs; script = script }

-- the slot breaks no rule, and this is its widget
pub record HasWidget (slot : Slot) (content : Content) : Type 0 where
  pub file : Trees Places
  pub places : List ℕ
  pub programs : List Stmts
  pub script : Stmts
  pub is : IsWidget slot file places programs script
  pub same : content ≡ widget file programs script
