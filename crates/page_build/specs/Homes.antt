-- Widgets on a page that is being made.
use Rattle.std.specs.Prelude.{◌≡◌, ℕ, ◌<◌, [], None, length}
use Rattle.plain_tree.specs.Plains.{unplaced}
use Rattle.plain_tree.specs.Trees.{End, Label, Node, PlainTrees, size}
use Rattle.tree_ops.specs.Trees.{numbered}
use Rattle.store_cells.specs.Cells.{Cells}
use Rattle.page_tree.specs.declared.page.Page.{Page}
use Rattle.page_tree.specs.Pages.{nodes}
use Rattle.page_image.specs.Image.{HasRoot, forest, own, root_of}
use Rattle.native_image.specs.Sound.{HasRaw}
use Rattle.page_plan.specs.declared.SlotContent.{SlotContent}
use Rattle.page_plan.specs.declared.SlotContent.TheVariants as slot

-- A widget has nothing of the page.
pub record IsAway (p : Page) (w : ℕ) : Type 0 where
  pub free : root_of p w ≡ None
  pub nodes : own p w ≡ []
  pub trees : forest p w ≡ End

-- A widget has its root alone, with what is below it: this tree, numbered from 0.
pub record IsHome (p : Page) (w : ℕ) (tree : PlainTrees) : Type 0 where
  pub home : HasRoot p w
  pub trees : forest p w ≡ numbered 0 tree
  pub nodes : length (own p w) ≡ size tree

-- one tree, and nothing beside it
abbrev pub IsOneTree : PlainTrees → Type 0
IsOneTree tree = (l : Label) × (ks : PlainTrees) × (tree ≡ Node tt l ks End)

-- each node of the page has its cell
abbrev pub HaveRaws : Cells → Page → Type 0
HaveRaws s p = (n : ℕ) → n < length (nodes p) → HasRaw s.cells n

-- what stands in a slot is on the page: a widget's root, and of a refused one nothing
abbrev pub IsPlaced : Page → ℕ → SlotContent → Type 0
IsPlaced p w (slot.Runs body libs script) = IsHome p w (unplaced body)
IsPlaced p w slot.Refused = IsAway p w
