-- What the children of `body` are.
use Rattle.std.specs.Prelude.{◌≡◌, ◌≢◌, ℕ, ◌<◌, List, [], ◌∷◌, codes, length, Option, Some, None, option_to_list, slice_get}
use Rattle.std.specs.List.{flat_map}
use Rattle.code_units.specs.declared.owner.Owner.TheVariants as owner
use Rattle.plain_tree.specs.Trees.{ElementOf, End, Node, PlainTrees, unmarked}
use Rattle.page_nodes.specs.Entries.{at, body, tree}
use Rattle.page_tree.specs.declared.page.Page.{Page}
use Rattle.page_tree.specs.Pages.{nodes}
use Rattle.page_image.specs.Image.{root_of}
use Rattle.page_plan.specs.Pages as pages
use Rattle.page_plan.specs.Pages.{PagePiece, Place, Trees}
use Rattle.page_plan.specs.declared.SlotContent.{SlotContent}
use Rattle.page_plan.specs.declared.SlotContent.TheVariants as slot

-- what stands at a place under `body`: a tree of the host's own, the root of a widget, or just this node
pub data Lot : Type 0 where
  Own : PlainTrees → Lot
  Root : ℕ → Lot
  Spot : ℕ → Lot

-- A node of the host, other than `body`, with this tree.
pub record IsMarkup (p : Page) (n : ℕ) (own : PlainTrees) : Type 0 where
  pub is_in : n < length (nodes p)
  pub below : n ≢ body
  pub hosts : (at (nodes p) n).owner ≡ owner.Host
  pub shows : unmarked (tree (nodes p) n) ≡ own

-- a node is what is to stand there
abbrev pub IsLot : Page → Lot → ℕ → Type 0
IsLot p (Own own) n = IsMarkup p n own
IsLot p (Root w) n = (w < 32) × (root_of p w ≡ Some n)
IsLot p (Spot m) n = n ≡ m

-- nodes are what is to stand there, in order
abbrev pub AreLots : Page → List Lot → List ℕ → Type 0
AreLots p [] [] = Unit {0}
AreLots p (lot ∷ lots) (n ∷ ns) = IsLot p lot n × AreLots p lots ns
AreLots p _ _ = ⊥

-- These are the children of `body`, in order.
pub record IsLaidOut (p : Page) (lots : List Lot) : Type 0 where
  pub top : (at (nodes p) body).label ≡ ElementOf (codes "body") []
  pub laid : AreLots p lots (at (nodes p) body).children

-- ## Of a page

-- each of some trees
abbrev pub each_tree : PlainTrees → List Lot
each_tree End = []
each_tree (Node m l ks ts) = Own (Node m l ks End) ∷ each_tree ts

-- what stands in a slot of this name: the root of its widget, or where it was refused an empty `div`
abbrev pub lot_of : List ℕ → Option ℕ → Lot
lot_of name None = Own (pages.root_of name None)
lot_of name (Some w) = Root w

-- in slots of these names
abbrev pub lots_of : List (List ℕ) → List (Option ℕ) → List Lot
lots_of (name ∷ names) (home ∷ homes) = lot_of name home ∷ lots_of names homes
lots_of _ _ = []

-- what a piece is, where this stands in the slots
abbrev pub piece_lots : List Lot → PagePiece → List Lot
piece_lots slots (Trees own) = each_tree own
piece_lots slots (Place number) = option_to_list (slice_get slots number)

-- The page shows these pieces in order: slots have these names, and show the roots of these widgets.
abbrev pub IsLaid : Page → List (List ℕ) → List (Option ℕ) → List PagePiece → Type 0
IsLaid p names homes pieces = IsLaidOut p (flat_map (piece_lots (lots_of names homes)) pieces)

-- whose root a slot of widget w shows
abbrev pub home_of : ℕ → SlotContent → Option ℕ
home_of w (slot.Runs _ _ _) = Some w
home_of w slot.Refused = None
