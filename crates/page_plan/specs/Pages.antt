-- What a page shows: its own markup, and the root of each slot.
use Rattle.std.specs.Prelude.{ℕ, List, [], ◌∷◌, codes, Option, Some, None, slice_index_or}
use Rattle.plain_tree.specs.Trees.{PlainTrees, End, Node, ElementOf, beside, unmarked}
use Rattle.plain_tree.specs.Plains.{unplaced_all}
use Rattle.widget_meaning.specs.Trees.{child_at}
use Rattle.widget_meaning.specs.OwnState.{OwnState}
use Rattle.page_plan.specs.declared.Piece.{Piece}
use Rattle.page_plan.specs.declared.Piece.TheVariants as piece

-- a piece of a page as plain data: trees, or the number of a slot
pub data PagePiece : Type 0 where
  Trees : PlainTrees → PagePiece
  Place : ℕ → PagePiece

abbrev pub piece_of : Piece → PagePiece
piece_of (piece.Html content) = Trees (unplaced_all content.items)
piece_of (piece.Slot number) = Place number

-- the root that a slot of this name shows: that of its widget, or where it has none an empty `div` with its id
abbrev pub root_of : List ℕ → Option OwnState → PlainTrees
root_of name None = Node tt (ElementOf (codes "div") ((codes "id", name) ∷ [])) End End
root_of name (Some own) = unmarked (child_at 0 own.forest)

-- the roots that slots of these names show
abbrev pub roots : List (List ℕ) → List (Option OwnState) → List PlainTrees
roots (name ∷ names) (own ∷ owns) = root_of name own ∷ roots names owns
roots _ _ = []

-- the pieces in order, with these roots of the slots
abbrev pub shown : List PagePiece → List PlainTrees → PlainTrees
shown [] trees = End
shown (Trees own ∷ pieces) trees = beside own (shown pieces trees)
shown (Place number ∷ pieces) trees = beside (slice_index_or trees number End) (shown pieces trees)

-- the page: a `body` with these pieces as its children
abbrev pub page_of : List PagePiece → List PlainTrees → PlainTrees
page_of pieces trees = Node tt (ElementOf (codes "body") []) (shown pieces trees) End
