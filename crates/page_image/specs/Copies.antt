-- Copies of several nodes of a widget.
use Rattle.std.specs.Prelude.{◌≡◌, ℕ, List, length, map, take, true}
use Rattle.plain_tree.specs.Trees.{Trees, beside, size}
use Rattle.tree_ops.specs.Trees.{tops, numbered, copied}
use Rattle.page_tree.specs.declared.page.Page.{Page}
use Rattle.query_grammar.specs.Finds.{has_number}
use Rattle.widget_meaning.specs.Trees.{subtrees}
use Rattle.page_image.specs.Image.{owns, number, own, forest}
use Rattle.page_image.specs.Stays.{GrowsBy, OthersStay}

-- the trees of nodes of a widget
abbrev pub trees_at : Page → ℕ → List ℕ → Trees ℕ
trees_at p w ns = subtrees (map (number p w) ns) (forest p w)

-- their copies, with the next numbers
abbrev pub copies_of : Page → ℕ → List ℕ → Trees ℕ
copies_of p w ns = numbered (length (own p w)) (copied (trees_at p w ns))

-- Copies of nodes stand behind all other trees of a widget, and these are their tops.
pub record AreCopied (old new : Page) (w : ℕ) (ns ids : List ℕ) : Type 0 where
  pub trees : forest new w ≡ beside (forest old w) (copies_of old w ns)
  pub heads : map (number new w) ids ≡ tops (copies_of old w ns)
  pub owned : (n : ℕ) → has_number ids n ≡ true → owns new w n ≡ true
  pub grown : GrowsBy old new w (size (trees_at old w ns))
  pub others : OthersStay old new w

-- Copies of the first so many nodes stand behind all other trees of a widget.
pub record SomeCopied (old new : Page) (w : ℕ) (ns : List ℕ) : Type 0 where
  pub many : ℕ
  pub trees : forest new w ≡ beside (forest old w) (copies_of old w (take many ns))
  pub grown : GrowsBy old new w (size (trees_at old w (take many ns)))
