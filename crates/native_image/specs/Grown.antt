-- New nodes of a widget.
use Rattle.std.specs.Prelude.{◌≡◌, ℕ, ◌+◌, ◌<◌, ◌≤◌, ◌⊎◌, true, length}
use Rattle.plain_tree.specs.Trees.{Trees, beside, size}
use Rattle.tree_ops.specs.Trees.{copied, numbered, subtree}
use Rattle.page_tree.specs.declared.page.Page.{Page}
use Rattle.page_image.specs.Image.{forest, number, own, owns}
use Rattle.page_image.specs.Stays.{GrowsBy, OthersStay, HostStays}

-- A tree of so many nodes stands behind all others of a widget: its top is this node, and all new nodes of the page are its.
pub record IsGrown (w : ℕ) (old new : Page) (id many : ℕ) (tree : Trees ℕ) : Type 0 where
  pub trees : forest new w ≡ beside (forest old w) tree
  pub first : number new w id ≡ length (own old w)
  pub mine : owns new w id ≡ true
  pub grows : GrowsBy old new w many
  pub others : OthersStay old new w
  pub host : HostStays old new
  pub fresh : (v n : ℕ) → owns new v n ≡ true → (owns old v n ≡ true) ⊎ ((id ≤ n) × (n < id + many))

-- A copy of a widget's node, with all below it, stands there.
abbrev pub IsCopied : ℕ → Page → Page → ℕ → ℕ → Type 0
IsCopied w old new id node = let tree = subtree (number old w node) (forest old w) in IsGrown w old new id (size tree) (numbered (length (own old w)) (copied tree))
