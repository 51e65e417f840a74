-- What a widget has of the page. These words are opaque above this crate: there nothing sees a list of nodes.
use Rattle.std.specs.Prelude.{◌≡◌, ℕ, List, Option, Some, Bool}
use Rattle.std.specs.Option.{option_map_or}
use Rattle.code_units.specs.declared.owner.Owner.TheVariants as owner
use Rattle.plain_tree.specs.Trees.{Label, Trees}
use Rattle.tree_ops.specs.Trees.{is_number, relabelled}
use Rattle.page_nodes.specs.Entries.{at, body}
use Rattle.page_tree.specs.declared.page.Page.{Page}
use Rattle.page_tree.specs.Pages.{nodes, root}
use Rattle.widget_meaning.specs.Trees.{label_of}
use Rattle.page_image.specs.Own.{is_own, own_number, own_nodes, own_forest}

-- whether a node is a widget's
unfoldable pub owns : Page → ℕ → ℕ → Bool
owns p w n = is_own (nodes p) w n

-- the number of a node among the widget's, by birth
unfoldable pub number : Page → ℕ → ℕ → ℕ
number p w n = own_number (nodes p) w n

-- whether a node stands under the host's `body`
unfoldable pub is_shown : Page → ℕ → Bool
is_shown p n = is_number body (at (nodes p) n).parent

-- the widget's nodes by birth
unfoldable pub own : Page → ℕ → List ℕ
own p w = own_nodes (nodes p) w

-- its root
unfoldable pub root_of : Page → ℕ → Option ℕ
root_of p w = root p (owner.Widget w)

-- its trees with own numbers: the root's first, and then the detached ones by the age of their tops
unfoldable pub forest : Page → ℕ → Trees ℕ
forest p w = own_forest (nodes p) (root p (owner.Widget w)) w

-- what a node is, as the meaning reads it
abbrev pub label_at : Page → ℕ → ℕ → Option Label
label_at p w n = label_of (number p w n) (forest p w)

-- A widget that has a root, which is the first of its nodes.
pub record HasRoot (p : Page) (w : ℕ) : Type 0 where
  pub root : ℕ
  pub is : root_of p w ≡ Some root
  pub first : number p w root ≡ 0

-- trees with the label of a node changed, where it is there
abbrev pub relabel_in : (Label → Label) → Trees ℕ → ℕ → Trees ℕ
relabel_in change ts n = option_map_or (λ l. relabelled n (change l) ts) (label_of n ts) ts
