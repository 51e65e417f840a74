-- What stays where a page changes.
use Rattle.std.specs.Prelude.{◌≡◌, ◌≢◌, ℕ, ◌<◌, ◌≤◌, List, ◌++◌, length, Some, true, false}
use Rattle.code_units.specs.declared.owner.Owner.TheVariants as owner
use Rattle.page_nodes.specs.Entries.{at, body, tree}
use Rattle.page_tree.specs.declared.page.Page.{Page}
use Rattle.page_tree.specs.Pages.{nodes}
use Rattle.query_grammar.specs.Finds.{has_number}
use Rattle.page_image.specs.Image.{owns, number, own, root_of, forest}

-- No node comes and none goes: all have their owners and own numbers, and the roots stay.
pub record KeepsNodes (old new : Page) : Type 0 where
  pub owners : (v n : ℕ) → owns new v n ≡ owns old v n
  pub numbers : (v n : ℕ) → number new v n ≡ number old v n
  pub nodes : (v : ℕ) → own new v ≡ own old v
  pub roots : (v : ℕ) → v < 32 → root_of new v ≡ root_of old v

-- No node comes and none goes, and a node becomes a widget's root. The roots of the others stay.
pub record GetsRoot (old new : Page) (w n : ℕ) : Type 0 where
  pub owners : (v x : ℕ) → owns new v x ≡ owns old v x
  pub numbers : (v x : ℕ) → number new v x ≡ number old v x
  pub nodes : (v : ℕ) → own new v ≡ own old v
  pub root : root_of new w ≡ Some n
  pub others : (v : ℕ) → v < 32 → v ≢ w → root_of new v ≡ root_of old v

-- A widget gets nodes that were nobody's: they stand behind its others. All older nodes keep their owners and own numbers, and the roots stay.
pub record Grows (old new : Page) (w : ℕ) (news : List ℕ) : Type 0 where
  pub owners : (v n : ℕ) → owns old v n ≡ true → owns new v n ≡ true
  pub numbers : (v n : ℕ) → owns old v n ≡ true → number new v n ≡ number old v n
  pub nodes : own new w ≡ own old w ++ news
  pub others : (v : ℕ) → v ≢ w → own new v ≡ own old v
  pub fresh : (v n : ℕ) → has_number news n ≡ true → owns old v n ≡ false
  pub roots : (v : ℕ) → v < 32 → root_of new v ≡ root_of old v

-- the trees of all other widgets stay
abbrev pub OthersStay : Page → Page → ℕ → Type 0
OthersStay old new w = (v : ℕ) → v < 32 → v ≢ w → forest new v ≡ forest old v

-- so many nodes come
abbrev pub GrowsBy : Page → Page → ℕ → ℕ → Type 0
GrowsBy old new w n = (news : List ℕ) × (length news ≡ n) × Grows old new w news

-- What the host has of a page stays: `body` as it is, with the order of its children, and the trees of its other nodes; a node that comes is none of its.
pub record HostStays (old new : Page) : Type 0 where
  pub made : length (nodes old) ≤ length (nodes new)
  pub owners : (n : ℕ) → n < length (nodes old) → (at (nodes new) n).owner ≡ (at (nodes old) n).owner
  pub top : at (nodes new) body ≡ at (nodes old) body
  pub trees : (n : ℕ) → n < length (nodes old) → n ≢ body → (at (nodes old) n).owner ≡ owner.Host → tree (nodes new) n ≡ tree (nodes old) n
  pub none_comes : (n : ℕ) → n < length (nodes new) → (at (nodes new) n).owner ≡ owner.Host → n < length (nodes old)
