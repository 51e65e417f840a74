-- What the code keeps of an element.
use Rattle.std.specs.Prelude.{◌≡◌, ℕ, List, [], ◌∷◌, slice_get, Some}
use Rattle.plain_tree.specs.declared.plain.Plain.{Plain}
use Rattle.plain_tree.specs.Trees.{Trees, End, Node, beside}
use Rattle.plain_tree.specs.Plains.{Places, placed, placed_all, text_node, element_node}
use Rattle.markup_rules.specs.declared.part.Part.{Part}
use Rattle.markup_rules.specs.declared.items.Seen.{Seen}
use Rattle.markup_rules.specs.Elements.{Element, before_scripts, body_of, Item, item_at, is_div_item, is_script_item, is_own_script}

abbrev pub element_of : Part → Element
element_of p = record { at = p.at; tag = p.tag.now; attrs = p.attrs.now; kids = placed_all p.children.now }

-- the tree is a text
pub record IsText (tree : Trees Places) : Type 0 where
  pub units : List ℕ
  pub at : ℕ
  pub same : tree ≡ text_node units at

-- the tree is the element
abbrev pub IsElement : Part → Trees Places → Type 0
IsElement p tree = tree ≡ element_node p.tag.now p.attrs.now (placed_all p.children.now) p.at

-- the trees have one item, which is seen so
pub record IsSeen (seen : Seen) (list : List Item) : Type 0 where
  pub item : Item
  pub same : list ≡ item ∷ []
  pub at : seen.at ≡ item_at item
  pub is_div : seen.is_div ≡ is_div_item item
  pub is_script : seen.is_script ≡ is_script_item item
  pub is_own_script : seen.is_own_script ≡ is_own_script item

-- the tree stands before the first script, if what is before it does
abbrev pub StaysInBody : Trees Places → Type 0
StaysInBody t = (ts : Trees Places) → before_scripts (beside t ts) ≡ beside t (before_scripts ts)

-- nothing from this tree on stands before the first script
abbrev pub EndsBody : Trees Places → Type 0
EndsBody t = (ts : Trees Places) → before_scripts (beside t ts) ≡ End

-- the root stands at this place among the trees
pub record IsRootPlace (content : List Plain) (i : ℕ) : Type 0 where
  pub plain : Plain
  pub found : slice_get content i ≡ Some plain
  pub part : Part
  pub element : IsElement part (placed plain)
  pub body : body_of (placed_all content) ≡ element_node part.tag.now part.attrs.now (before_scripts (placed_all part.children.now)) part.at

-- the same tree with the children that stand before its first script
abbrev pub with_body : Trees Places → Trees Places
with_body End = End
with_body (Node m l ks ts) = Node m l (before_scripts ks) ts
