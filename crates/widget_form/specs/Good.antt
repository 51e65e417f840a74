-- What a widget's file is that breaks no rule, said without breaches.
use Rattle.std.specs.Prelude.{◌≡◌, ℕ, ◌+◌, ◌≤◌, ◌⊎◌, true, false, List, [], ◌∷◌, ◌++◌, codes, Some}
use Rattle.first_breach.specs.Lists.{In}
use Rattle.plain_tree.specs.declared.plain.Attr.{Attr}
use Rattle.plain_tree.specs.Trees.{Trees, size}
use Rattle.plain_tree.specs.Plains.{Places}
use Rattle.plain_tree.specs.Tags.{is_listed_tag}
use Rattle.plain_tree.specs.Words.{is_plain_words}
use Rattle.markup_rules.specs.Words.{is_wordy, is_address, is_own_id, has_word}
use Rattle.markup_rules.specs.Elements.{Element, elements, scripts, is_sourced, first_named, before_scripts, Item, AnElement, items}
use Rattle.markup_rules.specs.Rows.{is_allowed, node_limit}

-- the last of the items is a script without `src`
pub record EndsInScript (list : List Item) : Type 0 where
  pub before : List Item
  pub script : Element
  pub same : list ≡ before ++ AnElement script ∷ []
  pub tag : script.tag ≡ codes "script"
  pub own : is_sourced script ≡ false

-- the root: a `div` whose `id` is the slot's name, which ends in a script of its own and has few enough nodes before its scripts
pub record IsRoot (name : List ℕ) (root : Element) : Type 0 where
  pub tag : root.tag ≡ codes "div"
  pub id : Attr
  pub first : first_named (codes "id") root.attrs ≡ Some id
  pub named : id.value ≡ name
  pub ends : EndsInScript (items root.kids)
  pub few : size (before_scripts root.kids) + 1 ≤ node_limit

-- an element of a listed tag with allowed attributes; a script takes a library of the slot
pub record IsListedElement (libs : List (List ℕ)) (e : Element) : Type 0 where
  pub tag : (e.tag ≡ codes "script") ⊎ (is_listed_tag e.tag ≡ true)
  pub of_script : e.tag ≡ codes "script" → (a : Attr) → In a e.attrs → is_allowed true a.name ≡ true
  pub of_other : is_listed_tag e.tag ≡ true → (a : Attr) → In a e.attrs → is_allowed false a.name ≡ true
  pub source : e.tag ≡ codes "script" → (a : Attr) → In a e.attrs → a.name ≡ codes "src" → In a.value libs

-- an attribute that says nothing unsafe: plain words where they are asked for, no `javascript:` in an address, and a `for` of the slot's own
pub record IsSafe (name : List ℕ) (a : Attr) : Type 0 where
  pub words : is_wordy a.name ≡ true → is_plain_words a.value ≡ true
  pub address : is_address a.name ≡ true → has_word (codes "javascript:") a.value ≡ false
  pub label : a.name ≡ codes "for" → is_own_id name a.value ≡ true

-- an element below the root: no script stands in it, and its `id` begins with the slot's name
pub record IsInner (name : List ℕ) (e : Element) : Type 0 where
  pub scriptless : scripts e ≡ []
  pub own : (a : Attr) → In a e.attrs → a.name ≡ codes "id" → is_own_id name a.value ≡ true

-- the file is one root, blank texts aside
pub record IsWidgetFile (name : List ℕ) (libs : List (List ℕ)) (file : Trees Places) : Type 0 where
  pub root : Element
  pub alone : items file ≡ AnElement root ∷ []
  pub is_root : IsRoot name root
  pub listed : (e : Element) → In e (root ∷ elements root.kids) → IsListedElement libs e
  pub safe : (e : Element) (a : Attr) → In e (root ∷ elements root.kids) → In a e.attrs → IsSafe name a
  pub inner : (e : Element) → In e (elements root.kids) → IsInner name e
