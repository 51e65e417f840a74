-- What is written into the list of nodes: one field of one node.
use Rattle.std.specs.Prelude.{ℕ, List, [], Option, None, slice_set}
use Rattle.code_units.specs.declared.owner.Owner.{Owner}
use Rattle.page_nodes.specs.declared.rows.Row.{Row}
use Rattle.page_nodes.specs.Entries.{Entry, at, entries}
use Rattle.plain_tree.specs.Trees.{Label}

-- a node that is linked to none
abbrev pub new_entry : Owner → Label → Entry
new_entry o l = record { owner = o; parent = None; children = []; label = l }

-- other children
abbrev pub with_children : List Entry → ℕ → List ℕ → List Entry
with_children k n cs = slice_set k n (record (at k n) { children = cs })

-- another parent
abbrev pub with_parent : List Entry → ℕ → Option ℕ → List Entry
with_parent k n p = slice_set k n (record (at k n) { parent = p })

-- another label
abbrev pub with_label : List Entry → ℕ → Label → List Entry
with_label k n l = slice_set k n (record (at k n) { label = l })

-- the children of a node in the rows
abbrev pub children_in : List Row → ℕ → List ℕ
children_in rows n = (at (entries rows) n).children

-- what a node in the rows is
abbrev pub label_in : List Row → ℕ → Label
label_in rows n = (at (entries rows) n).label
