-- Nodes that are appended, and what copies of them cost.
use Rattle.std.specs.Prelude.{ℕ, ◌*◌, ◌-◌, List, [], ◌∷◌, codes, length}
use Rattle.std.specs.List.{sum_by}
use Rattle.plain_tree.specs.Trees.{Label, TextOf, ElementOf, size}
use Rattle.tree_ops.specs.Labels.{without_value}
use Rattle.widget_meaning.specs.BunchWrites.{appended, is_no_root, is_target}
use Rattle.widget_meaning.specs.Costs.{cost, give, pay}
use Rattle.widget_meaning.specs.OwnState.{State, new_bunch, with_new_cell}
use Rattle.widget_meaning.specs.PageForms.{root, tree_units, want_all}
use Rattle.widget_meaning.specs.Plan.{Plan, charge}
use Rattle.widget_meaning.specs.Trees.{subtrees}
use Rattle.widget_meaning.specs.Values.{Own, Value}

-- the units of a copy of a node by itself
abbrev pub label_units : Label → ℕ
label_units (TextOf t) = length t
label_units (ElementOf tag attrs) = sum_by (λ a. length a.1) (without_value (codes "id") attrs)

-- what `append` does once its charge is taken: each target but the last gets copies
abbrev pub append_paid : List ℕ → List ℕ → Value → State → Plan
append_paid ns ms b s =
    pay
    (cost
    ((length ns - 1) * tree_units (subtrees ms s.own.forest)) 0 0 ((length ns - 1) * size (subtrees ms s.own.forest))) s
    (λ t. give b (appended ns ms t))

-- `append` of these nodes
abbrev pub append_nodes : List ℕ → List ℕ → Value → State → Plan
append_nodes ns ms b s =
    want_all (is_target s ms) ns s
    (want_all is_no_root ms s (charge (length ns * size (subtrees ms s.own.forest)) s (append_paid ns ms b s)))

-- what `dom.append` does once its charge is taken
abbrev pub root_paid : List ℕ → State → Plan
root_paid ms s =
    pay (cost 0 1 2 0) s
    (λ t. give (Own (length t.own.heap)) (with_new_cell (appended (root ∷ []) ms t) (new_bunch (root ∷ []))))

-- `dom.append` of these nodes
abbrev pub root_plan : List ℕ → State → Plan
root_plan ms s =
    want_all (is_target s ms) (root ∷ []) s (charge (size (subtrees ms s.own.forest)) s (root_paid ms s))
