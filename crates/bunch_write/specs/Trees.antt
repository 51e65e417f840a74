-- Changes of trees.
use Rattle.std.specs.Prelude.{ℕ, Bool, List, Some, ◌&&◌, not}
use Rattle.std.specs.List.{fold}
use Rattle.plain_tree.specs.Trees.{Trees}
use Rattle.query_grammar.specs.Finds.{has_number}
use Rattle.widget_meaning.specs.BunchWrites.{alter, is_target}
use Rattle.widget_meaning.specs.Costs.{or_throw, want}
use Rattle.widget_meaning.specs.OwnState.{State, with_forest}
use Rattle.widget_meaning.specs.Plan.{Plan}
use Rattle.widget_meaning.specs.Trees.{children, detached, moved, parent, tops}
use Rattle.widget_meaning.specs.Values.{E10, Value}
use Rattle.page_image.specs.Targets.{takes}

-- trees in which all children of a node are trees of their own
abbrev pub emptied_in : Trees ℕ → ℕ → Trees ℕ
emptied_in ts n = fold detached ts (tops (children n ts))

-- whether nodes may come below a node in the place of another, which is none of them
abbrev pub may_take : Trees ℕ → List ℕ → ℕ → ℕ → Bool
may_take ts ms n p = not (has_number ms n) && takes ts ms p

-- nodes come in the place of one, which is left detached
abbrev pub replace_plan : ℕ → List ℕ → Value → State → Plan
replace_plan n ms b s =
    or_throw E10 (parent n s.own.forest) s (λ p. want E10 (not (has_number ms n) && is_target s ms p) s
    (alter 1 b s (λ t. with_forest t (detached (fold (moved p (Some n)) t.own.forest ms) n))))
