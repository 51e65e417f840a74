-- Which filter of a step a node fails first.
use Rattle.std.specs.Prelude.{ℕ, List, Bool, true, false, not, Option}
use Rattle.std.specs.List.{position_or_len}
use Rattle.page_tree.specs.Entries.{Entry}
use Rattle.query_grammar.specs.declared.query.StepFilter.{StepFilter}
use Rattle.query_grammar.specs.declared.query.StepFilter.TheVariants as kind
use Rattle.query_walks.specs.Nodes.{passes}

-- a filter on the list of nodes
abbrev pub is_on_list : StepFilter → Bool
is_on_list (kind.Node f) = false
is_on_list (kind.List f) = true

-- whether a node fails a filter; one on lists it does not
abbrev pub fails : List Entry → Option ℕ → ℕ → StepFilter → Bool
fails k focus n (kind.Node f) = not (passes k focus f n)
fails k focus n (kind.List f) = false

-- the place of the first filter that a node fails, or their number
abbrev pub failed_at : List Entry → Option ℕ → List StepFilter → ℕ → ℕ
failed_at k focus fs n = position_or_len (fails k focus n) fs
