use Rattle.std.proofs.Common.{◌≡◌, ℕ, ◌||◌, drop}
use Rattle.std.specs.List.{list_any}
use Rattle.page_tree.specs.Pages.{nodes}
use Rattle.tree_ops.specs.Trees.{is_number}
use Rattle.query_grammar.specs.Finds.{has_number}
use Rattle.page_tree.specs.Documents.{parent_within}
use Rattle.query_walks.proofs.hunt.parents_of.Given as goal

-- the parents of the starts before this one, and of those that are still to come
abbrev pub invariant-each : goal.invariant-each
invariant-each l = (n : ℕ) → (has_number l.parents n || list_any (λ s. is_number n (parent_within (nodes l.page) l.root s)) (drop l.start-index l.starts)) ≡ list_any (λ s. is_number n (parent_within (nodes l.page) l.root s)) l.starts
