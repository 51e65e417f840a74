-- What a filter sees of a node of a page.
use Rattle.std.specs.Prelude.{ℕ, List, Bool, Option}
use Rattle.tree_ops.specs.Labels.{tag_of, attribute_of}
use Rattle.page_tree.specs.Entries.{Entry, at}
use Rattle.query_grammar.specs.declared.query.Filter.{Filter}
use Rattle.query_grammar.specs.Filters.{Look}
use Rattle.query_grammar.specs.Finds as query

-- a node as queries see it
abbrev pub look : List Entry → ℕ → Look
look k n = record { tag = tag_of (at k n).label; attribute = λ name. attribute_of name (at k n).label }

-- no text
abbrev pub is_element : List Entry → ℕ → Bool
is_element k n = query.is_element (look k) n

-- whether a filter keeps a node, where this one has the focus
abbrev pub passes : List Entry → Option ℕ → Filter → ℕ → Bool
passes k focus f n = query.passes (look k) focus f n
