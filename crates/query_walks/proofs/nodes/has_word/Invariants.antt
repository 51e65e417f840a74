use Rattle.std.proofs.Common.{◌≡◌, length}
use Rattle.std.specs.List.{list_any}
use Rattle.std.specs.Str.{bytes_eq}
use Rattle.query_grammar.specs.Filters.{words}
use Rattle.query_walks.proofs.nodes.has_word.Given as goal

-- the words that are left decide
abbrev pub invariant-words : goal.invariant-words
invariant-words l = list_any (bytes_eq l.word) (words l.units) ≡ list_any (bytes_eq l.word) (words l.rest)

abbrev pub decreases-words : goal.decreases-words
decreases-words l = length l.rest
