use Rattle.std.proofs.Common.{◌≡◌, not, length}
use Rattle.std.specs.List.{filter}
use Rattle.query_walks.proofs.Found.{Tell, among}
use Rattle.query_walks.proofs.failed.found_words.Given as goal

-- the marks tell which words stand before this place
abbrev pub invariant-words : goal.invariant-words
invariant-words l = record {
  left : l.left ≡ length (filter not l.found.items);
  told : Tell (among l.rest) (among l.units) l.wanted.keys l.found.items;
}

abbrev pub decreases-words : goal.decreases-words
decreases-words l = length l.rest
