use Rattle.std.proofs.Common.{◌≡◌, drop}
use Rattle.markup_rules.specs.Words.{has_word}
use Rattle.markup_rules.proofs.words.has_word_in.Given as goal

abbrev pub invariant-places : goal.invariant-places
invariant-places l = has_word l.word l.units ≡ has_word l.word (drop l.at l.units)
