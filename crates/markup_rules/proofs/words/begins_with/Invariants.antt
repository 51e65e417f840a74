use Rattle.std.proofs.Common.{◌≡◌, drop}
use Rattle.markup_rules.specs.Words.{begins_with}
use Rattle.markup_rules.proofs.words.begins_with.Given as goal

abbrev pub invariant-word : goal.invariant-word
invariant-word l = begins_with l.word l.units ≡ begins_with (drop l.i l.word) (drop l.i l.units)
