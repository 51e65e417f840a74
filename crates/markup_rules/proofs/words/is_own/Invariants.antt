use Rattle.std.proofs.Common.{◌≡◌, drop}
use Rattle.markup_rules.specs.Words.{is_own_id}
use Rattle.markup_rules.proofs.words.is_own.Given as goal

abbrev pub invariant-name : goal.invariant-name
invariant-name l = is_own_id l.name l.units ≡ is_own_id (drop l.i l.name) (drop l.i l.units)
