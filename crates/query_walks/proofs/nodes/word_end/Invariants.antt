use Rattle.std.proofs.Common.{◌≡◌, ◌+◌, drop}
use Rattle.std.specs.Prelude.{◌==◌}
use Rattle.std.specs.List.{position_or_len}
use Rattle.query_walks.proofs.nodes.word_end.Given as goal

-- no space stands before the place
abbrev pub invariant-units : goal.invariant-units
invariant-units l = position_or_len (λ unit. unit == 32) l.units ≡ l.i + position_or_len (λ unit. unit == 32) (drop l.i l.units)
