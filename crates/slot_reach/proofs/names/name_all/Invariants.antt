use Rattle.std.proofs.Common.{◌≡◌}
use Rattle.slot_reach.specs.Lasts.{names_before}
use Rattle.slot_reach.proofs.names.name_all.Given as goal

-- the names before
abbrev pub invariant-lives : goal.invariant-lives
invariant-lives l = l.names.items ≡ names_before l.slots l.v
