use Rattle.std.proofs.Common.{◌≡◌, map, take}
use Rattle.bunch_attributes.proofs.Pairs.{swapped}
use Rattle.bunch_attributes.proofs.styles.replaced.Given as goal

-- those before, with the other value
abbrev pub invariant-each : goal.invariant-each
invariant-each l = l.changed.items ≡ map (swapped l.name l.value) (take l.pair-index l.pairs)
