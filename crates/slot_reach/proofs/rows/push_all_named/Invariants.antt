use Rattle.std.proofs.Common.{◌≡◌, ◌++◌, take}
use Rattle.std.specs.List.{flat_map}
use Rattle.slot_reach.specs.Reads.{named_refs}
use Rattle.slot_reach.proofs.rows.push_all_named.Given as goal

-- the names before
abbrev pub invariant-keys : goal.invariant-keys
invariant-keys l = l.out.items ≡ l.fn.out.items ++ flat_map (named_refs l.names l.store.cells l.cell) (take l.name-index l.keys)
