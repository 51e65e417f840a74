use Rattle.std.proofs.Common.{◌≡◌, ◌++◌, take}
use Rattle.slot_reach.specs.Reads.{scope_refs}
use Rattle.slot_reach.proofs.held.push_scopes.Given as goal

-- the cells before
abbrev pub invariant-cells : goal.invariant-cells
invariant-cells l = l.out.items ≡ l.fn.out.items ++ scope_refs l.names l.store.cells l.w (take l.cell l.store.cells)
