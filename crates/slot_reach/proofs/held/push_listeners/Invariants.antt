use Rattle.std.proofs.Common.{◌≡◌, ◌++◌, map, take}
use Rattle.slot_reach.specs.Reads.{ref_at}
use Rattle.slot_reach.proofs.held.push_listeners.Given as goal

-- the handlers before
abbrev pub invariant-each : goal.invariant-each
invariant-each l = l.out.items ≡ l.fn.out.items ++ map (λ h. ref_at l.names l.store.cells h.1) (take l.handler-index l.handlers)
