use Rattle.std.proofs.Common.{◌≡◌, ℕ, ◌<◌, false, length, take, nat_eq, slice_get, unwrap_or}
use Rattle.std.specs.List.{list_any}
use Rattle.code_units.specs.declared.owner.TheConstants.{WIDGETS}
use Rattle.turn_sched.proofs.round_robin.flags_of.Given as goal

abbrev pub invariant-ready : goal.invariant-ready
invariant-ready l = (length l.flags ≡ WIDGETS) × ((w : ℕ) → w < WIDGETS → unwrap_or (slice_get l.flags w) false ≡ list_any (nat_eq w) (take l.w-index l.ready))
