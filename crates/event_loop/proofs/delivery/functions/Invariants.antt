use Rattle.std.proofs.Common.{◌≡◌, ◌++◌, drop, map}
use Rattle.std.specs.List.{filter}
use Rattle.std.specs.Str.{bytes_eq}
use Rattle.event_loop.proofs.delivery.functions.Given as goal

abbrev pub invariant-each : goal.invariant-each
invariant-each l = l.found.items ++ map (λ h. h.1) (filter (λ h. bytes_eq (h.0) l.kind) (drop l.handler-index l.handlers)) ≡ map (λ h. h.1) (filter (λ h. bytes_eq (h.0) l.kind) l.handlers)
