use Rattle.std.proofs.Common.{rules, ◌≡◌, ◌+◌, ◌≤◌, ◌<◌, length, refl, subst}
use Rattle.host_io.specs.Memory.{SinkState, takes_of}
use Rattle.host_io.proofs.Listed.{takes_less}
use Rattle.host_io.proofs.mem_sink.MemSinkSink.write.Goals as goal

pub returns-clause-room : goal.returns-clause-room
returns-clause-room c =
    let len = length c.args.bytes.now in
    let n = c.min-count.result in
    let old : SinkState = record { held = c.self.inside.held.items; room = c.self.inside.room; per_call = c.self.inside.per_call; fail = c.self.inside.fail.items; calls = c.self.inside.calls; faults = c.self.inside.faults } in
    let new = record old { held = c.extend_from_slice.new.self.items; calls = c.count_call.new.calls } in
    let P : SinkState → Type 0 = λ s. len ≤ takes_of s → (0 < n) × (takes_of new + n ≡ takes_of s) in
    λ some. subst P c.self.view_is (λ fits. takes_less old new len n some fits c.count_call.ensures.rises refl refl refl (search rules) (search rules))
