use Rattle.std.proofs.Common.{map, take}
use Rattle.event_loop.specs.declared.around.Loop.{Loop}
use Rattle.page_image.specs.Image.{number}
use Rattle.native_image.specs.Made.{AreBunches}
use Rattle.native_image.specs.Sound.{HoldsOwn, IsSound, KeepsStore}
use Rattle.native_image.proofs.bunches.make_bunches.Given as goal

-- those of the nodes before are made
abbrev pub invariant-each : goal.invariant-each
invariant-each l =
    ((k : Loop) → HoldsOwn l.w.index l.initial.store l.page k → AreBunches l.w.index l.initial.store l.store l.page k (map (number l.page l.w.index) (take l.node-index l.nodes)) l.values.items)
    × ((k : Loop) → IsSound l.w.index l.initial.store l.page k → IsSound l.w.index l.store l.page k)
    × KeepsStore l.w.index l.initial.store l.store
