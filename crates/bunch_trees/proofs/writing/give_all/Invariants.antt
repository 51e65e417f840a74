use Rattle.std.proofs.Common.{map, take}
use Rattle.std.specs.List.{fold}
use Rattle.widget_meaning.specs.BunchWrites.{valued}
use Rattle.event_loop.specs.declared.around.Loop.{Loop}
use Rattle.page_image.specs.Image.{number}
use Rattle.native_image.specs.Sound.{HoldsOwn, KeepsAll}
use Rattle.bunch_trees.specs.Changes.{Changes}
use Rattle.bunch_trees.proofs.writing.give_all.Given as goal

-- those before have it
abbrev pub invariant-each : goal.invariant-each
invariant-each l = record {
  done : Changes l.w.index l.initial.store l.store l.initial.page l.page (λ s. fold (valued l.given.text) s (map (number l.initial.page l.w.index) (take l.node-index l.nodes)));
  kept : (k : Loop) → HoldsOwn l.w.index l.initial.store l.initial.page k → KeepsAll l.w.index l.initial.store l.store l.initial.page l.page k;
}
