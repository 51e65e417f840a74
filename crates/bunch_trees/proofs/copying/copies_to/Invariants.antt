use Rattle.std.proofs.Common.{map, take}
use Rattle.std.specs.List.{fold}
use Rattle.widget_meaning.specs.BunchWrites.{with_copies}
use Rattle.event_loop.specs.declared.around.Loop.{Loop}
use Rattle.page_image.specs.Image.{number}
use Rattle.native_image.specs.Sound.{HoldsOwn, KeepsAll}
use Rattle.bunch_trees.specs.Changes.{Changes}
use Rattle.bunch_trees.proofs.copying.copies_to.Given as goal

-- those before have theirs
abbrev pub invariant-each : goal.invariant-each
invariant-each l = record {
  done : Changes l.w.index l.initial.store l.store l.initial.page l.page (λ s. fold (λ u t. with_copies t (map (number l.initial.page l.w.index) l.news) u) s (map (number l.initial.page l.w.index) (take l.target-index l.targets)));
  kept : (k : Loop) → HoldsOwn l.w.index l.initial.store l.initial.page k → KeepsAll l.w.index l.initial.store l.store l.initial.page l.page k;
}
