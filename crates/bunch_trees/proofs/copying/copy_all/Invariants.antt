use Rattle.std.proofs.Common.{◌≡◌, ℕ, List, take}
use Rattle.js_tree.specs.Forest.{Forest}
use Rattle.object_store.specs.Owned.{owned}
use Rattle.event_loop.specs.declared.around.Loop.{Loop}
use Rattle.js_image.specs.Held.{Kept}
use Rattle.page_image.specs.Copies.{AreCopied}
use Rattle.native_image.specs.Sound.{HoldsOwn, IsSound, KeepsAll}
use Rattle.bunch_trees.proofs.copying.copy_all.Given as goal

-- those before are copied
abbrev pub invariant-each : goal.invariant-each
invariant-each l = record {
  copied : AreCopied l.initial.page l.page l.w.index (take l.node-index l.news) l.ids.items;
  sound : (k : Loop) → IsSound l.w.index l.initial.store l.initial.page k → IsSound l.w.index l.store l.page k;
  same : (v : ℕ) → owned v l.store ≡ owned v l.initial.store;
  store : (fs : List Forest) → Kept fs l.w.index l.initial.store l.store;
  kept : (k : Loop) → HoldsOwn l.w.index l.initial.store l.initial.page k → KeepsAll l.w.index l.initial.store l.store l.initial.page l.page k;
}
