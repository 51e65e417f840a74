use Rattle.std.proofs.Common.{◌≡◌, ℕ, ◌<◌, ◌≤◌, List}
use Rattle.js_tree.specs.Forest.{Forest}
use Rattle.object_store.specs.Owned.{owned}
use Rattle.js_image.specs.Held.{Kept}
use Rattle.native_image.specs.Sound.{HasRaw}
use Rattle.native_image.proofs.growing.add_cells.Given as goal

-- those before have their cells
abbrev pub invariant-each : goal.invariant-each
invariant-each l = record {
  there : (n : ℕ) → l.first ≤ n → n < l.node → HasRaw l.store.cells n;
  same : (v : ℕ) → owned v l.store ≡ owned v l.initial.store;
  kept : (fs : List Forest) (w : ℕ) → Kept fs w l.initial.store l.store;
}
