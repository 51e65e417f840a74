use Rattle.std.proofs.Common.{List, take}
use Rattle.js_tree.specs.Forest.{Forest}
use Rattle.js_image.specs.Held.{Kept}
use Rattle.list_methods.proofs.Fills.{Behind}
use Rattle.list_methods.proofs.changing.push_all.Given as goal

abbrev pub invariant-loop-at : goal.invariant-loop-at
invariant-loop-at l = ((fs : List Forest) → Kept fs l.w.index l.fn.store l.store) × Behind l.w.index l.fn.store l.array l.store (take l.at l.values)
