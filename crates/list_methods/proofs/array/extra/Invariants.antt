use Rattle.std.proofs.Common.{◌≡◌, ◌+◌, List, take}
use Rattle.std.specs.Prelude.{sum_by}
use Rattle.js_tree.specs.Forest.{Forest}
use Rattle.js_image.specs.Image.{Rest, all_seen, image}
use Rattle.native_common.specs.Numbers.{counted}
use Rattle.list_methods.proofs.Lists.{length_in}
use Rattle.list_methods.proofs.array.extra.Given as goal

abbrev pub invariant-loop-v : goal.invariant-loop-v
invariant-loop-v l = (fs : List Forest) (r : Rest) → l.sum ≡ counted (l.len + sum_by (length_in (image fs r l.fn.w.index l.store) l.len) (all_seen l.fn.w.index l.store.cells (take l.v-index l.args)))
