use Rattle.std.proofs.Common.{◌≡◌, ◌++◌, List, take}
use Rattle.std.specs.List.{flat_map}
use Rattle.js_tree.specs.Forest.{Forest}
use Rattle.widget_meaning.specs.ListChanges.{array_elements}
use Rattle.js_image.specs.Held.{AreFine}
use Rattle.js_image.specs.Image.{Rest, all_seen, image}
use Rattle.list_methods.proofs.copying.push_arguments.Given as goal

abbrev pub invariant-loop-v : goal.invariant-loop-v
invariant-loop-v l =
    ((fs : List Forest) (r : Rest) → all_seen l.w.index l.store.cells l.values.items ≡ all_seen l.w.index l.store.cells l.initial.values.items ++ flat_map (array_elements (image fs r l.w.index l.store)) (all_seen l.w.index l.store.cells (take l.v-index l.args)))
    × AreFine l.w.index l.store.cells l.values.items
