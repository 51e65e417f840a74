use Rattle.std.proofs.Common.{◌≡◌, ℕ, ◌+◌, ◌-◌, ◌*◌, List, [], Some}
use Rattle.std.specs.Prelude.{nat_eq}
use Rattle.std.specs.List.{filter}
use Rattle.code_units.specs.Permitted.{is_permitted}
use Rattle.js_tree.specs.Forest.{Forest}
use Rattle.widget_meaning.specs.JsonTexts.{elements_text, members_text, value_text}
use Rattle.widget_meaning.specs.OwnState.{array_length, cell_at, kind_of}
use Rattle.js_image.specs.Elements.{own_place}
use Rattle.js_image.specs.Image.{Rest, image, seen, seen_pairs}
use Rattle.js_image.specs.Held.{ArePairs, IsConfined, IsFine}
use Rattle.object_store.specs.Calls.{keys_at}
use Rattle.json_text.specs.Names.{comma}
use Rattle.json_text.specs.Objects.{IsObjectAt, pairs_at}
use Rattle.json_text.proofs.Owned.{open_pairs}
use Rattle.json_text.proofs.Parts.{rest}
use Rattle.json_text.proofs.writing.+writing.Given as goal

abbrev pub decreases-write_value : goal.decreases-write_value
decreases-write_value l = 4 * l.m

abbrev pub decreases-write_part : goal.decreases-write_part
decreases-write_part l = 4 * l.m + 1

abbrev pub decreases-write_named : goal.decreases-write_named
decreases-write_named l = 4 * l.m + 1

abbrev pub decreases-write_members : goal.decreases-write_members
decreases-write_members l = 4 * l.m + 2

abbrev pub decreases-write_array : goal.decreases-write_array
decreases-write_array l = 4 * l.m + 2

abbrev pub decreases-write_object : goal.decreases-write_object
decreases-write_object l = 4 * l.m + 3

abbrev pub invariant-write_named-names : goal.invariant-write_named-names
invariant-write_named-names l =
    (fs : List Forest) (r : Rest) (w : ℕ) → IsConfined fs w l.store → ArePairs w l.store.cells (pairs_at l.store.cells l.cell) → IsObjectAt l.store.cells l.cell → l.keys ≡ keys_at l.store.cells l.cell
    → rest w l.store.cells (value_text l.m (image fs r w l.store)) (open_pairs (pairs_at l.store.cells l.cell)) l.first l.name-index l.out.items
    ≡ members_text (value_text l.m (image fs r w l.store)) [] (filter (λ q. is_permitted q.0) (seen_pairs w l.store.cells (pairs_at l.store.cells l.cell))) l.fn.out.items

abbrev pub invariant-write_array-loop-at : goal.invariant-write_array-loop-at
invariant-write_array-loop-at l =
    (fs : List Forest) (r : Rest) (w : ℕ) → IsConfined fs w l.store → IsFine w l.store.cells l.array → array_length (kind_of (image fs r w l.store) (seen w l.store.cells l.array)) ≡ Some l.len
    → elements_text (value_text l.m (image fs r w l.store)) (cell_at (image fs r w l.store) (own_place w l.store.cells l.array)).pairs (comma (nat_eq l.at 0)) l.at (l.len - l.at) l.out.items
    ≡ elements_text (value_text l.m (image fs r w l.store)) (cell_at (image fs r w l.store) (own_place w l.store.cells l.array)).pairs [] 0 l.len l.initial.out.items
