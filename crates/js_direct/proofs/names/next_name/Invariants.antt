use Rattle.std.proofs.Common.{List, drop, length, ℕ, ◌≡◌}
use Rattle.js_tree.specs.Forest.{Forest}
use Rattle.js_image.specs.Image.{Rest, image, seen}
use Rattle.js_image.specs.Held.{IsConfined, IsFine}
use Rattle.widget_meaning.specs.Statements.{for_in}
use Rattle.js_tree.specs.Plain.{Stmt}
use Rattle.widget_meaning.specs.Plan as plan
use Rattle.js_direct.proofs.names.next_name.Given as goal

-- those that were passed over are not found
abbrev pub invariant-each : goal.invariant-each
invariant-each l =
    (fs : List Forest) (r : Rest) (w : ℕ) (x : List ℕ) (b : List Stmt) (p : plan.Place) → IsConfined fs w l.store → IsFine w l.store.cells l.names.object
    → for_in (seen w l.store.cells l.names.object) x (drop l.names.at l.names.names.items) b p (image fs r w l.store)
    ≡ for_in (seen w l.store.cells l.names.object) x (drop l.at l.names.names.items) b p (image fs r w l.store)

abbrev pub decreases-each : goal.decreases-each
decreases-each l = length (drop l.at l.names.names.items)
