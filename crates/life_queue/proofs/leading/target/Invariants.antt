use Rattle.std.proofs.Common.{◌≡◌, drop, Some}
use Rattle.page_tree.specs.Pages.{nodes}
use Rattle.page_image.specs.Held.{OptionIn}
use Rattle.page_image.specs.Image.{owns}
use Rattle.event_loop.specs.Deliveries.{leads}
use Rattle.life_queue.proofs.leading.target.Given as goal

abbrev pub invariant-each : goal.invariant-each
invariant-each l = record { leads : leads (nodes l.page) l.place (drop l.step-index l.path) ≡ leads (nodes l.page) (Some l.root) l.path; own : OptionIn (owns l.page l.id.index) l.place }
