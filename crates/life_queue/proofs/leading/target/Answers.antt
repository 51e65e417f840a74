use Rattle.std.proofs.Common.{refl, sym, ◌∙◌}
use Rattle.std.proofs.lemmas.List.{at_drop_all}
use Rattle.page_tree.specs.Pages.{nodes}
use Rattle.event_loop.specs.Deliveries.{leads}
use Rattle.life_queue.proofs.Led.{led, root_own}
use Rattle.life_queue.proofs.leading.target.Goals as goal

pub each-init : goal.each-init
each-init c = record { leads = refl; own = root_own c.args.page.now c.args.id.index c.root_of-root.result c.args.id.small c.root_of-root.ensures }

pub returns-clause-image : goal.returns-clause-image
returns-clause-image c =
    led c.args.page.now c.args.id.index c.root_of-root.result c.root_of-root.ensures c.args.path.now c.each.place
    (sym (at_drop_all (leads (nodes c.args.page.now) c.each.place) c.args.path.now c.each.step-index c.each-test.false) ∙ c.each.invariant.leads)
