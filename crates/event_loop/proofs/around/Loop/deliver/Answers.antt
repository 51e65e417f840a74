use Rattle.std.proofs.Common.{ap, sym, ◌∙◌, cond, Some}
use Rattle.page_tree.specs.Pages.{nodes}
use Rattle.event_loop.specs.Deliveries.{leads, delivered_to, Gone}
use Rattle.event_loop.proofs.Ways.{ok_goes}
use Rattle.event_loop.proofs.around.Loop.deliver.Goals as goal

pub returns-in-Some : goal.returns-in-Some
returns-in-Some c =
    let k = nodes c.args.page.now in
    ok_goes c.deliver_at.result _ _
    (ap (λ o. delivered_to k c.args.root c.args.self.now o c.args.event.now.kind) (sym c.in-Some.is ∙ c.leads_to.ensures.leads ∙ ap (leads k (Some c.args.root)) c.deref.ensures.value)
    ∙ sym (ap (λ b. cond b Gone (delivered_to k c.args.root c.args.self.now (leads k (Some c.args.root) c.args.event.now.path.items) c.args.event.now.kind)) c.if-stopped.false))
    c.deliver_at.ensures
