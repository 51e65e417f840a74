use Rattle.std.proofs.Common.{map, sym, ap, ◌∙◌}
use Rattle.std.proofs.lemmas.Result.{IfOk-weaker}
use Rattle.widget_meaning.specs.Queries.{finds}
use Rattle.page_image.specs.Image.{number}
use Rattle.native_image.proofs.Nodes.{own_distinct}
use Rattle.bunch_read.proofs.Opened.{open_apart, open_own, open_starts, starts_all}
use Rattle.bunch_read.proofs.finding.found.Goals as goal

pub open_nodes-requires : goal.open_nodes-requires
open_nodes-requires c = c.requires.nodes.own

pub found_from-requires-clause-starts : goal.found_from-requires-clause-starts
found_from-requires-clause-starts c =
    let k = c.requires.shown in
    open_own c.args.page.now c.args.w.index k.1 c.args.list.now c.in_ok-starts.starts.items c.deref.result.now c.deref.ensures.value (c.in_ok-starts.ensures k.0 k.1 k.2)

pub found_from-requires-clause-apart : goal.found_from-requires-clause-apart
found_from-requires-clause-apart c =
    let k = c.requires.shown in
    open_apart c.args.page.now c.args.w.index k.1 c.args.list.now c.in_ok-starts.starts.items c.deref.result.now c.deref.ensures.value (c.in_ok-starts.ensures k.0 k.1 k.2) c.requires.nodes.own c.requires.nodes.apart

pub returns-in_ok-starts-clause-image : goal.returns-in_ok-starts-clause-image
returns-in_ok-starts-clause-image c = λ g s shows. IfOk-weaker c.found_from.result _ _
    (λ ns h. h ∙ ap (λ l. finds s l c.args.query.now) (open_starts c.args.page.now c.args.w.index s c.args.list.now c.in_ok-starts.starts.items c.deref.result.now c.deref.ensures.value (c.in_ok-starts.ensures g s shows) c.args.query.now (sym c.begins_next.ensures ∙ c.if-begins_next.true)))
    (c.found_from.ensures.image g s shows)

pub found_from-requires-else-begins_next-clause-apart : goal.found_from-requires-else-begins_next-clause-apart
found_from-requires-else-begins_next-clause-apart c = own_distinct c.args.page.now c.args.w.index c.args.list.now c.requires.nodes.own c.requires.nodes.apart

pub returns-else-begins_next-clause-image : goal.returns-else-begins_next-clause-image
returns-else-begins_next-clause-image c = λ g s shows. IfOk-weaker c.found_from-else-begins_next.result _ _
    (λ ns h. h ∙ ap (λ l. finds s l c.args.query.now) (sym (starts_all s c.args.query.now (map (number c.args.page.now c.args.w.index) c.args.list.now) (sym c.begins_next.ensures ∙ c.if-begins_next.false))))
    (c.found_from-else-begins_next.ensures.image g s shows)
