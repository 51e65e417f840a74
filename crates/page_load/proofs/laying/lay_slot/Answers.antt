use Rattle.std.proofs.Common.{◌≡◌, arith, ap, length, refl, sym, ◌∙◌}
use Rattle.std.specs.Prelude.{slice_get}
use Rattle.std.proofs.lemmas.Option.{slice_get_read}
use Rattle.page_load.proofs.Lots.{laid_next, lays_slot}
use Rattle.page_load.proofs.laying.lay_slot.Goals as goal

pub add_slot-requires-clause-widget : goal.add_slot-requires-clause-widget
add_slot-requires-clause-widget c = omega (arith, c.requires.few, c.requires.there, c.len-at.ensures)

pub add_slot-requires-clause-away : goal.add_slot-requires-clause-away
add_slot-requires-clause-away c = c.requires.laid.away c.len-at.result (omega (arith, c.len-at.ensures)) (omega (arith, c.requires.few, c.requires.there, c.len-at.ensures))

pub returns-clause-laid : goal.returns-clause-laid
returns-clause-laid c =
    let e = c.in_ok-node.ensures in
    let roots = c.args.base.now.roots.items in
    let same : c.len-at.result ≡ length roots = omega (arith, c.len-at.ensures) in
    let at = slice_get_read c.args.slots.now _ c.len-at.result c.index-slots-at.result refl (omega (arith, c.requires.there, c.len-at.ensures)) c.index-slots-at.is in
    laid_next c.args.slots.now roots c.push.new.self.items c.in_ok-node.node c.index-slots-at.result c.args.base.now.store c.add_slot.new.store c.args.base.now.page c.add_slot.new.page c.requires.few
    (ap (slice_get c.args.slots.now) (sym same) ∙ at) c.in_ok-push.ensures.items c.len-at.result same
    e.placed e.lot e.stands (e.raws c.requires.laid.raws) e.others e.away e.lots e.standing c.add_slot.ensures.same c.add_slot.ensures.confined c.requires.laid

pub returns-clause-lays : goal.returns-clause-lays
returns-clause-lays c = λ before h. lays_slot c.args.base.now.page c.add_slot.new.page c.args.base.now.roots.items before c.in_ok-node.node c.push.new.self.items c.in_ok-push.ensures.items c.in_ok-node.ensures.laid h
