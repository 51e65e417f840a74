use Rattle.std.proofs.Common.{refl, sym, ap, ◌∙◌, subst, arith, ◌+◌}
use Rattle.page_image.specs.Held.{OptionIn}
use Rattle.page_image.specs.Image.{forest, number, owns}
use Rattle.widget_meaning.specs.Trees.{node_at}
use Rattle.query_grammar.specs.Renumbering.{renumbered}
use Rattle.life_laws.proofs.Begins.{event_gone, event_missed}
use Rattle.life_queue.specs.declared.life.Work.TheVariants as work
use Rattle.life_queue.specs.Lives.{event_of, own_of, works_of}
use Rattle.life_queue.proofs.Keeps.{keeps_life}
use Rattle.life_queue.proofs.Passing.{fine_counted, takes_passed}
use Rattle.life_queue.proofs.Rests.{no_stop, not_there, stop_there}
use Rattle.life_queue.proofs.events.take_event.Goals as goal

pub returns-then-is_some-clause-kept : goal.returns-then-is_some-clause-kept
returns-then-is_some-clause-kept c = keeps_life c.args.id.index c.args.shared.now c.args.life.now _ c.requires.fine.sound.holds (record { widget = refl; slot = refl; accepted = refl })

pub returns-then-is_some-clause-taken : goal.returns-then-is_some-clause-taken
returns-then-is_some-clause-taken c =
    let h = c.args.shared.now in
    let a = c.args.life.now in
    let stop = stop_there a.records.stop (sym c.is_some.ensures ∙ c.if-is_some.true) in
    takes_passed h h c.args.id.index (work.Event c.args.event) a _ c.requires.rests
    (event_gone (own_of h c.args.id.index a) _ (event_of c.args.event) stop.0 (works_of h c.args.id.index a) stop.1 refl)
    (fine_counted h c.args.id.index a a.records.missed (a.records.gone + 1) c.requires.fine (omega (arith, c.requires.room))) (omega arith) (omega arith)

pub target-requires : goal.target-requires
target-requires c = c.requires.fine.sound.holds.home

pub reach-requires-clause-live : goal.reach-requires-clause-live
reach-requires-clause-live c = not_there c.args.life.now.records.stop (sym c.is_some.ensures ∙ c.if-is_some.false)

pub reach-requires-clause-own : goal.reach-requires-clause-own
reach-requires-clause-own c = subst (OptionIn (owns c.args.shared.now.page c.args.id.index)) c.in-Some.is c.target.ensures.own

pub reach-requires-clause-leads : goal.reach-requires-clause-leads
reach-requires-clause-leads c =
    ap (node_at (forest c.args.shared.now.page c.args.id.index)) (sym c.deref.ensures.value) ∙ (sym c.target.ensures.image ∙ ap (renumbered (number c.args.shared.now.page c.args.id.index)) c.in-Some.is)

pub returns-in-None-clause-kept : goal.returns-in-None-clause-kept
returns-in-None-clause-kept c = keeps_life c.args.id.index c.args.shared.now c.args.life.now _ c.requires.fine.sound.holds (record { widget = refl; slot = refl; accepted = refl })

pub returns-in-None-clause-taken : goal.returns-in-None-clause-taken
returns-in-None-clause-taken c =
    let h = c.args.shared.now in
    let a = c.args.life.now in
    takes_passed h h c.args.id.index (work.Event c.args.event) a _ c.requires.rests
    (event_missed (own_of h c.args.id.index a) _ (event_of c.args.event) (works_of h c.args.id.index a) (no_stop a.records.stop (sym c.is_some.ensures ∙ c.if-is_some.false)) (ap (node_at (forest h.page c.args.id.index)) (sym c.deref.ensures.value) ∙ (sym c.target.ensures.image ∙ ap (renumbered (number h.page c.args.id.index)) c.in-None.is)) refl)
    (fine_counted h c.args.id.index a (a.records.missed + 1) a.records.gone c.requires.fine (omega (arith, c.requires.room))) (omega arith) (omega arith)
