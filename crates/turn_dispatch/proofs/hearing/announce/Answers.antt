use Rattle.std.proofs.Common.{sym, ap, ◌∙◌, subst}
use Rattle.widget_meaning.specs.Dispatch.{with_dispatch}
use Rattle.widget_meaning.specs.Plan as plan
use Rattle.widget_meaning.specs.Plan.{Do, Ret}
use Rattle.native_image.specs.Image.{beside, image}
use Rattle.turn_dispatch.specs.declared.level.Hearing.{Hearing}
use Rattle.turn_dispatch.specs.Held.{FineHearing}
use Rattle.turn_dispatch.specs.Levels.{hearing_of}
use Rattle.turn_dispatch.proofs.Announced.{hear_calls, heard_fine}
use Rattle.turn_dispatch.proofs.hearing.announce.Goals as goal

pub returns-clause-plan : goal.returns-clause-plan
returns-clause-plan c = λ fs x l b sound.
    hear_calls c.args.w.index c.args.w.small c.args.store.now c.make_event.new.store c.args.page.now c.args.dispatch c.args.at.0 c.args.at.1 c.requires.some
    c.make_event.ensures.kept.grows c.requires.dispatch c.requires.own c.requires.functions c.in_ok-event.event c.in_ok-event.ensures.held
    (λ gs r k. c.requires.paid gs r k) c.in_ok-event.ensures.born c.in_ok-event.ensures.next fs x l b sound
    ∙ ap (λ (h : Hearing). Do (plan.Hear (hearing_of c.args.w.index c.make_event.new.store.cells c.args.page.now h)) (with_dispatch (image fs x c.args.w.index (beside c.make_event.new.store c.args.page.now l b))) Ret)
    (sym c.in_ok-new.ensures.ok)

pub returns-clause-fine : goal.returns-clause-fine
returns-clause-fine c =
    subst (λ (h : Hearing). FineHearing c.args.w.index c.make_event.new.store.cells c.args.page.now h) (sym c.in_ok-new.ensures.ok)
    (heard_fine c.args.w.index c.args.w.small c.args.store.now c.make_event.new.store c.args.page.now c.args.dispatch c.args.at.0 c.args.at.1 c.requires.some
    c.make_event.ensures.kept.grows c.requires.dispatch c.requires.own c.requires.functions c.in_ok-event.event c.in_ok-event.ensures.held)
