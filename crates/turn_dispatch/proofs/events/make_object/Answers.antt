use Rattle.std.proofs.Common.{[], subst}
use Rattle.std.proofs.lemmas.Result.{IfOk-weaker}
use Rattle.js_image.specs.declared.outcome.Made.{Made}
use Rattle.js_image.specs.Plans.{IsFineMade}
use Rattle.turn_dispatch.proofs.Born.{event_new, object_born, object_next}
use Rattle.turn_dispatch.proofs.events.make_object.Goals as goal

pub make-requires-clause-held : goal.make-requires-clause-held
make-requires-clause-held c =
    event_new c.args.w.index c.args.store.now.cells c.lawful.ensures c.args.dispatch.now.kind c.args.dispatch.now.value c.requires
    c.host-proto.result (let h = c.host-proto.ensures in record { place = h.place; within = h.within; object = h.object; unbunched = h.unbunched; chain = h.chain; born = h.born }) c.host-bubble.result c.host-bubble.ensures.within c.in_ok-pairs.pairs.items c.in_ok-pairs.ensures

pub returns-clause-born : goal.returns-clause-born
returns-clause-born c = IfOk-weaker c.made.result _ _
    (λ e is. object_born c.args.w.index c.args.w.small c.args.store.now c.make.new.store c.lawful.ensures (c.make.ensures.kept [] tt).grows c.args.dispatch.now.kind c.args.dispatch.now.value
    c.host-proto.result c.host-bubble.result c.host-proto.ensures.place c.host-bubble.ensures.place c.in_ok-pairs.pairs c.in_ok-pairs.ensures _ e is c.in_ok-make.ensures.plan)
    c.made.ensures

pub returns-clause-next : goal.returns-clause-next
returns-clause-next c = IfOk-weaker c.made.result _ _
    (λ e is. object_next c.args.w.index c.args.w.small c.args.store.now c.make.new.store c.lawful.ensures (c.make.ensures.kept [] tt).grows c.args.dispatch.now.kind c.args.dispatch.now.value
    c.host-proto.result c.host-bubble.result c.host-proto.ensures.place c.host-bubble.ensures.place c.in_ok-pairs.pairs c.in_ok-pairs.ensures _ e is c.in_ok-make.ensures.plan)
    c.made.ensures

pub returns-clause-held : goal.returns-clause-held
returns-clause-held c = IfOk-weaker c.made.result _ _ (λ e is. subst (λ (m : Made). IsFineMade c.args.w.index c.make.new.store.cells m) is c.in_ok-make.ensures.fine) c.made.ensures

pub returns-clause-kept : goal.returns-clause-kept
returns-clause-kept c = λ fs. c.make.ensures.kept fs tt

pub returns-in_err-make-clause-kept : goal.returns-in_err-make-clause-kept
returns-in_err-make-clause-kept c = λ fs. c.make.ensures.kept fs tt
