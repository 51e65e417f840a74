use Rattle.std.proofs.Common.{subst}
use Rattle.std.proofs.lemmas.Result.{IfOk-weaker}
use Rattle.widget_meaning.specs.Natives.{run_native}
use Rattle.js_image.specs.Image.{all_seen}
use Rattle.native_common.specs.Receivers.{receiver}
use Rattle.adsafe_object.proofs.Exits.{refines_silent}
use Rattle.store_natives.specs.Rooms.{IsOf}
use Rattle.store_natives.proofs.InRooms.{in_room}
use Rattle.store_natives.proofs.calling.call_in.Goals as goal

pub call-requires-clause-part : goal.call-requires-clause-part
call-requires-clause-part c = subst (λ r. IsOf r c.args.which) c.in-Texts.is (in_room c.args.which c.args.room c.requires.room)

pub call-requires-in-Lists-clause-part : goal.call-requires-in-Lists-clause-part
call-requires-in-Lists-clause-part c = subst (λ r. IsOf r c.args.which) c.in-Lists.is (in_room c.args.which c.args.room c.requires.room)

pub call_silent-requires-clause-part : goal.call_silent-requires-clause-part
call_silent-requires-clause-part c = (subst (λ r. IsOf r c.args.which) c.in-Adsafe.is (in_room c.args.which c.args.room c.requires.room)).0

pub call_silent-requires-clause-silent : goal.call_silent-requires-clause-silent
call_silent-requires-clause-silent c = (subst (λ r. IsOf r c.args.which) c.in-Adsafe.is (in_room c.args.which c.args.room c.requires.room)).1

pub returns-in-Texts-clause-native : goal.returns-in-Texts-clause-native
returns-in-Texts-clause-native c =
    let w = c.args.w.index in
    let s = c.args.store.now in
    let plan = run_native c.args.which (receiver w s.cells c.args.this.now) (all_seen w s.cells c.args.args.now) in
    IfOk-weaker c.call.result _ _ (λ o h. refines_silent w s c.call.new.store c.args.meter.now c.call.new.meter plan o h) c.call.ensures.native

pub returns-in-Lists-clause-native : goal.returns-in-Lists-clause-native
returns-in-Lists-clause-native c =
    let w = c.args.w.index in
    let s = c.args.store.now in
    let plan = run_native c.args.which (receiver w s.cells c.args.this.now) (all_seen w s.cells c.args.args.now) in
    IfOk-weaker c.call-in-Lists.result _ _ (λ o h. refines_silent w s c.call-in-Lists.new.store c.args.meter.now c.call-in-Lists.new.meter plan o h) c.call-in-Lists.ensures.native
