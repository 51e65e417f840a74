use Rattle.std.proofs.Common.{◌≡◌, true, refl, sym, ap, ◌∙◌, subst}
use Rattle.widget_meaning.specs.Natives.{run_native}
use Rattle.js_image.specs.Held.{AreFine}
use Rattle.js_image.specs.Image.{all_seen}
use Rattle.native_common.specs.Receivers.{receiver}
use Rattle.native_image.proofs.Reading.{after}
use Rattle.natives.specs.Rooms.{is_of}
use Rattle.natives.proofs.InRooms.{in_room}
use Rattle.natives.proofs.Whole.{as_called, reads_carries, store_carries, writes_carries}
use Rattle.natives.proofs.calling.call_on.Goals as goal

pub call-requires-clause-part : goal.call-requires-clause-part
call-requires-clause-part c = subst (λ f. is_of f c.args.native.now.which ≡ true) (sym c.room_of.ensures ∙ c.in-Texts.is) (in_room c.args.native.now.which)

pub call-requires-clause-args : goal.call-requires-clause-args
call-requires-clause-args c = subst (AreFine c.args.widget.now.id.index c.args.shared.now.store.cells) (sym c.as_slice-args.ensures) c.requires.args

pub call-requires-in-Lists-clause-part : goal.call-requires-in-Lists-clause-part
call-requires-in-Lists-clause-part c = subst (λ f. is_of f c.args.native.now.which ≡ true) (sym c.room_of.ensures ∙ c.in-Lists.is) (in_room c.args.native.now.which)

pub call-requires-in-Lists-clause-args : goal.call-requires-in-Lists-clause-args
call-requires-in-Lists-clause-args c = subst (AreFine c.args.widget.now.id.index c.args.shared.now.store.cells) (sym c.as_slice-args.ensures) c.requires.args

pub adsafe_native-requires-clause-part : goal.adsafe_native-requires-clause-part
adsafe_native-requires-clause-part c = subst (λ f. is_of f c.args.native.now.which ≡ true) (sym c.room_of.ensures ∙ c.in-Adsafe.is) (in_room c.args.native.now.which)

pub adsafe_native-requires-clause-args : goal.adsafe_native-requires-clause-args
adsafe_native-requires-clause-args c = subst (AreFine c.args.widget.now.id.index c.args.shared.now.store.cells) (sym c.as_slice-args.ensures) c.requires.args

pub call-requires-in-Reads-clause-part : goal.call-requires-in-Reads-clause-part
call-requires-in-Reads-clause-part c = subst (λ f. is_of f c.args.native.now.which ≡ true) (sym c.room_of.ensures ∙ c.in-Reads.is) (in_room c.args.native.now.which)

pub call-requires-in-Writes-clause-part : goal.call-requires-in-Writes-clause-part
call-requires-in-Writes-clause-part c = subst (λ f. is_of f c.args.native.now.which ≡ true) (sym c.room_of.ensures ∙ c.in-Writes.is) (in_room c.args.native.now.which)

pub call-requires-in-Writes-clause-args : goal.call-requires-in-Writes-clause-args
call-requires-in-Writes-clause-args c = subst (AreFine c.args.widget.now.id.index c.args.shared.now.store.cells) (sym c.as_slice-args.ensures) c.requires.args

pub returns-in-Texts : goal.returns-in-Texts
returns-in-Texts c =
    let h = c.args.shared.now in
    let v = c.args.widget.now in
    let w = v.id.index in
    let n = c.call.new in
    let this = receiver w h.store.cells c.args.this.now in
    let vs = all_seen w h.store.cells c.as_slice-args.result.now in
    let ws = all_seen w h.store.cells c.args.native.now.args.items in
    as_called h v c.args.meter.now n.meter (after h n.store) v c.args.native.now.which this this vs ws c.call.result refl (ap (all_seen w h.store.cells) c.as_slice-args.ensures)
    (store_carries h v c.args.meter.now n.meter n.store c.requires.sound (run_native c.args.native.now.which this vs) c.call.result c.call.ensures.native c.call.ensures.memory)

pub returns-in-Lists : goal.returns-in-Lists
returns-in-Lists c =
    let h = c.args.shared.now in
    let v = c.args.widget.now in
    let w = v.id.index in
    let n = c.call-in-Lists.new in
    let this = receiver w h.store.cells c.args.this.now in
    let vs = all_seen w h.store.cells c.as_slice-args.result.now in
    let ws = all_seen w h.store.cells c.args.native.now.args.items in
    as_called h v c.args.meter.now n.meter (after h n.store) v c.args.native.now.which this this vs ws c.call-in-Lists.result refl (ap (all_seen w h.store.cells) c.as_slice-args.ensures)
    (store_carries h v c.args.meter.now n.meter n.store c.requires.sound (run_native c.args.native.now.which this vs) c.call-in-Lists.result c.call-in-Lists.ensures.native c.call-in-Lists.ensures.memory)

pub returns-in-Adsafe : goal.returns-in-Adsafe
returns-in-Adsafe c =
    let h = c.args.shared.now in
    let v = c.args.widget.now in
    let w = v.id.index in
    let n = c.adsafe_native.new in
    let this = receiver w h.store.cells c.args.this.now in
    let vs = all_seen w h.store.cells c.as_slice-args.result.now in
    let ws = all_seen w h.store.cells c.args.native.now.args.items in
    as_called h v c.args.meter.now n.meter n.shared n.widget c.args.native.now.which this this vs ws c.adsafe_native.result refl (ap (all_seen w h.store.cells) c.as_slice-args.ensures)
    c.adsafe_native.ensures

pub returns-in-Reads : goal.returns-in-Reads
returns-in-Reads c =
    let h = c.args.shared.now in
    let v = c.args.widget.now in
    let w = v.id.index in
    let n = c.call-in-Reads.new in
    let this = receiver w h.store.cells c.args.this.now in
    let vs = all_seen w h.store.cells c.as_slice-args.result.now in
    let ws = all_seen w h.store.cells c.args.native.now.args.items in
    as_called h v c.args.meter.now n.meter n.shared v c.args.native.now.which this this vs ws c.call-in-Reads.result refl (ap (all_seen w h.store.cells) c.as_slice-args.ensures)
    (reads_carries h v c.args.meter.now n.meter n.shared (run_native c.args.native.now.which this vs) c.call-in-Reads.result c.call-in-Reads.ensures)

pub returns-in-Writes : goal.returns-in-Writes
returns-in-Writes c =
    let h = c.args.shared.now in
    let v = c.args.widget.now in
    let w = v.id.index in
    let n = c.call-in-Writes.new in
    let this = receiver w h.store.cells c.args.this.now in
    let vs = all_seen w h.store.cells c.as_slice-args.result.now in
    let ws = all_seen w h.store.cells c.args.native.now.args.items in
    as_called h v c.args.meter.now n.meter n.shared n.widget c.args.native.now.which this this vs ws c.call-in-Writes.result refl (ap (all_seen w h.store.cells) c.as_slice-args.ensures)
    (writes_carries h v c.args.meter.now n.meter n.shared n.widget (run_native c.args.native.now.which this vs) c.call-in-Writes.result c.call-in-Writes.ensures)
