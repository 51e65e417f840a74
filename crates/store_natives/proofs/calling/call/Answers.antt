use Rattle.std.proofs.Common.{◌≡◌, sym, subst, Option}
use Rattle.std.specs.Prelude.{IfNone, IfSome}
use Rattle.widget_meaning.specs.Natives.{run_native}
use Rattle.widget_meaning.specs.Values.{Value}
use Rattle.js_image.specs.Image.{all_seen}
use Rattle.js_values.specs.declared.outcome.NativeOut.{NativeOut}
use Rattle.native_common.specs.Receivers.{receiver}
use Rattle.store_natives.specs.Done.{Done, Wants}
use Rattle.store_natives.specs.Rooms.{store_room}
use Rattle.store_natives.proofs.CarriedOut.{all_kept, carried_done, none_changed, none_wants, of_room}
use Rattle.store_natives.proofs.calling.call.Goals as goal

pub returns-in_err-out-clause-kept : goal.returns-in_err-out-clause-kept
returns-in_err-out-clause-kept c = all_kept c.args.w c.args.store.now c.call_in.new.store c.args.meter.now c.call_in.new.meter _ c.call_in.result c.call_in.ensures.native c.call_in.ensures.memory

pub returns-clause-kept : goal.returns-clause-kept
returns-clause-kept c = all_kept c.args.w c.args.store.now c.call_in.new.store c.args.meter.now c.call_in.new.meter _ c.call_in.result c.call_in.ensures.native c.call_in.ensures.memory

pub returns-clause-none : goal.returns-clause-none
returns-clause-none c =
    let n = c.call_in.new in
    subst (λ (x : Option NativeOut). IfNone x ((n.store ≡ c.args.store.now) × (n.meter ≡ c.args.meter.now))) (sym c.carried.ensures)
    (none_changed c.args.w c.args.store.now n.store c.args.meter.now n.meter _ c.in_ok-out.out c.in_ok-out.ensures.native)

pub returns-clause-wanting : goal.returns-clause-wanting
returns-clause-wanting c =
    let w = c.args.w in
    let s = c.args.store.now in
    let n = c.call_in.new in
    let vs = all_seen w s.cells c.args.args.now in
    let Lacking : Option Value → Type 0 = λ u. Wants w s c.args.meter.now.left (run_native c.args.which u vs) in
    let this = receiver w s.cells c.receiver_of-this.result.now in
    let out = subst (λ (x : Option NativeOut). IfNone x (Lacking this)) (sym c.carried.ensures) (none_wants w s n.store c.args.meter.now n.meter (run_native c.args.which this vs) c.in_ok-out.out c.in_ok-out.ensures.native) in
    subst (λ (u : Option Value). IfNone c.carried.result (IfSome (store_room c.args.which) (λ r. Lacking u))) c.receiver_of-this.ensures.same (of_room c.carried.result (store_room c.args.which) (Lacking this) out)

pub returns-clause-done : goal.returns-clause-done
returns-clause-done c =
    let w = c.args.w in
    let s = c.args.store.now in
    let n = c.call_in.new in
    let vs = all_seen w s.cells c.args.args.now in
    let Carried : Option Value → Option NativeOut → Type 0 = λ u x. IfSome x (Done w s n.store c.args.meter.now.left n.meter.left (run_native c.args.which u vs)) in
    let this = receiver w s.cells c.receiver_of-this.result.now in
    let out = carried_done w s n.store c.args.meter.now n.meter (run_native c.args.which this vs) c.requires.confined.0 c.requires.confined.1 c.in_ok-out.out c.in_ok-out.ensures.native in
    subst (λ (u : Option Value). Carried u c.carried.result) c.receiver_of-this.ensures.same (subst (Carried this) (sym c.carried.ensures) out)

pub returns-clause-spent : goal.returns-clause-spent
returns-clause-spent c = c.in_ok-out.ensures.native.spent
