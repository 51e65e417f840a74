use Rattle.std.proofs.Common.{◌+◌, ap, arith, length, refl, if◌then◌else◌}
use Rattle.std.proofs.lemmas.List.{length-map}
use Rattle.std.proofs.lemmas.Result.{IfOk-weaker}
use Rattle.widget_meaning.specs.Limits.{max_length}
use Rattle.widget_meaning.specs.Values.{E7}
use Rattle.widget_meaning.specs.Plan.{charge}
use Rattle.widget_meaning.specs.Costs.{throw}
use Rattle.widget_meaning.specs.ListChanges.{push}
use Rattle.js_image.specs.declared.outcome.Fault.TheVariants as fault
use Rattle.js_image.specs.Image.{all_seen, image, seen}
use Rattle.js_values.specs.declared.outcome.NativeOut.TheVariants as native
use Rattle.native_common.proofs.Loops.{over_no, over_yes}
use Rattle.native_common.proofs.Meeting.{refines_same}
use Rattle.list_methods.specs.Arrays.{number}
use Rattle.list_methods.specs.Parts.{put_last}
use Rattle.list_methods.proofs.Lists.{counted_args}
use Rattle.list_methods.proofs.Meeting.{refines_taken, refines_wanting, thrown}
use Rattle.list_methods.proofs.ends.push.Goals as goal

pub returns-then-asked-room-clause-native : goal.returns-then-asked-room-clause-native
returns-then-asked-room-clause-native c = thrown c.args.w.index c.args.store.now (λ d s. push (number c.args.w.index c.args.store.now c.args.array) c.args.array.len (all_seen c.args.w.index c.args.store.now.cells c.args.args.now) s) fault.E7 c.args.meter.now (λ fs r d. ap (λ b. if b then throw E7 (image fs r c.args.w.index c.args.store.now) else charge (length (all_seen c.args.w.index c.args.store.now.cells c.args.args.now)) (image fs r c.args.w.index c.args.store.now) (put_last (number c.args.w.index c.args.store.now c.args.array) c.args.array.len (all_seen c.args.w.index c.args.store.now.cells c.args.args.now) (image fs r c.args.w.index c.args.store.now))) (over_yes max_length (c.args.array.len + length (all_seen c.args.w.index c.args.store.now.cells c.args.args.now)) (omega (arith, c.if-asked-room.true, c.arg_count-asked.ensures, c.room_behind-room.ensures, length-map c.args.args.now (seen c.args.w.index c.args.store.now.cells)))))

pub put_last-requires-clause-few : goal.put_last-requires-clause-few
put_last-requires-clause-few c = omega (arith, c.if-asked-room.false, c.arg_count-asked.ensures, c.room_behind-room.ensures)

pub returns-in-Ok-clause-native : goal.returns-in-Ok-clause-native
returns-in-Ok-clause-native c = IfOk-weaker c.put_last.result _ _ (λ o h. refines_same c.args.w.index c.args.store.now c.put_last.new.store (λ d s. push (number c.args.w.index c.args.store.now c.args.array) c.args.array.len (all_seen c.args.w.index c.args.store.now.cells c.args.args.now) s) (λ d s. charge (length (all_seen c.args.w.index c.args.store.now.cells c.args.args.now)) s (put_last (number c.args.w.index c.args.store.now c.args.array) c.args.array.len (all_seen c.args.w.index c.args.store.now.cells c.args.args.now) s)) o c.args.meter.now c.take.new.meter (λ fs r d. ap (λ b. if b then throw E7 (image fs r c.args.w.index c.args.store.now) else charge (length (all_seen c.args.w.index c.args.store.now.cells c.args.args.now)) (image fs r c.args.w.index c.args.store.now) (put_last (number c.args.w.index c.args.store.now c.args.array) c.args.array.len (all_seen c.args.w.index c.args.store.now.cells c.args.args.now) (image fs r c.args.w.index c.args.store.now))) (over_no max_length (c.args.array.len + length (all_seen c.args.w.index c.args.store.now.cells c.args.args.now)) (omega (arith, c.if-asked-room.false, c.arg_count-asked.ensures, c.room_behind-room.ensures, length-map c.args.args.now (seen c.args.w.index c.args.store.now.cells)))))
    (refines_taken c.args.w.index c.args.store.now c.put_last.new.store (λ s. length (all_seen c.args.w.index c.args.store.now.cells c.args.args.now)) c.arg_count-asked.result (λ fs r. counted_args c.args.w.index c.args.store.now.cells c.args.args.now c.arg_count-asked.result c.arg_count-asked.ensures c.arg_count-asked.type_inv) (λ d s. put_last (number c.args.w.index c.args.store.now c.args.array) c.args.array.len (all_seen c.args.w.index c.args.store.now.cells c.args.args.now) s) c.args.meter.now c.take.new.meter o c.in-Ok.ensures.ok h)) c.put_last.ensures.native

pub returns-in-Err-clause-native : goal.returns-in-Err-clause-native
returns-in-Err-clause-native c = refines_same c.args.w.index c.args.store.now c.args.store.now (λ d s. push (number c.args.w.index c.args.store.now c.args.array) c.args.array.len (all_seen c.args.w.index c.args.store.now.cells c.args.args.now) s) (λ d s. charge (length (all_seen c.args.w.index c.args.store.now.cells c.args.args.now)) s (put_last (number c.args.w.index c.args.store.now c.args.array) c.args.array.len (all_seen c.args.w.index c.args.store.now.cells c.args.args.now) s)) native.OutOfFuel c.args.meter.now c.take.new.meter (λ fs r d. ap (λ b. if b then throw E7 (image fs r c.args.w.index c.args.store.now) else charge (length (all_seen c.args.w.index c.args.store.now.cells c.args.args.now)) (image fs r c.args.w.index c.args.store.now) (put_last (number c.args.w.index c.args.store.now c.args.array) c.args.array.len (all_seen c.args.w.index c.args.store.now.cells c.args.args.now) (image fs r c.args.w.index c.args.store.now))) (over_no max_length (c.args.array.len + length (all_seen c.args.w.index c.args.store.now.cells c.args.args.now)) (omega (arith, c.if-asked-room.false, c.arg_count-asked.ensures, c.room_behind-room.ensures, length-map c.args.args.now (seen c.args.w.index c.args.store.now.cells)))))
    (refines_wanting c.args.w.index c.args.store.now c.args.store.now (λ s. length (all_seen c.args.w.index c.args.store.now.cells c.args.args.now)) c.arg_count-asked.result (λ fs r. counted_args c.args.w.index c.args.store.now.cells c.args.args.now c.arg_count-asked.result c.arg_count-asked.ensures c.arg_count-asked.type_inv) (λ d s. put_last (number c.args.w.index c.args.store.now c.args.array) c.args.array.len (all_seen c.args.w.index c.args.store.now.cells c.args.args.now) s) c.args.meter.now c.take.new.meter c.in-Err.ensures.err c.in-Err.ensures.same refl)
