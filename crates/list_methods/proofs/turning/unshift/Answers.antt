use Rattle.std.proofs.Common.{◌+◌, ◌++◌, arith, length, pos, refl}
use Rattle.std.proofs.lemmas.List.{length-map}
use Rattle.std.proofs.lemmas.Result.{IfOk-weaker}
use Rattle.widget_meaning.specs.Values.{Num}
use Rattle.widget_meaning.specs.Plan.{charge}
use Rattle.widget_meaning.specs.ListChanges.{change, list_extra, unshift}
use Rattle.widget_meaning.specs.NativeForms.{elements}
use Rattle.js_image.specs.declared.outcome.Fault.TheVariants as fault
use Rattle.js_image.specs.Image.{all_seen, image, seen}
use Rattle.js_values.specs.declared.outcome.NativeOut.TheVariants as native
use Rattle.native_common.proofs.Meeting.{refines_same}
use Rattle.list_methods.specs.Arrays.{number}
use Rattle.list_methods.proofs.Meeting.{refines_taken, refines_wanting, thrown}
use Rattle.list_methods.proofs.Plans.{unshift_is, unshift_throws}
use Rattle.list_methods.proofs.turning.unshift.Goals as goal

pub returns-then-count-room-clause-native : goal.returns-then-count-room-clause-native
returns-then-count-room-clause-native c =
    let w = c.args.w.index in
    let old = c.args.store.now in
    let n = number w old c.args.array in
    let vs = all_seen w old.cells c.args.args.now in
    thrown w old (λ d s. unshift n c.args.array.len vs s) fault.E7 c.args.meter.now
    (λ fs r d. unshift_throws n c.args.array.len (image fs r w old) vs (omega (arith, c.if-count-room.true, c.arg_count-count.ensures, c.room_behind-room.ensures, length-map c.args.args.now (seen w old.cells))))

pub put_first-requires-clause-few : goal.put_first-requires-clause-few
put_first-requires-clause-few c = omega (arith, c.if-count-room.false, c.arg_count-count.ensures, c.room_behind-room.ensures)

pub returns-in-Ok-clause-native : goal.returns-in-Ok-clause-native
returns-in-Ok-clause-native c =
    let w = c.args.w.index in
    let old = c.args.store.now in
    let n = number w old c.args.array in
    let len = c.args.array.len in
    let vs = all_seen w old.cells c.args.args.now in
    IfOk-weaker c.put_first.result _ _ (λ o h. refines_same w old c.put_first.new.store (λ d s. unshift n len vs s) (λ d s. charge (list_extra len vs s) s (change n (vs ++ elements s n len) (Num (pos (len + length vs))) s)) o c.args.meter.now c.take.new.meter
    (λ fs r d. unshift_is n len (image fs r w old) vs (omega (arith, c.if-count-room.false, c.arg_count-count.ensures, c.room_behind-room.ensures, length-map c.args.args.now (seen w old.cells))))
    (refines_taken w old c.put_first.new.store (λ s. list_extra len vs s) c.extra-asked.result c.extra-asked.ensures (λ d s. change n (vs ++ elements s n len) (Num (pos (len + length vs))) s) c.args.meter.now c.take.new.meter o c.in-Ok.ensures.ok h)) c.put_first.ensures.native

pub returns-in-Err-clause-native : goal.returns-in-Err-clause-native
returns-in-Err-clause-native c =
    let w = c.args.w.index in
    let old = c.args.store.now in
    let n = number w old c.args.array in
    let len = c.args.array.len in
    let vs = all_seen w old.cells c.args.args.now in
    refines_same w old old (λ d s. unshift n len vs s) (λ d s. charge (list_extra len vs s) s (change n (vs ++ elements s n len) (Num (pos (len + length vs))) s)) native.OutOfFuel c.args.meter.now c.take.new.meter
    (λ fs r d. unshift_is n len (image fs r w old) vs (omega (arith, c.if-count-room.false, c.arg_count-count.ensures, c.room_behind-room.ensures, length-map c.args.args.now (seen w old.cells))))
    (refines_wanting w old old (λ s. list_extra len vs s) c.extra-asked.result c.extra-asked.ensures (λ d s. change n (vs ++ elements s n len) (Num (pos (len + length vs))) s) c.args.meter.now c.take.new.meter c.in-Err.ensures.err c.in-Err.ensures.same refl)
