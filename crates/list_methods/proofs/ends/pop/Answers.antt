use Rattle.std.proofs.Common.{refl, length}
use Rattle.std.proofs.lemmas.Result.{IfOk-weaker}
use Rattle.widget_meaning.specs.ListChanges.{pop}
use Rattle.widget_meaning.specs.Plan.{charge}
use Rattle.js_image.specs.Image.{all_seen, image}
use Rattle.native_common.proofs.Meeting.{refines_same}
use Rattle.list_methods.specs.Arrays.{number}
use Rattle.list_methods.specs.Parts.{popped}
use Rattle.list_methods.proofs.Meeting.{refines_taken, refines_wanting}
use Rattle.list_methods.proofs.Plans.{pop_is}
use Rattle.list_methods.proofs.Lists.{counted_args}
use Rattle.list_methods.proofs.ends.pop.Goals as goal

pub returns-in-Ok-clause-native : goal.returns-in-Ok-clause-native
returns-in-Ok-clause-native c = IfOk-weaker c.pop_last.result _ _ (λ o h. refines_same c.args.w.index c.args.store.now c.pop_last.new.store (λ d s. pop (number c.args.w.index c.args.store.now c.args.array) c.args.array.len (all_seen c.args.w.index c.args.store.now.cells c.args.args.now) s) (λ d s. charge (length (all_seen c.args.w.index c.args.store.now.cells c.args.args.now)) s (popped (number c.args.w.index c.args.store.now c.args.array) c.args.array.len s)) o c.args.meter.now c.take.new.meter (λ fs r d. pop_is (number c.args.w.index c.args.store.now c.args.array) c.args.array.len (all_seen c.args.w.index c.args.store.now.cells c.args.args.now) (image fs r c.args.w.index c.args.store.now))
    (refines_taken c.args.w.index c.args.store.now c.pop_last.new.store (λ s. length (all_seen c.args.w.index c.args.store.now.cells c.args.args.now)) c.arg_count-asked.result (λ fs r. counted_args c.args.w.index c.args.store.now.cells c.args.args.now c.arg_count-asked.result c.arg_count-asked.ensures c.arg_count-asked.type_inv) (λ d s. popped (number c.args.w.index c.args.store.now c.args.array) c.args.array.len s) c.args.meter.now c.take.new.meter o c.in-Ok.ensures.ok h)) c.pop_last.ensures.native

pub returns-in-Err-clause-native : goal.returns-in-Err-clause-native
returns-in-Err-clause-native c = refines_same c.args.w.index c.args.store.now c.args.store.now (λ d s. pop (number c.args.w.index c.args.store.now c.args.array) c.args.array.len (all_seen c.args.w.index c.args.store.now.cells c.args.args.now) s) (λ d s. charge (length (all_seen c.args.w.index c.args.store.now.cells c.args.args.now)) s (popped (number c.args.w.index c.args.store.now c.args.array) c.args.array.len s)) _ c.args.meter.now c.take.new.meter (λ fs r d. pop_is (number c.args.w.index c.args.store.now c.args.array) c.args.array.len (all_seen c.args.w.index c.args.store.now.cells c.args.args.now) (image fs r c.args.w.index c.args.store.now))
    (refines_wanting c.args.w.index c.args.store.now c.args.store.now (λ s. length (all_seen c.args.w.index c.args.store.now.cells c.args.args.now)) c.arg_count-asked.result (λ fs r. counted_args c.args.w.index c.args.store.now.cells c.args.args.now c.arg_count-asked.result c.arg_count-asked.ensures c.arg_count-asked.type_inv) (λ d s. popped (number c.args.w.index c.args.store.now c.args.array) c.args.array.len s) c.args.meter.now c.take.new.meter c.in-Err.ensures.err c.in-Err.ensures.same refl)
