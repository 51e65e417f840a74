use Rattle.std.proofs.Common.{◌≡◌, ◌≤◌, ◌∙◌, ap, rules, subst, sym, refl}
use Rattle.std.specs.Int.{w64}
use Rattle.std.proofs.lemmas.Int.{to_z-of_z}
use mir.Val.{SFits}
use Rattle.std.specs.Prelude.{slice_range}
use Rattle.std.proofs.lemmas.Result.{IfOk-weaker}
use Rattle.widget_meaning.specs.Values.{Number, nth}
use Rattle.widget_meaning.specs.Plan.{Halt, charge}
use Rattle.widget_meaning.specs.Costs.{give}
use Rattle.widget_meaning.specs.NativeForms.{elements, from_end, make_array}
use Rattle.widget_meaning.specs.ListChanges.{list_extra}
use Rattle.widget_meaning.specs.ListNatives.{list_slice}
use Rattle.js_image.specs.declared.outcome.Fault.TheVariants as fault
use Rattle.js_image.specs.declared.outcome.StopCause.TheVariants as cause
use Rattle.js_image.specs.Image.{all_seen, image, seen}
use Rattle.js_values.specs.declared.outcome.NativeOut.TheVariants as native
use Rattle.native_common.proofs.Meeting.{ends_here, ends_same, refines_same}
use Rattle.native_common.proofs.Seen.{nth_seen}
use Rattle.list_methods.specs.Arrays.{number}
use Rattle.list_methods.proofs.Lists.{from_end_within}
use Rattle.list_methods.proofs.Meeting.{refines_taken, refines_wanting, thrown}
use Rattle.list_methods.proofs.Plans.{slice_end_leaves, slice_is, slice_leaves, slice_object}
use Rattle.list_methods.proofs.copying.slice.Goals as goal

pub returns-then-either_object-clause-native : goal.returns-then-either_object-clause-native
returns-then-either_object-clause-native c = thrown c.args.w.index c.args.store.now (λ d s. list_slice (number c.args.w.index c.args.store.now c.args.array) c.args.array.len (nth 0 (all_seen c.args.w.index c.args.store.now.cells c.args.args.now)) (nth 1 (all_seen c.args.w.index c.args.store.now.cells c.args.args.now)) (list_extra c.args.array.len (all_seen c.args.w.index c.args.store.now.cells c.args.args.now) s) s) fault.E4 c.args.meter.now (λ fs r d.
    (λ j. list_slice (number c.args.w.index c.args.store.now c.args.array) c.args.array.len ((nth_seen c.args.w.index c.args.store.now.cells c.args.args.now 0 ∙ ap (seen c.args.w.index c.args.store.now.cells) (sym c.nth-from.ensures)) j) ((nth_seen c.args.w.index c.args.store.now.cells c.args.args.now 1 ∙ ap (seen c.args.w.index c.args.store.now.cells) (sym c.nth-to.ensures)) j) (list_extra c.args.array.len (all_seen c.args.w.index c.args.store.now.cells c.args.args.now) (image fs r c.args.w.index c.args.store.now)) (image fs r c.args.w.index c.args.store.now))
    ∙ slice_object (number c.args.w.index c.args.store.now c.args.array) c.args.array.len (image fs r c.args.w.index c.args.store.now) (seen c.args.w.index c.args.store.now.cells c.nth-from.result.now) (seen c.args.w.index c.args.store.now.cells c.nth-to.result.now) (list_extra c.args.array.len (all_seen c.args.w.index c.args.store.now.cells c.args.args.now) (image fs r c.args.w.index c.args.store.now)) (sym (c.either_object.ensures c.args.w.index c.args.store.now.cells) ∙ c.if-either_object.true))

pub returns-in_default-clause-native : goal.returns-in_default-clause-native
returns-in_default-clause-native c = refines_same c.args.w.index c.args.store.now c.args.store.now (λ d s. list_slice (number c.args.w.index c.args.store.now c.args.array) c.args.array.len (nth 0 (all_seen c.args.w.index c.args.store.now.cells c.args.args.now)) (nth 1 (all_seen c.args.w.index c.args.store.now.cells c.args.args.now)) (list_extra c.args.array.len (all_seen c.args.w.index c.args.store.now.cells c.args.args.now) s) s) (λ d s. charge (list_extra c.args.array.len (all_seen c.args.w.index c.args.store.now.cells c.args.args.now) s) s (Halt Number s)) c.charged.result c.args.meter.now c.charged.new.meter (λ fs r d.
    (λ j. list_slice (number c.args.w.index c.args.store.now c.args.array) c.args.array.len ((nth_seen c.args.w.index c.args.store.now.cells c.args.args.now 0 ∙ ap (seen c.args.w.index c.args.store.now.cells) (sym c.nth-from.ensures)) j) ((nth_seen c.args.w.index c.args.store.now.cells c.args.args.now 1 ∙ ap (seen c.args.w.index c.args.store.now.cells) (sym c.nth-to.ensures)) j) (list_extra c.args.array.len (all_seen c.args.w.index c.args.store.now.cells c.args.args.now) (image fs r c.args.w.index c.args.store.now)) (image fs r c.args.w.index c.args.store.now))
    ∙ slice_leaves (number c.args.w.index c.args.store.now c.args.array) c.args.array.len (image fs r c.args.w.index c.args.store.now) (seen c.args.w.index c.args.store.now.cells c.nth-from.result.now) (seen c.args.w.index c.args.store.now.cells c.nth-to.result.now) (list_extra c.args.array.len (all_seen c.args.w.index c.args.store.now.cells c.args.args.now) (image fs r c.args.w.index c.args.store.now)) (sym (c.either_object.ensures c.args.w.index c.args.store.now.cells) ∙ c.if-either_object.false) (sym (c.number_or.ensures c.args.w.index c.args.store.now.cells) ∙ c.in_default.is))
    (c.charged.ensures c.args.w.index c.args.store.now (λ d t. Halt Number t) (λ t. list_extra c.args.array.len (all_seen c.args.w.index c.args.store.now.cells c.args.args.now) t) c.extra-asked.ensures (ends_here c.args.w.index c.args.store.now (λ d t. Halt Number t) (native.Stop cause.Number) (λ fs r node d. refl) tt))

pub returns-in_default-end_or-clause-native : goal.returns-in_default-end_or-clause-native
returns-in_default-end_or-clause-native c = refines_same c.args.w.index c.args.store.now c.args.store.now (λ d s. list_slice (number c.args.w.index c.args.store.now c.args.array) c.args.array.len (nth 0 (all_seen c.args.w.index c.args.store.now.cells c.args.args.now)) (nth 1 (all_seen c.args.w.index c.args.store.now.cells c.args.args.now)) (list_extra c.args.array.len (all_seen c.args.w.index c.args.store.now.cells c.args.args.now) s) s) (λ d s. charge (list_extra c.args.array.len (all_seen c.args.w.index c.args.store.now.cells c.args.args.now) s) s (Halt Number s)) c.charged-in_default-end_or.result c.args.meter.now c.charged-in_default-end_or.new.meter (λ fs r d.
    (λ j. list_slice (number c.args.w.index c.args.store.now c.args.array) c.args.array.len ((nth_seen c.args.w.index c.args.store.now.cells c.args.args.now 0 ∙ ap (seen c.args.w.index c.args.store.now.cells) (sym c.nth-from.ensures)) j) ((nth_seen c.args.w.index c.args.store.now.cells c.args.args.now 1 ∙ ap (seen c.args.w.index c.args.store.now.cells) (sym c.nth-to.ensures)) j) (list_extra c.args.array.len (all_seen c.args.w.index c.args.store.now.cells c.args.args.now) (image fs r c.args.w.index c.args.store.now)) (image fs r c.args.w.index c.args.store.now))
    ∙ slice_end_leaves (number c.args.w.index c.args.store.now c.args.array) c.args.array.len (image fs r c.args.w.index c.args.store.now) (seen c.args.w.index c.args.store.now.cells c.nth-from.result.now) (seen c.args.w.index c.args.store.now.cells c.nth-to.result.now) (list_extra c.args.array.len (all_seen c.args.w.index c.args.store.now.cells c.args.args.now) (image fs r c.args.w.index c.args.store.now)) (sym (c.either_object.ensures c.args.w.index c.args.store.now.cells) ∙ c.if-either_object.false) c.in-Some.x (sym (c.number_or.ensures c.args.w.index c.args.store.now.cells) ∙ c.in-Some.is) (sym (c.end_or.ensures c.args.w.index c.args.store.now.cells) ∙ c.in_default-end_or.is))
    (c.charged-in_default-end_or.ensures c.args.w.index c.args.store.now (λ d t. Halt Number t) (λ t. list_extra c.args.array.len (all_seen c.args.w.index c.args.store.now.cells c.args.args.now) t) c.extra-asked.ensures (ends_here c.args.w.index c.args.store.now (λ d t. Halt Number t) (native.Stop cause.Number) (λ fs r node d. refl) tt))

pub returns-in-Ok-clause-native : goal.returns-in-Ok-clause-native
returns-in-Ok-clause-native c =
    let x_fits : SFits w64 c.in-Some.x = search rules in
    let y_fits : SFits w64 c.in-Some-end_or.y = search rules in
    let from : c.from_end.result ≡ from_end c.args.array.len c.in-Some.x = c.from_end.ensures ∙ ap (from_end c.args.array.len) (to_z-of_z w64 c.in-Some.x x_fits) in
    let to : c.from_end-in-Ok.result ≡ from_end c.args.array.len c.in-Some-end_or.y = c.from_end-in-Ok.ensures ∙ ap (from_end c.args.array.len) (to_z-of_z w64 c.in-Some-end_or.y y_fits) in
    IfOk-weaker c.between.result _ _ (λ o h. refines_same c.args.w.index c.args.store.now c.between.new.store (λ d s. list_slice (number c.args.w.index c.args.store.now c.args.array) c.args.array.len (nth 0 (all_seen c.args.w.index c.args.store.now.cells c.args.args.now)) (nth 1 (all_seen c.args.w.index c.args.store.now.cells c.args.args.now)) (list_extra c.args.array.len (all_seen c.args.w.index c.args.store.now.cells c.args.args.now) s) s) (λ d s. charge (list_extra c.args.array.len (all_seen c.args.w.index c.args.store.now.cells c.args.args.now) s) s (make_array (slice_range (elements s (number c.args.w.index c.args.store.now c.args.array) c.args.array.len) (from_end c.args.array.len c.in-Some.x) (from_end c.args.array.len c.in-Some-end_or.y)) 0 s give)) o c.args.meter.now c.take.new.meter (λ fs r d.
    (λ j. list_slice (number c.args.w.index c.args.store.now c.args.array) c.args.array.len ((nth_seen c.args.w.index c.args.store.now.cells c.args.args.now 0 ∙ ap (seen c.args.w.index c.args.store.now.cells) (sym c.nth-from.ensures)) j) ((nth_seen c.args.w.index c.args.store.now.cells c.args.args.now 1 ∙ ap (seen c.args.w.index c.args.store.now.cells) (sym c.nth-to.ensures)) j) (list_extra c.args.array.len (all_seen c.args.w.index c.args.store.now.cells c.args.args.now) (image fs r c.args.w.index c.args.store.now)) (image fs r c.args.w.index c.args.store.now))
    ∙ slice_is (number c.args.w.index c.args.store.now c.args.array) c.args.array.len (image fs r c.args.w.index c.args.store.now) (seen c.args.w.index c.args.store.now.cells c.nth-from.result.now) (seen c.args.w.index c.args.store.now.cells c.nth-to.result.now) (list_extra c.args.array.len (all_seen c.args.w.index c.args.store.now.cells c.args.args.now) (image fs r c.args.w.index c.args.store.now)) (sym (c.either_object.ensures c.args.w.index c.args.store.now.cells) ∙ c.if-either_object.false) c.in-Some.x (sym (c.number_or.ensures c.args.w.index c.args.store.now.cells) ∙ c.in-Some.is) c.in-Some-end_or.y (sym (c.end_or.ensures c.args.w.index c.args.store.now.cells) ∙ c.in-Some-end_or.is))
    (refines_taken c.args.w.index c.args.store.now c.between.new.store (λ s. list_extra c.args.array.len (all_seen c.args.w.index c.args.store.now.cells c.args.args.now) s) c.extra-asked.result c.extra-asked.ensures (λ d s. make_array (slice_range (elements s (number c.args.w.index c.args.store.now c.args.array) c.args.array.len) (from_end c.args.array.len c.in-Some.x) (from_end c.args.array.len c.in-Some-end_or.y)) 0 s give) c.args.meter.now c.take.new.meter o c.in-Ok.ensures.ok (ends_same c.args.w.index c.args.store.now c.between.new.store (λ d s. make_array (slice_range (elements s (number c.args.w.index c.args.store.now c.args.array) c.args.array.len) (from_end c.args.array.len c.in-Some.x) (from_end c.args.array.len c.in-Some-end_or.y)) 0 s give) (λ d s. make_array (slice_range (elements s (number c.args.w.index c.args.store.now c.args.array) c.args.array.len) c.from_end.result c.from_end-in-Ok.result) 0 s give) o (λ fs r d j. make_array (slice_range (elements (image fs r c.args.w.index c.args.store.now) (number c.args.w.index c.args.store.now c.args.array) c.args.array.len) (sym from j) (sym to j)) 0 (image fs r c.args.w.index c.args.store.now) give) h))) c.between.ensures.native

pub returns-clause-native : goal.returns-clause-native
returns-clause-native c = refines_same c.args.w.index c.args.store.now c.args.store.now (λ d s. list_slice (number c.args.w.index c.args.store.now c.args.array) c.args.array.len (nth 0 (all_seen c.args.w.index c.args.store.now.cells c.args.args.now)) (nth 1 (all_seen c.args.w.index c.args.store.now.cells c.args.args.now)) (list_extra c.args.array.len (all_seen c.args.w.index c.args.store.now.cells c.args.args.now) s) s) (λ d s. charge (list_extra c.args.array.len (all_seen c.args.w.index c.args.store.now.cells c.args.args.now) s) s (make_array (slice_range (elements s (number c.args.w.index c.args.store.now c.args.array) c.args.array.len) (from_end c.args.array.len c.in-Some.x) (from_end c.args.array.len c.in-Some-end_or.y)) 0 s give)) native.OutOfFuel c.args.meter.now c.take.new.meter (λ fs r d.
    (λ j. list_slice (number c.args.w.index c.args.store.now c.args.array) c.args.array.len ((nth_seen c.args.w.index c.args.store.now.cells c.args.args.now 0 ∙ ap (seen c.args.w.index c.args.store.now.cells) (sym c.nth-from.ensures)) j) ((nth_seen c.args.w.index c.args.store.now.cells c.args.args.now 1 ∙ ap (seen c.args.w.index c.args.store.now.cells) (sym c.nth-to.ensures)) j) (list_extra c.args.array.len (all_seen c.args.w.index c.args.store.now.cells c.args.args.now) (image fs r c.args.w.index c.args.store.now)) (image fs r c.args.w.index c.args.store.now))
    ∙ slice_is (number c.args.w.index c.args.store.now c.args.array) c.args.array.len (image fs r c.args.w.index c.args.store.now) (seen c.args.w.index c.args.store.now.cells c.nth-from.result.now) (seen c.args.w.index c.args.store.now.cells c.nth-to.result.now) (list_extra c.args.array.len (all_seen c.args.w.index c.args.store.now.cells c.args.args.now) (image fs r c.args.w.index c.args.store.now)) (sym (c.either_object.ensures c.args.w.index c.args.store.now.cells) ∙ c.if-either_object.false) c.in-Some.x (sym (c.number_or.ensures c.args.w.index c.args.store.now.cells) ∙ c.in-Some.is) c.in-Some-end_or.y (sym (c.end_or.ensures c.args.w.index c.args.store.now.cells) ∙ c.in-Some-end_or.is))
    (refines_wanting c.args.w.index c.args.store.now c.args.store.now (λ s. list_extra c.args.array.len (all_seen c.args.w.index c.args.store.now.cells c.args.args.now) s) c.extra-asked.result c.extra-asked.ensures (λ d s. make_array (slice_range (elements s (number c.args.w.index c.args.store.now c.args.array) c.args.array.len) (from_end c.args.array.len c.in-Some.x) (from_end c.args.array.len c.in-Some-end_or.y)) 0 s give) c.args.meter.now c.take.new.meter c.in-Err.ensures.err c.in-Err.ensures.same refl)

pub between-requires-clause-end : goal.between-requires-clause-end
between-requires-clause-end c = subst (λ n. n ≤ c.args.array.len) (sym c.from_end-in-Ok.ensures) (from_end_within c.args.array.len _)
