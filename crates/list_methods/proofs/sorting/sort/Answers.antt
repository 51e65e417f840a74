use Rattle.std.proofs.Common.{◌∙◌, ap, refl, sym}
use Rattle.std.proofs.lemmas.Result.{IfOk-weaker}
use Rattle.widget_meaning.specs.Values.{Own}
use Rattle.widget_meaning.specs.Plan.{charge}
use Rattle.widget_meaning.specs.NativeForms.{elements}
use Rattle.widget_meaning.specs.ListChanges.{change, list_extra, sort, sorted}
use Rattle.js_image.specs.declared.outcome.Fault.TheVariants as fault
use Rattle.js_image.specs.Image.{all_seen, image, seen}
use Rattle.js_values.specs.declared.outcome.NativeOut.TheVariants as native
use Rattle.native_common.proofs.Meeting.{refines_same}
use Rattle.native_common.proofs.Seen.{nth_seen}
use Rattle.list_methods.specs.Arrays.{number}
use Rattle.list_methods.specs.Sorting.{has_order}
use Rattle.list_methods.proofs.Meeting.{refines_taken, refines_wanting, thrown}
use Rattle.list_methods.proofs.Plans.{sort_is, sort_object, sort_order}
use Rattle.list_methods.proofs.sorting.sort.Goals as goal

pub returns-then-has_order-clause-native : goal.returns-then-has_order-clause-native
returns-then-has_order-clause-native c =
    let w = c.args.w.index in
    let old = c.args.store.now in
    let n = number w old c.args.array in
    let len = c.args.array.len in
    let vs = all_seen w old.cells c.args.args.now in
    let asks = ap has_order (nth_seen w old.cells c.args.args.now 0 ∙ ap (seen w old.cells) (sym c.nth.ensures)) ∙ sym (c.has_order.ensures w old.cells) ∙ c.if-has_order.true in
    thrown w old (λ d s. sort n len vs s) fault.E4 c.args.meter.now (λ fs r d. sort_order n len (image fs r w old) vs (list_extra len vs (image fs r w old)) asks)

pub returns-then-holds_objects-clause-native : goal.returns-then-holds_objects-clause-native
returns-then-holds_objects-clause-native c =
    let w = c.args.w.index in
    let old = c.args.store.now in
    let n = number w old c.args.array in
    let len = c.args.array.len in
    let vs = all_seen w old.cells c.args.args.now in
    let asks = ap has_order (nth_seen w old.cells c.args.args.now 0 ∙ ap (seen w old.cells) (sym c.nth.ensures)) ∙ sym (c.has_order.ensures w old.cells) ∙ c.if-has_order.false in
    thrown w old (λ d s. sort n len vs s) fault.E4 c.args.meter.now (λ fs r d. sort_object n len (image fs r w old) vs (list_extra len vs (image fs r w old)) asks (sym (c.holds_objects.ensures fs r) ∙ c.if-holds_objects.true))

pub returns-in-Ok-clause-native : goal.returns-in-Ok-clause-native
returns-in-Ok-clause-native c =
    let w = c.args.w.index in
    let old = c.args.store.now in
    let new = c.put_in_order.new.store in
    let n = number w old c.args.array in
    let len = c.args.array.len in
    let vs = all_seen w old.cells c.args.args.now in
    let asks = ap has_order (nth_seen w old.cells c.args.args.now 0 ∙ ap (seen w old.cells) (sym c.nth.ensures)) ∙ sym (c.has_order.ensures w old.cells) ∙ c.if-has_order.false in
    IfOk-weaker c.put_in_order.result _ _ (λ o h. refines_same w old new (λ d s. sort n len vs s) (λ d s. charge (list_extra len vs s) s (change n (sorted (elements s n len)) (Own n) s)) o c.args.meter.now c.take.new.meter
    (λ fs r d. sort_is n len (image fs r w old) vs (list_extra len vs (image fs r w old)) asks (sym (c.holds_objects.ensures fs r) ∙ c.if-holds_objects.false))
    (refines_taken w old new (λ s. list_extra len vs s) c.extra-asked.result c.extra-asked.ensures (λ d s. change n (sorted (elements s n len)) (Own n) s) c.args.meter.now c.take.new.meter o c.in-Ok.ensures.ok h)) c.put_in_order.ensures.native

pub returns-clause-native : goal.returns-clause-native
returns-clause-native c =
    let w = c.args.w.index in
    let old = c.args.store.now in
    let n = number w old c.args.array in
    let len = c.args.array.len in
    let vs = all_seen w old.cells c.args.args.now in
    let asks = ap has_order (nth_seen w old.cells c.args.args.now 0 ∙ ap (seen w old.cells) (sym c.nth.ensures)) ∙ sym (c.has_order.ensures w old.cells) ∙ c.if-has_order.false in
    refines_same w old old (λ d s. sort n len vs s) (λ d s. charge (list_extra len vs s) s (change n (sorted (elements s n len)) (Own n) s)) native.OutOfFuel c.args.meter.now c.take.new.meter
    (λ fs r d. sort_is n len (image fs r w old) vs (list_extra len vs (image fs r w old)) asks (sym (c.holds_objects.ensures fs r) ∙ c.if-holds_objects.false))
    (refines_wanting w old old (λ s. list_extra len vs s) c.extra-asked.result c.extra-asked.ensures (λ d s. change n (sorted (elements s n len)) (Own n) s) c.args.meter.now c.take.new.meter c.in-Err.ensures.err c.in-Err.ensures.same refl)
