use Rattle.std.proofs.Common.{◌≡◌, ◌∙◌, ap, drop, pos, refl, rules, subst, sym}
use Rattle.std.specs.Int.{w64}
use Rattle.std.specs.List.{list_any}
use Rattle.std.specs.Prelude.{◌-◌}
use Rattle.std.proofs.lemmas.Int.{to_z-of_z}
use Rattle.std.proofs.lemmas.List.{drop-map, take-map}
use Rattle.std.proofs.lemmas.Result.{IfOk-weaker}
use mir.Val.{SFits}
use Rattle.widget_meaning.specs.Values.{Number, is_object, to_number}
use Rattle.widget_meaning.specs.Plan.{Halt, charge}
use Rattle.widget_meaning.specs.NativeForms.{clamped, elements, from_end}
use Rattle.widget_meaning.specs.ListChanges.{list_extra, splice, spliced}
use Rattle.js_image.specs.declared.outcome.Fault.TheVariants as fault
use Rattle.js_image.specs.declared.outcome.StopCause.TheVariants as cause
use Rattle.js_image.specs.Held.{AreFine, IsFine}
use Rattle.js_image.specs.Image.{all_seen, image, seen}
use Rattle.js_values.specs.declared.outcome.NativeOut.TheVariants as native
use Rattle.native_common.specs.Numbers.{number_or}
use Rattle.native_common.proofs.Meeting.{ends_here, ends_same, refines_same}
use Rattle.native_common.proofs.Seen.{nth_seen}
use Rattle.list_methods.specs.Arrays.{number}
use Rattle.list_methods.proofs.Lists.{all_left}
use Rattle.list_methods.proofs.Meeting.{refines_taken, refines_wanting, thrown}
use Rattle.list_methods.proofs.Plans.{splice_count_leaves, splice_is, splice_leaves, splice_object}
use Rattle.list_methods.proofs.splicing.splice.Goals as goal

pub returns-then-any_object-clause-native : goal.returns-then-any_object-clause-native
returns-then-any_object-clause-native c =
    let w = c.args.w.index in
    let old = c.args.store.now in
    let n = number w old c.args.array in
    let len = c.args.array.len in
    let vs = all_seen w old.cells c.args.args.now in
    thrown w old (λ d s. splice n len vs s) fault.E4 c.args.meter.now
    (λ fs r d. splice_object n len (image fs r w old) vs (list_extra len vs (image fs r w old)) (ap (list_any is_object) (take-map (seen w old.cells) 2 c.args.args.now ∙ ap (all_seen w old.cells) (sym c.first_two.ensures)) ∙ sym (c.any_object.ensures w old.cells) ∙ c.if-any_object.true))

pub returns-in_default-clause-native : goal.returns-in_default-clause-native
returns-in_default-clause-native c =
    let w = c.args.w.index in
    let old = c.args.store.now in
    let n = number w old c.args.array in
    let len = c.args.array.len in
    let vs = all_seen w old.cells c.args.args.now in
    let primitive = ap (list_any is_object) (take-map (seen w old.cells) 2 c.args.args.now ∙ ap (all_seen w old.cells) (sym c.first_two.ensures)) ∙ sym (c.any_object.ensures w old.cells) ∙ c.if-any_object.false in
    let left = ap (λ v. number_or (pos 0) (to_number v)) (nth_seen w old.cells c.args.args.now 0 ∙ ap (seen w old.cells) (sym c.nth.ensures)) ∙ sym (c.number_or.ensures w old.cells) ∙ c.in_default.is in
    refines_same w old old (λ d s. splice n len vs s) (λ d s. charge (list_extra len vs s) s (Halt Number s)) c.charged.result c.args.meter.now c.charged.new.meter
    (λ fs r d. splice_leaves n len (image fs r w old) vs (list_extra len vs (image fs r w old)) primitive left)
    (c.charged.ensures w old (λ d t. Halt Number t) (λ t. list_extra len vs t) c.extra-asked.ensures (ends_here w old (λ d t. Halt Number t) (native.Stop cause.Number) (λ fs r node d. refl) tt))

pub returns-in_default-count_of-clause-native : goal.returns-in_default-count_of-clause-native
returns-in_default-count_of-clause-native c =
    let w = c.args.w.index in
    let old = c.args.store.now in
    let n = number w old c.args.array in
    let len = c.args.array.len in
    let vs = all_seen w old.cells c.args.args.now in
    let primitive = ap (list_any is_object) (take-map (seen w old.cells) 2 c.args.args.now ∙ ap (all_seen w old.cells) (sym c.first_two.ensures)) ∙ sym (c.any_object.ensures w old.cells) ∙ c.if-any_object.false in
    let place = ap (λ v. number_or (pos 0) (to_number v)) (nth_seen w old.cells c.args.args.now 0 ∙ ap (seen w old.cells) (sym c.nth.ensures)) ∙ sym (c.number_or.ensures w old.cells) ∙ c.in-Some.is in
    refines_same w old old (λ d s. splice n len vs s) (λ d s. charge (list_extra len vs s) s (Halt Number s)) c.charged-in_default-count_of.result c.args.meter.now c.charged-in_default-count_of.new.meter
    (λ fs r d. splice_count_leaves n len (image fs r w old) vs (list_extra len vs (image fs r w old)) primitive c.in-Some.a place (sym (c.count_of.ensures w old.cells) ∙ c.in_default-count_of.is))
    (c.charged-in_default-count_of.ensures w old (λ d t. Halt Number t) (λ t. list_extra len vs t) c.extra-asked.ensures (ends_here w old (λ d t. Halt Number t) (native.Stop cause.Number) (λ fs r node d. refl) tt))

pub spliced-requires-clause-new : goal.spliced-requires-clause-new
spliced-requires-clause-new c = subst (AreFine c.args.w.index c.args.store.now.cells) (sym c.behind_two.ensures) (all_left (IsFine c.args.w.index c.args.store.now.cells) 2 c.args.args.now c.requires.args)

pub returns-in-Ok-clause-native : goal.returns-in-Ok-clause-native
returns-in-Ok-clause-native c =
    let w = c.args.w.index in
    let old = c.args.store.now in
    let new = c.spliced.new.store in
    let m = number w old c.args.array in
    let len = c.args.array.len in
    let vs = all_seen w old.cells c.args.args.now in
    let a = c.in-Some.a in
    let n = c.in-Some-count_of.n in
    let primitive = ap (list_any is_object) (take-map (seen w old.cells) 2 c.args.args.now ∙ ap (all_seen w old.cells) (sym c.first_two.ensures)) ∙ sym (c.any_object.ensures w old.cells) ∙ c.if-any_object.false in
    let place = ap (λ v. number_or (pos 0) (to_number v)) (nth_seen w old.cells c.args.args.now 0 ∙ ap (seen w old.cells) (sym c.nth.ensures)) ∙ sym (c.number_or.ensures w old.cells) ∙ c.in-Some.is in
    let a_fits : SFits w64 c.in-Some.a = search rules in
    let n_fits : SFits w64 c.in-Some-count_of.n = search rules in
    let at : c.cut_of-cut.result.at ≡ from_end len a = c.cut_of-cut.ensures.at ∙ ap (from_end len) (to_z-of_z w64 a a_fits) in
    let count : c.cut_of-cut.result.count ≡ clamped (len - from_end len a) n = c.cut_of-cut.ensures.count ∙ (λ j. clamped (len - from_end len (to_z-of_z w64 a a_fits j)) (to_z-of_z w64 n n_fits j)) in
    IfOk-weaker c.spliced.result _ _ (λ o h. refines_same w old new (λ d s. splice m len vs s) (λ d s. charge (list_extra len vs s) s (spliced m (elements s m len) (from_end len a) (clamped (len - from_end len a) n) (drop 2 vs) s)) o c.args.meter.now c.take.new.meter
    (λ fs r d. splice_is m len (image fs r w old) vs (list_extra len vs (image fs r w old)) primitive a place n (sym (c.count_of.ensures w old.cells) ∙ c.in-Some-count_of.is))
    (refines_taken w old new (λ s. list_extra len vs s) c.extra-asked.result c.extra-asked.ensures (λ d s. spliced m (elements s m len) (from_end len a) (clamped (len - from_end len a) n) (drop 2 vs) s) c.args.meter.now c.take.new.meter o c.in-Ok.ensures.ok
    (ends_same w old new (λ d s. spliced m (elements s m len) (from_end len a) (clamped (len - from_end len a) n) (drop 2 vs) s) (λ d s. spliced m (elements s m len) c.cut_of-cut.result.at c.cut_of-cut.result.count (all_seen w old.cells c.behind_two.result.now) s) o
    (λ fs r d j. spliced m (elements (image fs r w old) m len) (sym at j) (sym count j) ((drop-map (seen w old.cells) 2 c.args.args.now ∙ ap (all_seen w old.cells) (sym c.behind_two.ensures)) j) (image fs r w old)) h))) c.spliced.ensures.native

pub returns-clause-native : goal.returns-clause-native
returns-clause-native c =
    let w = c.args.w.index in
    let old = c.args.store.now in
    let m = number w old c.args.array in
    let len = c.args.array.len in
    let vs = all_seen w old.cells c.args.args.now in
    let a = c.in-Some.a in
    let n = c.in-Some-count_of.n in
    let primitive = ap (list_any is_object) (take-map (seen w old.cells) 2 c.args.args.now ∙ ap (all_seen w old.cells) (sym c.first_two.ensures)) ∙ sym (c.any_object.ensures w old.cells) ∙ c.if-any_object.false in
    let place = ap (λ v. number_or (pos 0) (to_number v)) (nth_seen w old.cells c.args.args.now 0 ∙ ap (seen w old.cells) (sym c.nth.ensures)) ∙ sym (c.number_or.ensures w old.cells) ∙ c.in-Some.is in
    refines_same w old old (λ d s. splice m len vs s) (λ d s. charge (list_extra len vs s) s (spliced m (elements s m len) (from_end len a) (clamped (len - from_end len a) n) (drop 2 vs) s)) native.OutOfFuel c.args.meter.now c.take.new.meter
    (λ fs r d. splice_is m len (image fs r w old) vs (list_extra len vs (image fs r w old)) primitive a place n (sym (c.count_of.ensures w old.cells) ∙ c.in-Some-count_of.is))
    (refines_wanting w old old (λ s. list_extra len vs s) c.extra-asked.result c.extra-asked.ensures (λ d s. spliced m (elements s m len) (from_end len a) (clamped (len - from_end len a) n) (drop 2 vs) s) c.args.meter.now c.take.new.meter c.in-Err.ensures.err c.in-Err.ensures.same refl)
