use Rattle.std.proofs.Common.{◌∙◌, ap, sym}
use Rattle.std.specs.List.{join_by}
use Rattle.std.proofs.lemmas.Result.{IfOk-weaker}
use Rattle.widget_meaning.specs.Values.{nth}
use Rattle.widget_meaning.specs.NativeForms.{elements, give_text}
use Rattle.widget_meaning.specs.ListChanges.{list_extra}
use Rattle.widget_meaning.specs.ListNatives.{join, joined_text}
use Rattle.js_image.specs.declared.outcome.Fault.TheVariants as fault
use Rattle.js_image.specs.Image.{all_seen, image, seen}
use Rattle.native_common.proofs.Meeting.{refines_same}
use Rattle.native_common.proofs.Seen.{nth_seen}
use Rattle.list_methods.specs.Arrays.{number}
use Rattle.list_methods.proofs.Meeting.{thrown}
use Rattle.list_methods.proofs.Plans.{join_between, join_is, join_object}
use Rattle.list_methods.proofs.joining.join.Goals as goal

pub returns-then-is_object-clause-native : goal.returns-then-is_object-clause-native
returns-then-is_object-clause-native c =
    let w = c.args.w.index in
    let old = c.args.store.now in
    let n = number w old c.args.array in
    let len = c.args.array.len in
    let vs = all_seen w old.cells c.args.args.now in
    let between = seen w old.cells c.nth-between.result.now in
    thrown w old (λ d s. join n len (nth 0 vs) (list_extra len vs s) s) fault.E4 c.args.meter.now
    (λ fs r d.
    let s = image fs r w old in
    ap (λ x. join n len x (list_extra len vs s) s) (nth_seen w old.cells c.args.args.now 0 ∙ ap (seen w old.cells) (sym c.nth-between.ensures))
    ∙ join_between n len s between (list_extra len vs s) (sym (c.is_object.ensures.object w old.cells) ∙ c.if-is_object.true))

pub returns-then-holds_objects-clause-native : goal.returns-then-holds_objects-clause-native
returns-then-holds_objects-clause-native c =
    let w = c.args.w.index in
    let old = c.args.store.now in
    let n = number w old c.args.array in
    let len = c.args.array.len in
    let vs = all_seen w old.cells c.args.args.now in
    let between = seen w old.cells c.nth-between.result.now in
    thrown w old (λ d s. join n len (nth 0 vs) (list_extra len vs s) s) fault.E4 c.args.meter.now
    (λ fs r d.
    let s = image fs r w old in
    ap (λ x. join n len x (list_extra len vs s) s) (nth_seen w old.cells c.args.args.now 0 ∙ ap (seen w old.cells) (sym c.nth-between.ensures))
    ∙ join_object n len s between (list_extra len vs s) (sym (c.is_object.ensures.object w old.cells) ∙ c.if-is_object.false) (sym (c.holds_objects.ensures fs r) ∙ c.if-holds_objects.true))

pub returns-clause-native : goal.returns-clause-native
returns-clause-native c =
    let w = c.args.w.index in
    let old = c.args.store.now in
    let n = number w old c.args.array in
    let len = c.args.array.len in
    let vs = all_seen w old.cells c.args.args.now in
    let between = seen w old.cells c.nth-between.result.now in
    let text = c.in_ok-separator.separator in
    IfOk-weaker c.give_joined.result _ _ (λ o h. refines_same w old c.give_joined.new.store (λ d s. join n len (nth 0 vs) (list_extra len vs s) s) (λ d s. give_text (list_extra len vs s) (join_by joined_text text (elements s n len)) s) o c.args.meter.now c.give_joined.new.meter
    (λ fs r d.
    let s = image fs r w old in
    ap (λ x. join n len x (list_extra len vs s) s) (nth_seen w old.cells c.args.args.now 0 ∙ ap (seen w old.cells) (sym c.nth-between.ensures))
    ∙ join_is n len s between (list_extra len vs s) (sym (c.is_object.ensures.object w old.cells) ∙ c.if-is_object.false) (sym (c.holds_objects.ensures fs r) ∙ c.if-holds_objects.false)
    ∙ ap (λ t. give_text (list_extra len vs s) (join_by joined_text t (elements s n len)) s) (sym (c.in_ok-separator.ensures w old.cells)))
    (h (λ s. list_extra len vs s) c.extra-asked.ensures)) c.give_joined.ensures.native
