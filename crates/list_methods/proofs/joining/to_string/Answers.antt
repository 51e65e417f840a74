use Rattle.std.proofs.Common.{◌+◌, ◌∙◌, ap, sym}
use Rattle.std.specs.List.{join_by}
use Rattle.std.proofs.lemmas.Result.{IfOk-weaker}
use Rattle.widget_meaning.specs.Values.{Text}
use Rattle.widget_meaning.specs.NativeForms.{elements, give_text}
use Rattle.widget_meaning.specs.ListNatives.{joined_text}
use Rattle.widget_meaning.specs.PrototypeNatives.{array_to_string}
use Rattle.std.specs.Prelude.{codes}
use Rattle.std.proofs.Common.{refl}
use Rattle.js_image.specs.declared.outcome.Fault.TheVariants as fault
use Rattle.js_image.specs.Image.{image}
use Rattle.native_common.proofs.Meeting.{refines_same}
use Rattle.list_methods.specs.Arrays.{number}
use Rattle.list_methods.proofs.Meeting.{thrown}
use Rattle.list_methods.proofs.Plans.{join_is, join_object}
use Rattle.list_methods.proofs.joining.to_string.Goals as goal

pub returns-then-holds_objects-clause-native : goal.returns-then-holds_objects-clause-native
returns-then-holds_objects-clause-native c = thrown c.args.w.index c.args.store.now (λ d s. array_to_string (number c.args.w.index c.args.store.now c.args.array) c.args.array.len s) fault.E4 c.args.meter.now (λ fs r d. join_object (number c.args.w.index c.args.store.now c.args.array) c.args.array.len (image fs r c.args.w.index c.args.store.now) (Text (codes ",")) (c.args.array.len + 1) refl (sym (c.holds_objects.ensures fs r) ∙ c.if-holds_objects.true))

pub returns-clause-native : goal.returns-clause-native
returns-clause-native c =
    let w = c.args.w.index in
    let old = c.args.store.now in
    let n = number w old c.args.array in
    let len = c.args.array.len in
    IfOk-weaker c.give_joined.result _ _ (λ o h. refines_same w old c.give_joined.new.store (λ d s. array_to_string n len s) (λ d s. give_text (len + 1) (join_by joined_text c.in_ok-word.field-0 (elements s n len)) s) o c.args.meter.now c.give_joined.new.meter
    (λ fs r d. join_is n len (image fs r w old) (Text (codes ",")) (len + 1) refl (sym (c.holds_objects.ensures fs r) ∙ c.if-holds_objects.false) ∙ ap (λ t. give_text (len + 1) (join_by joined_text t (elements (image fs r w old) n len)) (image fs r w old)) (sym c.in_ok-word.ensures))
    (h (λ s. len + 1) (λ fs r. c.length_and_one.ensures))) c.give_joined.ensures.native
