use Rattle.std.proofs.Common.{ℕ, ap, ◌∙◌}
use Rattle.std.proofs.lemmas.Result.{IfOk-weaker}
use Rattle.store_cells.specs.Cells.{Cells}
use Rattle.widget_meaning.specs.Costs.{give}
use Rattle.widget_meaning.specs.NativeForms as forms
use Rattle.widget_meaning.specs.Values.{Text}
use Rattle.native_common.specs.Refines.{Ends}
use Rattle.widget_meaning.specs.PrototypeNatives as prototypes
use Rattle.js_image.specs.Image.{all_seen, image, seen}
use Rattle.native_common.proofs.Meeting.{ok_free, ok_refines_same}
use Rattle.plain_natives.proofs.Exits.{nth_is}
use Rattle.std.specs.Prelude.{codes}
use Rattle.native_common.specs.Receivers.{receiver}
use Rattle.text_methods.proofs.prototypes.prototype_native.Goals as goal

pub returns-in-ObjectToString-clause-native : goal.returns-in-ObjectToString-clause-native
returns-in-ObjectToString-clause-native c =
    ok_refines_same c.args.w.index c.args.store.now c.object_to_string.new.store (prototypes.prototype_native c.args.which (receiver c.args.w.index c.args.store.now.cells c.args.this.now) (all_seen c.args.w.index c.args.store.now.cells c.args.args.now)) (λ d s. forms.on_object (receiver c.args.w.index c.args.store.now.cells c.args.this.now) s (λ v. prototypes.give_made (codes "[object Object]") s)) c.object_to_string.result c.args.meter.now c.args.meter.now
    (λ fs r d. ap (λ x. prototypes.prototype_native x (receiver c.args.w.index c.args.store.now.cells c.args.this.now) (all_seen c.args.w.index c.args.store.now.cells c.args.args.now) d (image fs r c.args.w.index c.args.store.now)) c.in-ObjectToString.is)
    (ok_free c.args.w.index c.args.store.now c.object_to_string.new.store (λ d s. forms.on_object (receiver c.args.w.index c.args.store.now.cells c.args.this.now) s (λ v. prototypes.give_made (codes "[object Object]") s)) c.object_to_string.result c.args.meter.now c.object_to_string.ensures.native)

pub returns-in-FunctionToString-clause-native : goal.returns-in-FunctionToString-clause-native
returns-in-FunctionToString-clause-native c =
    ok_refines_same c.args.w.index c.args.store.now c.function_to_string.new.store (prototypes.prototype_native c.args.which (receiver c.args.w.index c.args.store.now.cells c.args.this.now) (all_seen c.args.w.index c.args.store.now.cells c.args.args.now)) (λ d s. prototypes.function_to_string (receiver c.args.w.index c.args.store.now.cells c.args.this.now) s) c.function_to_string.result c.args.meter.now c.args.meter.now
    (λ fs r d. ap (λ x. prototypes.prototype_native x (receiver c.args.w.index c.args.store.now.cells c.args.this.now) (all_seen c.args.w.index c.args.store.now.cells c.args.args.now) d (image fs r c.args.w.index c.args.store.now)) c.in-FunctionToString.is)
    (ok_free c.args.w.index c.args.store.now c.function_to_string.new.store (λ d s. prototypes.function_to_string (receiver c.args.w.index c.args.store.now.cells c.args.this.now) s) c.function_to_string.result c.args.meter.now c.function_to_string.ensures.native)

pub returns-in-BooleanToString-clause-native : goal.returns-in-BooleanToString-clause-native
returns-in-BooleanToString-clause-native c =
    ok_refines_same c.args.w.index c.args.store.now c.boolean_to_string.new.store (prototypes.prototype_native c.args.which (receiver c.args.w.index c.args.store.now.cells c.args.this.now) (all_seen c.args.w.index c.args.store.now.cells c.args.args.now)) (λ d s. prototypes.boolean_to_string (receiver c.args.w.index c.args.store.now.cells c.args.this.now) s) c.boolean_to_string.result c.args.meter.now c.args.meter.now
    (λ fs r d. ap (λ x. prototypes.prototype_native x (receiver c.args.w.index c.args.store.now.cells c.args.this.now) (all_seen c.args.w.index c.args.store.now.cells c.args.args.now) d (image fs r c.args.w.index c.args.store.now)) c.in-BooleanToString.is)
    (ok_free c.args.w.index c.args.store.now c.boolean_to_string.new.store (λ d s. prototypes.boolean_to_string (receiver c.args.w.index c.args.store.now.cells c.args.this.now) s) c.boolean_to_string.result c.args.meter.now c.boolean_to_string.ensures.native)

pub returns-in-NumberToString-clause-native : goal.returns-in-NumberToString-clause-native
returns-in-NumberToString-clause-native c =
    ok_refines_same c.args.w.index c.args.store.now c.number_to_string.new.store (prototypes.prototype_native c.args.which (receiver c.args.w.index c.args.store.now.cells c.args.this.now) (all_seen c.args.w.index c.args.store.now.cells c.args.args.now)) (λ d s. prototypes.number_to_string (receiver c.args.w.index c.args.store.now.cells c.args.this.now) (seen c.args.w.index c.args.store.now.cells c.nth.result.now) s) c.number_to_string.result c.args.meter.now c.number_to_string.new.meter
    (λ fs r d. ap (λ x. prototypes.prototype_native x (receiver c.args.w.index c.args.store.now.cells c.args.this.now) (all_seen c.args.w.index c.args.store.now.cells c.args.args.now) d (image fs r c.args.w.index c.args.store.now)) c.in-NumberToString.is
    ∙ ap (λ v. prototypes.number_to_string (receiver c.args.w.index c.args.store.now.cells c.args.this.now) v (image fs r c.args.w.index c.args.store.now)) (nth_is c.args.w.index c.args.store.now.cells c.args.args.now 0 c.nth.result.now c.nth.ensures))
    c.number_to_string.ensures.native

pub returns-in-TextToString-clause-native : goal.returns-in-TextToString-clause-native
returns-in-TextToString-clause-native c =
    ok_refines_same c.args.w.index c.args.store.now c.args.store.now (prototypes.prototype_native c.args.which (receiver c.args.w.index c.args.store.now.cells c.args.this.now) (all_seen c.args.w.index c.args.store.now.cells c.args.args.now)) (λ d s. forms.on_text (receiver c.args.w.index c.args.store.now.cells c.args.this.now) s (λ t. give (Text t) s)) c.text_to_string.result c.args.meter.now c.args.meter.now
    (λ fs r d. ap (λ x. prototypes.prototype_native x (receiver c.args.w.index c.args.store.now.cells c.args.this.now) (all_seen c.args.w.index c.args.store.now.cells c.args.args.now) d (image fs r c.args.w.index c.args.store.now)) c.in-TextToString.is)
    (ok_free c.args.w.index c.args.store.now c.args.store.now (λ d s. forms.on_text (receiver c.args.w.index c.args.store.now.cells c.args.this.now) s (λ t. give (Text t) s)) c.text_to_string.result c.args.meter.now
    (IfOk-weaker c.text_to_string.result (λ o. (w : ℕ) (s : Cells) → Ends w s s (λ d u. forms.on_text (receiver w s.cells c.args.this.now) u (λ t. give (Text t) u)) o) _ (λ o h. h c.args.w.index c.args.store.now) c.text_to_string.ensures))
