use Rattle.std.proofs.Common.{ap}
use Rattle.store_cells.specs.declared.value.Value.{Value as StoreValue}
use Rattle.widget_meaning.specs.NativeForms as forms
use Rattle.js_image.specs.Image.{all_seen, image}
use Rattle.js_image.specs.declared.outcome.Fault.TheVariants as fault
use Rattle.native_common.proofs.Meeting.{ok_refines_same}
use Rattle.plain_natives.proofs.Exits.{throws}
use Rattle.widget_meaning.specs.TextNatives as texts
use Rattle.native_common.specs.Receivers.{receiver}
use Rattle.text_methods.proofs.Receivers.{no_text}
use Rattle.text_methods.proofs.calling.text_native.Goals as goal

pub returns-in-Text-clause-native : goal.returns-in-Text-clause-native
returns-in-Text-clause-native c =
    ok_refines_same c.args.w.index c.args.store.now c.text_method.new.store (λ d s. texts.text_native c.args.which (receiver c.args.w.index c.args.store.now.cells c.args.this.now) (all_seen c.args.w.index c.args.store.now.cells c.args.args.now) s) (λ d s. texts.text_method c.args.which c.in-Text.t (all_seen c.args.w.index c.args.store.now.cells c.args.args.now) s) c.text_method.result c.args.meter.now c.text_method.new.meter
    (λ fs r d. ap (λ (x : StoreValue). forms.on_text (receiver c.args.w.index c.args.store.now.cells x) (image fs r c.args.w.index c.args.store.now) (λ t. texts.text_method c.args.which t (all_seen c.args.w.index c.args.store.now.cells c.args.args.now) (image fs r c.args.w.index c.args.store.now))) c.in-Text.is)
    c.text_method.ensures.native

pub returns-in_default-clause-native : goal.returns-in_default-clause-native
returns-in_default-clause-native c =
    throws c.args.w.index c.args.store.now (λ d s. texts.text_native c.args.which (receiver c.args.w.index c.args.store.now.cells c.args.this.now) (all_seen c.args.w.index c.args.store.now.cells c.args.args.now) s) fault.E3 c.args.meter.now
    (λ fs r d. no_text c.args.w.index c.args.store.now.cells c.args.this.now c.in_default.not-Text (image fs r c.args.w.index c.args.store.now) (λ t. texts.text_method c.args.which t (all_seen c.args.w.index c.args.store.now.cells c.args.args.now) (image fs r c.args.w.index c.args.store.now)))
