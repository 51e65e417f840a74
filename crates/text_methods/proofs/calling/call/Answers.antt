use Rattle.std.proofs.Common.{◌≡◌, true, subst, ap, ◌∙◌, None}
use Rattle.widget_meaning.specs.GlobalNatives as globals
use Rattle.widget_meaning.specs.MathNatives as maths
use Rattle.widget_meaning.specs.PrototypeNatives as prototypes
use Rattle.widget_meaning.specs.TextNatives as texts
use Rattle.js_image.specs.Image.{all_seen, image}
use Rattle.native_common.proofs.Meeting.{ok_refines_same}
use Rattle.plain_natives.proofs.Exits.{ok_at}
use Rattle.native_common.specs.Receivers.{receiver}
use Rattle.widget_meaning.specs.Natives.{run_native}
use Rattle.text_methods.specs.Part.{is_part}
use Rattle.text_methods.proofs.Receivers.{global_alone, math_alone}
use Rattle.text_methods.proofs.calling.call.Goals as goal

pub prototype_native-requires-clause-here : goal.prototype_native-requires-clause-here
prototype_native-requires-clause-here c = subst (λ n. is_part n ≡ true) c.in-Prototype.is c.requires.part

pub returns-in-Global-clause-native : goal.returns-in-Global-clause-native
returns-in-Global-clause-native c =
    let this = receiver c.args.w.index c.args.store.now.cells c.args.this.now in
    let vs = all_seen c.args.w.index c.args.store.now.cells c.args.args.now in
    ok_refines_same c.args.w.index c.args.store.now c.global_native.new.store (run_native c.args.which this vs) (globals.global_native c.in-Global.native None vs) c.global_native.result c.args.meter.now c.global_native.new.meter
    (λ fs r d. ap (λ n. run_native n this vs d (image fs r c.args.w.index c.args.store.now)) c.in-Global.is ∙ global_alone c.in-Global.native this vs d (image fs r c.args.w.index c.args.store.now))
    c.global_native.ensures.native

pub returns-in-Math-clause-native : goal.returns-in-Math-clause-native
returns-in-Math-clause-native c =
    let this = receiver c.args.w.index c.args.store.now.cells c.args.this.now in
    let vs = all_seen c.args.w.index c.args.store.now.cells c.args.args.now in
    ok_at c.math_native.result c.args.w.index c.args.store.now c.args.meter.now c.math_native.new.meter (run_native c.args.which this vs) (λ w s. maths.math_native c.in-Math.native None (all_seen w s.cells c.args.args.now))
    (λ fs r d. ap (λ n. run_native n this vs d (image fs r c.args.w.index c.args.store.now)) c.in-Math.is ∙ math_alone c.in-Math.native this vs d (image fs r c.args.w.index c.args.store.now))
    c.math_native.ensures

pub returns-in-Prototype-clause-native : goal.returns-in-Prototype-clause-native
returns-in-Prototype-clause-native c =
    let this = receiver c.args.w.index c.args.store.now.cells c.args.this.now in
    let vs = all_seen c.args.w.index c.args.store.now.cells c.args.args.now in
    ok_refines_same c.args.w.index c.args.store.now c.prototype_native.new.store (run_native c.args.which this vs) (prototypes.prototype_native c.in-Prototype.native this vs) c.prototype_native.result c.args.meter.now c.prototype_native.new.meter
    (λ fs r d. ap (λ n. run_native n this vs d (image fs r c.args.w.index c.args.store.now)) c.in-Prototype.is)
    c.prototype_native.ensures.native

pub returns-in-Text-clause-native : goal.returns-in-Text-clause-native
returns-in-Text-clause-native c =
    let this = receiver c.args.w.index c.args.store.now.cells c.args.this.now in
    let vs = all_seen c.args.w.index c.args.store.now.cells c.args.args.now in
    ok_refines_same c.args.w.index c.args.store.now c.text_native.new.store (run_native c.args.which this vs) (λ d s. texts.text_native c.in-Text.native this vs s) c.text_native.result c.args.meter.now c.text_native.new.meter
    (λ fs r d. ap (λ n. run_native n this vs d (image fs r c.args.w.index c.args.store.now)) c.in-Text.is)
    c.text_native.ensures.native
