use Rattle.std.proofs.Common.{◌≡◌, length, sym, ap, ◌∙◌, subst, arith}
use Rattle.widget_meaning.specs.Values as meaning
use Rattle.widget_meaning.specs.Plan.{charge}
use Rattle.widget_meaning.specs.Costs.{want}
use Rattle.widget_meaning.specs.NativeForms.{give_texts}
use Rattle.widget_meaning.specs.Properties.{keys}
use Rattle.widget_meaning.specs.AdsafeNatives.{keys_native}
use Rattle.js_image.specs.Image.{image, seen}
use Rattle.js_values.specs.Fuel.{Fuel}
use Rattle.js_values.specs.declared.outcome.NativeOut.TheVariants as native
use Rattle.native_common.specs.Refines.{Refines}
use Rattle.native_common.specs.Numbers.{counted}
use Rattle.native_common.proofs.Meeting.{refines_lacking, refines_same, ok_charged, ok_refines_same}
use Rattle.adsafe_object.proofs.objects.keys.Goals as goal

pub returns-in-Err-clause-native : goal.returns-in-Err-clause-native
returns-in-Err-clause-native c =
    let s = c.args.store.now in
    let w = c.args.w.index in
    let o = seen w s.cells c.args.object.now in
    let n = c.keys_len.result in
    let asked : n ≡ counted n = omega arith in
    refines_same w s s (λ d t. keys_native o t) (λ d t. charge n t (give_texts (keys t o) t)) native.OutOfFuel c.args.meter.now c.take.new.meter
    (λ fs r d.
    let t = image fs r w s in
    ap (λ b. want meaning.E4 b t (charge (length (keys t o)) t (give_texts (keys t o) t))) (sym (c.is_object.ensures.object w s.cells) ∙ c.if-not-is_object.false)
    ∙ ap (λ m. charge m t (give_texts (keys t o) t)) (sym (c.keys_len.ensures fs r w c.requires)))
    (subst (λ (f : Fuel). Refines w s s c.args.meter.now f (λ d t. charge n t (give_texts (keys t o) t)) native.OutOfFuel) (sym c.in-Err.ensures.same)
    (refines_lacking w s n (λ d t. give_texts (keys t o) t) c.args.meter.now (c.in-Err.ensures.err n asked)))

pub returns-in_ok-names-in-Ok-clause-native : goal.returns-in_ok-names-in-Ok-clause-native
returns-in_ok-names-in-Ok-clause-native c =
    let s = c.args.store.now in
    let w = c.args.w.index in
    let o = seen w s.cells c.args.object.now in
    let n = c.keys_len.result in
    let asked : n ≡ counted n = omega arith in
    let paid = c.in-Ok.ensures.ok n asked in
    ok_refines_same w s c.give_texts.new.store (λ d t. keys_native o t) (λ d t. charge n t (give_texts c.in_ok-names-in-Ok.names.items t)) c.give_texts.result c.args.meter.now c.take.new.meter
    (λ fs r d.
    let t = image fs r w s in
    ap (λ b. want meaning.E4 b t (charge (length (keys t o)) t (give_texts (keys t o) t))) (sym (c.is_object.ensures.object w s.cells) ∙ c.if-not-is_object.false)
    ∙ ap (λ m. charge m t (give_texts (keys t o) t)) (sym (c.keys_len.ensures fs r w c.requires))
    ∙ ap (λ ks. charge n t (give_texts ks t)) (sym (c.in_ok-names-in-Ok.ensures fs r w c.requires)))
    (ok_charged w s c.give_texts.new.store n (λ d t. give_texts c.in_ok-names-in-Ok.names.items t) c.give_texts.result c.args.meter.now c.take.new.meter paid.0 paid.1 c.give_texts.ensures.ends)
