use Rattle.std.proofs.Common.{◌≡◌, ℕ, List, sym, ap, ◌∙◌, length, pos}
use Rattle.widget_meaning.specs.Values.{to_number}
use Rattle.widget_meaning.specs.NativeForms as forms
use Rattle.widget_meaning.specs.TextNatives as texts
use Rattle.js_image.specs.Image.{image, seen}
use Rattle.js_image.specs.declared.outcome.StopCause.TheVariants as cause
use Rattle.native_common.specs.Refines.{Refines}
use Rattle.native_common.specs.Numbers.{counted}
use Rattle.native_common.proofs.Meeting.{refines_same}
use Rattle.plain_natives.proofs.Exits.{numbered, numbered_not, stops, wants_one}
use Rattle.std.proofs.lemmas.Result.{IfOk-weaker}
use mir.Val.{of_z, to_z}
use mir.Syntax.{w64}
use Rattle.std.proofs.Common.{rules}
use Rattle.text_methods.proofs.cutting.char_at.Goals as goal

pub returns-in-Some-clause-native : goal.returns-in-Some-clause-native
returns-in-Some-clause-native c =
    let same : to_z w64 (of_z w64 c.in-Some.z) ≡ c.in-Some.z = search rules in
    IfOk-weaker c.give_units.result (λ o. (n : ℕ) → c.text_len-len.result ≡ counted n → Refines c.args.w.index c.args.store.now c.give_units.new.store c.args.meter.now c.give_units.new.meter (λ d s. forms.give_text n c.unit_at.result.now s) o) (Refines c.args.w.index c.args.store.now c.give_units.new.store c.args.meter.now c.give_units.new.meter (λ d s. texts.char_at c.args.t.now (seen c.args.w.index c.args.store.now.cells c.args.i.now) s))
    (λ o h. refines_same c.args.w.index c.args.store.now c.give_units.new.store (λ d s. texts.char_at c.args.t.now (seen c.args.w.index c.args.store.now.cells c.args.i.now) s) (λ d s. forms.give_text (length c.args.t.now) c.unit_at.result.now s) o c.args.meter.now c.give_units.new.meter
    (λ fs r d. wants_one (seen c.args.w.index c.args.store.now.cells c.args.i.now) (image fs r c.args.w.index c.args.store.now) _ (sym c.if-is_object.false ∙ c.is_object.ensures.object c.args.w.index c.args.store.now.cells)
    ∙ numbered (pos 0) (to_number (seen c.args.w.index c.args.store.now.cells c.args.i.now)) (length c.args.t.now) (image fs r c.args.w.index c.args.store.now) (λ z. forms.give_text (length c.args.t.now) (texts.unit_at c.args.t.now z) (image fs r c.args.w.index c.args.store.now)) c.in-Some.z (c.in-Some.ensures c.args.w.index c.args.store.now.cells)
    ∙ ap (λ (u : List ℕ). forms.give_text (length c.args.t.now) u (image fs r c.args.w.index c.args.store.now)) (sym (c.unit_at.ensures ∙ (λ j. texts.unit_at (c.units.ensures j) (same j)))))
    (h (length c.args.t.now) c.text_len-len.ensures.counted))
    c.give_units.ensures.native

pub returns-in-None-clause-native : goal.returns-in-None-clause-native
returns-in-None-clause-native c =
    stops c.args.w.index c.args.store.now (λ d s. texts.char_at c.args.t.now (seen c.args.w.index c.args.store.now.cells c.args.i.now) s) cause.Number (length c.args.t.now) c.text_len-len.result c.args.meter.now c.charged.new.meter c.charged.result
    (λ plan m. c.charged.ensures c.args.w.index c.args.store.now plan m) c.text_len-len.ensures.counted
    (λ fs r d. wants_one (seen c.args.w.index c.args.store.now.cells c.args.i.now) (image fs r c.args.w.index c.args.store.now) _ (sym c.if-is_object.false ∙ c.is_object.ensures.object c.args.w.index c.args.store.now.cells)
    ∙ numbered_not (pos 0) (to_number (seen c.args.w.index c.args.store.now.cells c.args.i.now)) (length c.args.t.now) (image fs r c.args.w.index c.args.store.now) (λ z. forms.give_text (length c.args.t.now) (texts.unit_at c.args.t.now z) (image fs r c.args.w.index c.args.store.now)) (c.in-None.ensures c.args.w.index c.args.store.now.cells))
