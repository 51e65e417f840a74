use Rattle.std.proofs.Common.{◌≡◌, ℕ, sym, ap, ◌∙◌, length, pos}
use Rattle.widget_meaning.specs.NativeForms as forms
use Rattle.js_image.specs.Image.{image, seen}
use Rattle.js_image.specs.declared.outcome.StopCause.TheVariants as cause
use Rattle.native_common.specs.Refines.{Refines}
use Rattle.native_common.specs.Numbers as numbers
use Rattle.native_common.specs.Numbers.{counted}
use Rattle.native_common.proofs.Meeting.{refines_same}
use Rattle.plain_natives.proofs.Exits.{stops}
use Rattle.text_methods.specs.Choices as choices
use Rattle.std.proofs.lemmas.Result.{IfOk-weaker}
use Rattle.text_methods.proofs.Cuts.{cut_last_left, cut_left, cut_made}
use mir.Val.{of_z, to_z}
use mir.Syntax.{w64}
use Rattle.std.proofs.Common.{rules}
use Rattle.text_methods.proofs.cutting.cut.Goals as goal

pub returns-in_default-clause-native : goal.returns-in_default-clause-native
returns-in_default-clause-native c =
    stops c.args.w.index c.args.store.now (λ d s. choices.cut c.args.slice c.args.t.now (seen c.args.w.index c.args.store.now.cells c.args.a.now) (seen c.args.w.index c.args.store.now.cells c.args.b.now) s) cause.Number (length c.args.t.now) c.text_len-len.result c.args.meter.now c.charged.new.meter c.charged.result
    (λ plan m. c.charged.ensures c.args.w.index c.args.store.now plan m) c.text_len-len.ensures.counted
    (λ fs r d. cut_left c.args.slice c.args.t.now (seen c.args.w.index c.args.store.now.cells c.args.a.now) (seen c.args.w.index c.args.store.now.cells c.args.b.now) (image fs r c.args.w.index c.args.store.now) (sym c.if-either_object.false ∙ c.either_object.ensures c.args.w.index c.args.store.now.cells) (sym c.in_default.is ∙ c.number_or.ensures c.args.w.index c.args.store.now.cells))

pub returns-in-Some-optional_number-clause-native : goal.returns-in-Some-optional_number-clause-native
returns-in-Some-optional_number-clause-native c =
    let end : to_z w64 (of_z w64 c.end_of.result) ≡ pos (length c.args.t.now) = search (rules, c.end_of.ensures) in
    let first : to_z w64 (of_z w64 c.in-Some.x) ≡ c.in-Some.x = search rules in
    let last : to_z w64 (of_z w64 c.in-Some-optional_number.y) ≡ c.in-Some-optional_number.y = search rules in
    IfOk-weaker c.give_units.result (λ o. (n : ℕ) → c.text_len-len.result ≡ counted n → Refines c.args.w.index c.args.store.now c.give_units.new.store c.args.meter.now c.give_units.new.meter (λ d s. forms.give_text n c.part.result.now s) o) (Refines c.args.w.index c.args.store.now c.give_units.new.store c.args.meter.now c.give_units.new.meter (λ d s. choices.cut c.args.slice c.args.t.now (seen c.args.w.index c.args.store.now.cells c.args.a.now) (seen c.args.w.index c.args.store.now.cells c.args.b.now) s))
    (λ o h. refines_same c.args.w.index c.args.store.now c.give_units.new.store (λ d s. choices.cut c.args.slice c.args.t.now (seen c.args.w.index c.args.store.now.cells c.args.a.now) (seen c.args.w.index c.args.store.now.cells c.args.b.now) s) (λ d s. forms.give_text (length c.args.t.now) c.part.result.now s) o c.args.meter.now c.give_units.new.meter
    (λ fs r d. cut_made c.args.slice c.args.t.now (seen c.args.w.index c.args.store.now.cells c.args.a.now) (seen c.args.w.index c.args.store.now.cells c.args.b.now) (image fs r c.args.w.index c.args.store.now) c.in-Some.x c.in-Some-optional_number.y c.part.result.now (sym c.if-either_object.false ∙ c.either_object.ensures c.args.w.index c.args.store.now.cells) (c.in-Some.ensures c.args.w.index c.args.store.now.cells) (c.in-Some-optional_number.ensures c.args.w.index c.args.store.now.cells ∙ ap (λ z. numbers.optional_number z (seen c.args.w.index c.args.store.now.cells c.args.b.now)) end) (c.part.ensures ∙ (λ j. choices.part c.args.slice (c.units.ensures j) (first j) (last j))))
    (h (length c.args.t.now) c.text_len-len.ensures.counted))
    c.give_units.ensures.native

pub returns-in-None-clause-native : goal.returns-in-None-clause-native
returns-in-None-clause-native c =
    let end : to_z w64 (of_z w64 c.end_of.result) ≡ pos (length c.args.t.now) = search (rules, c.end_of.ensures) in
    stops c.args.w.index c.args.store.now (λ d s. choices.cut c.args.slice c.args.t.now (seen c.args.w.index c.args.store.now.cells c.args.a.now) (seen c.args.w.index c.args.store.now.cells c.args.b.now) s) cause.Number (length c.args.t.now) c.text_len-len.result c.args.meter.now c.charged-in-None.new.meter c.charged-in-None.result
    (λ plan m. c.charged-in-None.ensures c.args.w.index c.args.store.now plan m) c.text_len-len.ensures.counted
    (λ fs r d. cut_last_left c.args.slice c.args.t.now (seen c.args.w.index c.args.store.now.cells c.args.a.now) (seen c.args.w.index c.args.store.now.cells c.args.b.now) (image fs r c.args.w.index c.args.store.now) c.in-Some.x (sym c.if-either_object.false ∙ c.either_object.ensures c.args.w.index c.args.store.now.cells) (c.in-Some.ensures c.args.w.index c.args.store.now.cells) (c.in-None.ensures c.args.w.index c.args.store.now.cells ∙ ap (λ z. numbers.optional_number z (seen c.args.w.index c.args.store.now.cells c.args.b.now)) end))
