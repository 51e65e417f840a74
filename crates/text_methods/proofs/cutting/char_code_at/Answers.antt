use Rattle.std.proofs.Common.{◌≡◌, sym, ap, ◌∙◌, length, pos}
use Rattle.widget_meaning.specs.Values.{to_number}
use Rattle.widget_meaning.specs.Plan.{charge}
use Rattle.widget_meaning.specs.Costs.{give}
use Rattle.widget_meaning.specs.TextNatives as texts
use Rattle.js_image.specs.Image.{image, seen}
use Rattle.js_values.specs.declared.outcome.NativeOut.TheVariants as native
use Rattle.js_image.specs.declared.outcome.StopCause.TheVariants as cause
use Rattle.native_common.proofs.Meeting.{ends_here}
use Rattle.plain_natives.proofs.Exits.{charged_as, numbered, numbered_not, stops, wants_one}
use Rattle.text_methods.proofs.Small.{small_fine, small_seen}
use mir.Val.{of_z, to_z}
use mir.Syntax.{w64}
use Rattle.std.proofs.Common.{rules}
use Rattle.text_methods.proofs.cutting.char_code_at.Goals as goal

pub returns-in-Some : goal.returns-in-Some
returns-in-Some c =
    let same : to_z w64 (of_z w64 c.in-Some.z) ≡ c.in-Some.z = search rules in
    λ w s. let v = seen w s.cells c.args.i.now in let t = c.args.t.now in
    charged_as w s (λ d x. texts.char_code_at t v x) (λ d x. give (texts.first_code (texts.unit_at t c.in-Some.z)) x) (length t) c.text_len-len.result (native.Value c.first_code.result) c.args.meter.now c.charged.new.meter c.charged.result
    (λ plan m. c.charged.ensures w s plan m) c.text_len-len.ensures.counted
    (ends_here w s (λ d x. give (texts.first_code (texts.unit_at t c.in-Some.z)) x) (native.Value c.first_code.result)
    (λ fs r node d. ap (λ y. give y (image fs r w s)) (sym (small_seen w s.cells c.first_code.result c.first_code.ensures.small ∙ c.first_code.ensures.value ∙ ap texts.first_code (c.unit_at.ensures ∙ (λ j. texts.unit_at (c.units.ensures j) (same j)))))) (small_fine w s.cells c.first_code.result c.first_code.ensures.small))
    (λ fs r d. let x = image fs r w s in wants_one v x _ (sym c.if-is_object.false ∙ c.is_object.ensures.object w s.cells)
    ∙ numbered (pos 0) (to_number v) (length t) x (λ z. charge (length t) x (give (texts.first_code (texts.unit_at t z)) x)) c.in-Some.z (c.in-Some.ensures w s.cells))

pub returns-in-None : goal.returns-in-None
returns-in-None c =
    λ w s. let v = seen w s.cells c.args.i.now in let t = c.args.t.now in
    stops w s (λ d x. texts.char_code_at t v x) cause.Number (length t) c.text_len-len.result c.args.meter.now c.charged-in-None.new.meter c.charged-in-None.result
    (λ plan m. c.charged-in-None.ensures w s plan m) c.text_len-len.ensures.counted
    (λ fs r d. let x = image fs r w s in wants_one v x _ (sym c.if-is_object.false ∙ c.is_object.ensures.object w s.cells)
    ∙ numbered_not (pos 0) (to_number v) (length t) x (λ z. charge (length t) x (give (texts.first_code (texts.unit_at t z)) x)) (c.in-None.ensures w s.cells))
