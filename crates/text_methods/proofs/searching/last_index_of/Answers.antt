use Rattle.std.proofs.Common.{[], ◌≡◌, ℕ, ◌+◌, ◌∷◌, List, sym, ap, ◌∙◌, arith, length, None, pos}
use Rattle.widget_meaning.specs.Values.{to_number, to_text}
use Rattle.widget_meaning.specs.Plan.{charge}
use Rattle.widget_meaning.specs.Costs.{give}
use Rattle.widget_meaning.specs.NativeForms as forms
use Rattle.widget_meaning.specs.TextNatives as texts
use Rattle.js_image.specs.Image.{image, seen}
use Rattle.js_values.specs.declared.outcome.NativeOut.TheVariants as native
use Rattle.js_image.specs.declared.outcome.StopCause.TheVariants as cause
use Rattle.native_common.specs.Numbers as numbers
use Rattle.native_common.specs.Numbers.{counted}
use Rattle.native_common.proofs.Meeting.{ends_here}
use Rattle.plain_natives.proofs.Exits.{charged_as, numbered, numbered_not, stops, wants}
use mir.Val.{of_z, to_z}
use mir.Syntax.{w64}
use Rattle.std.proofs.Common.{rules}
use Rattle.std.specs.Prelude.{nat_le}
use Rattle.std.specs.List.{filter, last_or}
use Rattle.widget_meaning.specs.OwnState.{State}
use Rattle.text_methods.proofs.Small.{small_fine, small_seen}
use Rattle.text_methods.proofs.searching.last_index_of.Goals as goal

pub returns-in_default : goal.returns-in_default
returns-in_default c =
    λ w s.
    let v = seen w s.cells c.args.x.now in let x = seen w s.cells c.args.from.now in
    let text : c.in_ok-text.text ≡ to_text v = c.in_ok-text.ensures w s.cells in
    let n : length c.in_ok-text.text ≡ length (to_text v) = ap (λ (t : List ℕ). length t) text in
    let asked : c.saturating_add-extra.result ≡ counted (length c.args.t.now + length (to_text v)) = omega (arith, n, c.saturating_add-extra.ensures, c.text_len-len.ensures.exact, c.text_len.ensures.exact) in
    let past : to_z w64 (of_z w64 c.end_of.result) ≡ pos (length c.args.t.now) = search (rules, c.end_of.ensures) in
    stops w s (λ d r. texts.last_index_of c.args.t.now v x r) cause.Number (length c.args.t.now + length (to_text v)) c.saturating_add-extra.result c.args.meter.now c.charged.new.meter c.charged.result
    (λ plan m. c.charged.ensures w s plan m) asked
    (λ fs y d. let r = image fs y w s in
    wants (v ∷ x ∷ []) r _ (sym c.if-either_object.false ∙ c.either_object.ensures w s.cells)
    ∙ numbered_not (pos (length c.args.t.now)) (to_number x) (length c.args.t.now + length (to_text v)) r (λ z. charge (length c.args.t.now + length (to_text v)) r (give (texts.found (last_or None (filter (λ i. nat_le i (forms.clamped (length c.args.t.now) z)) (texts.positions c.args.t.now (to_text v))))) r)) (sym c.in_default.is ∙ c.number_or.ensures w s.cells ∙ ap (λ y. numbers.number_or y (to_number x)) past))

pub returns : goal.returns
returns c =
    λ w s.
    let v = seen w s.cells c.args.x.now in let x = seen w s.cells c.args.from.now in
    let text : c.in_ok-text.text ≡ to_text v = c.in_ok-text.ensures w s.cells in
    let n : length c.in_ok-text.text ≡ length (to_text v) = ap (λ (t : List ℕ). length t) text in
    let asked : c.saturating_add-extra.result ≡ counted (length c.args.t.now + length (to_text v)) = omega (arith, n, c.saturating_add-extra.ensures, c.text_len-len.ensures.exact, c.text_len.ensures.exact) in
    let past : to_z w64 (of_z w64 c.end_of.result) ≡ pos (length c.args.t.now) = search (rules, c.end_of.ensures) in
    let same : to_z w64 (of_z w64 c.in-Some.z) ≡ c.in-Some.z = search rules in
    let at : c.clamped-end.result ≡ forms.clamped (length c.args.t.now) c.in-Some.z = c.clamped-end.ensures ∙ (λ j. forms.clamped (c.text_len-len.ensures.exact j) (same j)) in
    let place : c.last_to-last.result ≡ last_or None (filter (λ i. nat_le i (forms.clamped (length c.args.t.now) c.in-Some.z)) (texts.positions c.args.t.now (to_text v))) = c.last_to-last.ensures.value ∙ (λ j. last_or None (filter (λ i. nat_le i (at j)) (texts.positions (c.units.ensures j) ((c.in_ok-needle.ensures ∙ text) j)))) in
    let q = λ (d : ℕ) (r : State). give (texts.found (last_or None (filter (λ i. nat_le i (forms.clamped (length c.args.t.now) c.in-Some.z)) (texts.positions c.args.t.now (to_text v))))) r in
    charged_as w s (λ d r. texts.last_index_of c.args.t.now v x r) q (length c.args.t.now + length (to_text v)) c.saturating_add-extra.result (native.Value c.found.result) c.args.meter.now c.charged-2.new.meter c.charged-2.result
    (λ plan m. c.charged-2.ensures w s plan m) asked
    (ends_here w s q (native.Value c.found.result)
    (λ fs r node d. ap (λ y. give y (image fs r w s)) (sym (small_seen w s.cells c.found.result c.found.ensures.small ∙ c.found.ensures.value ∙ ap texts.found place))) (small_fine w s.cells c.found.result c.found.ensures.small))
    (λ fs y d. let r = image fs y w s in
    wants (v ∷ x ∷ []) r _ (sym c.if-either_object.false ∙ c.either_object.ensures w s.cells)
    ∙ numbered (pos (length c.args.t.now)) (to_number x) (length c.args.t.now + length (to_text v)) r (λ z. charge (length c.args.t.now + length (to_text v)) r (give (texts.found (last_or None (filter (λ i. nat_le i (forms.clamped (length c.args.t.now) z)) (texts.positions c.args.t.now (to_text v))))) r)) c.in-Some.z (c.in-Some.ensures w s.cells ∙ ap (λ y. numbers.number_or y (to_number x)) past))
