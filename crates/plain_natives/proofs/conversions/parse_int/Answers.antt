use Rattle.std.proofs.Common.{[], ◌≡◌, ℕ, ◌+◌, ◌∷◌, List, sym, ap, ◌∙◌, arith, length, pos}
use Rattle.widget_meaning.specs.Values.{to_number, to_text}
use Rattle.widget_meaning.specs.Plan.{charge}
use Rattle.widget_meaning.specs.Expressions.{result}
use Rattle.widget_meaning.specs.GlobalNatives as globals
use Rattle.js_image.specs.Image.{image, seen}
use Rattle.js_values.specs.Operands.{meant_out}
use Rattle.js_image.specs.declared.outcome.StopCause.TheVariants as cause
use Rattle.native_common.specs.Numbers.{counted}
use Rattle.plain_natives.proofs.Exits.{numbered, numbered_not, operates, stops, wants}
use mir.Val.{of_z, to_z}
use mir.Syntax.{w64}
use Rattle.std.proofs.Common.{rules}
use Rattle.plain_natives.proofs.Parsing.{parsed_of}
use Rattle.plain_natives.proofs.conversions.parse_int.Goals as goal

pub returns-in-Some : goal.returns-in-Some
returns-in-Some c =
    λ w s.
    let v = seen w s.cells c.args.v.now in let x = seen w s.cells c.args.radix.now in
    let text : c.in_ok-text.text ≡ to_text v = c.in_ok-text.ensures w s.cells in
    let same : to_z w64 (of_z w64 c.in-Some.z) ≡ c.in-Some.z = search rules in
    let n : length c.in_ok-text.text ≡ length (to_text v) = ap (λ (t : List ℕ). length t) text in
    let asked : c.saturating_add-extra.result ≡ counted (length (to_text v) + globals.units_read x) = omega (arith, n, c.saturating_add-extra.ensures, c.text_len.ensures.exact, c.units_read.ensures w s.cells) in
    operates w s (λ d t. globals.parse_int v x t) (meant_out c.parsed.result) (parsed_of (to_text v) c.in-Some.z) (length (to_text v) + globals.units_read x) c.saturating_add-extra.result c.given.result c.args.meter.now c.charged.new.meter c.charged.result
    (λ plan m. c.charged.ensures w s plan m) asked (c.given.ensures w s)
    (c.parsed.ensures.value ∙ (λ j. parsed_of ((c.units.ensures ∙ text) j) (same j)))
    (λ fs r d. let t = image fs r w s in
    wants (v ∷ x ∷ []) t _ (sym c.if-either_object.false ∙ c.either_object.ensures w s.cells)
    ∙ numbered (pos 0) (to_number x) (length (to_text v) + globals.units_read x) t (λ z. charge (length (to_text v) + globals.units_read x) t (result (parsed_of (to_text v) z) t)) c.in-Some.z (c.in-Some.ensures w s.cells))

pub returns : goal.returns
returns c =
    λ w s.
    let v = seen w s.cells c.args.v.now in let x = seen w s.cells c.args.radix.now in
    let text : c.in_ok-text.text ≡ to_text v = c.in_ok-text.ensures w s.cells in
    let n : length c.in_ok-text.text ≡ length (to_text v) = ap (λ (t : List ℕ). length t) text in
    let asked : c.saturating_add-extra.result ≡ counted (length (to_text v) + globals.units_read x) = omega (arith, n, c.saturating_add-extra.ensures, c.text_len.ensures.exact, c.units_read.ensures w s.cells) in
    stops w s (λ d t. globals.parse_int v x t) cause.Number (length (to_text v) + globals.units_read x) c.saturating_add-extra.result c.args.meter.now c.charged-in-None.new.meter c.charged-in-None.result
    (λ plan m. c.charged-in-None.ensures w s plan m) asked
    (λ fs r d. let t = image fs r w s in
    wants (v ∷ x ∷ []) t _ (sym c.if-either_object.false ∙ c.either_object.ensures w s.cells)
    ∙ numbered_not (pos 0) (to_number x) (length (to_text v) + globals.units_read x) t (λ z. charge (length (to_text v) + globals.units_read x) t (result (parsed_of (to_text v) z) t)) (c.in-None.ensures w s.cells))
