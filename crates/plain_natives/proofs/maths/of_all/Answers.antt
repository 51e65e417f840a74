use Rattle.std.proofs.Common.{◌≡◌, sym, ap, ◌∙◌, arith, length}
use Rattle.widget_meaning.specs.MathNatives as maths
use Rattle.widget_meaning.specs.Operators as operators
use Rattle.js_image.specs.Image.{all_seen, image, seen}
use Rattle.js_values.specs.Operands.{meant_out}
use Rattle.native_common.specs.Numbers.{counted}
use Rattle.plain_natives.proofs.Exits.{operates, wants}
use Rattle.plain_natives.specs.Choices as choices
use Rattle.std.proofs.Common.{rules}
use Rattle.std.proofs.lemmas.List.{length-map}
use Rattle.code_units.specs.declared.whole.WholeRead.{WholeRead}
use Rattle.plain_natives.proofs.maths.of_all.Goals as goal

pub returns : goal.returns
returns c =
    λ w s. let vs = all_seen w s.cells c.args.args.now in
    let asked : length c.args.args.now ≡ counted (length c.args.args.now) = search (rules, arith) in
    operates w s (λ d t. maths.of_all (all_seen w s.cells c.args.args.now) (choices.better c.args.max) t) (meant_out c.as_number.result) (operators.as_number (maths.best (choices.better c.args.max) vs) (λ z. z)) (length vs) (length c.args.args.now) c.given.result c.args.meter.now c.charged.new.meter c.charged.result
    (λ plan m. c.charged.ensures w s plan m) (asked ∙ ap counted (sym (length-map c.args.args.now (seen w s.cells)))) (c.given.ensures w s)
    (c.as_number.ensures.value ∙ ap (λ (x : WholeRead). operators.as_number x (λ z. z)) (c.best.ensures w s.cells))
    (λ fs r d. wants vs (image fs r w s) _ (sym c.if-any_object.false ∙ c.any_object.ensures w s.cells))
