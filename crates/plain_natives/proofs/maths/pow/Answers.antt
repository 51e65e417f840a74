use Rattle.std.proofs.Common.{[], ◌≡◌, ◌∷◌, sym, ◌∙◌, arith}
use Rattle.widget_meaning.specs.Values.{to_number}
use Rattle.widget_meaning.specs.Plan.{charge}
use Rattle.widget_meaning.specs.Expressions.{result}
use Rattle.widget_meaning.specs.MathNatives as maths
use Rattle.js_image.specs.Image.{image, seen}
use Rattle.js_values.specs.Operands.{meant_out}
use Rattle.native_common.specs.Numbers.{counted}
use Rattle.plain_natives.proofs.Exits.{operates, wants}
use Rattle.plain_natives.proofs.maths.pow.Goals as goal

pub returns : goal.returns
returns c =
    λ w s.
    let a = seen w s.cells c.args.a.now in let b = seen w s.cells c.args.b.now in
    let asked : c.args.n ≡ counted c.args.n = omega arith in
    operates w s (λ d t. maths.pow (seen w s.cells c.args.a.now) (seen w s.cells c.args.b.now) c.args.n t) (meant_out c.power.result) (maths.power (to_number a) (to_number b)) c.args.n c.args.n c.given.result c.args.meter.now c.charged.new.meter c.charged.result
    (λ plan m. c.charged.ensures w s plan m) asked (c.given.ensures w s)
    (c.power.ensures.value ∙ (λ j. maths.power (c.read_number.ensures w s.cells j) (c.read_number-2.ensures w s.cells j)))
    (λ fs r d. let t = image fs r w s in wants (a ∷ b ∷ []) t (charge c.args.n t (result (maths.power (to_number a) (to_number b)) t)) (sym c.if-either_object.false ∙ c.either_object.ensures w s.cells))
