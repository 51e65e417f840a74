use Rattle.std.proofs.Common.{sym, ap, ◌∙◌}
use Rattle.widget_meaning.specs.Values.{to_number}
use Rattle.widget_meaning.specs.Plan.{charge}
use Rattle.widget_meaning.specs.Expressions.{result}
use Rattle.widget_meaning.specs.GlobalNatives as globals
use Rattle.widget_meaning.specs.Operators as operators
use Rattle.js_image.specs.Image.{image, seen}
use Rattle.js_values.specs.Operands.{meant_out}
use Rattle.plain_natives.proofs.Exits.{operates, wants_one}
use Rattle.code_units.specs.declared.whole.WholeRead.{WholeRead}
use Rattle.plain_natives.proofs.conversions.number.Goals as goal

pub returns : goal.returns
returns c =
    λ w s.
    let v = seen w s.cells c.args.v.now in
    operates w s (λ d t. globals.of_number v (λ x. operators.as_number x (λ z. z)) t) (meant_out c.as_number.result) (operators.as_number (to_number v) (λ z. z)) (globals.units_read v) c.units_read.result c.given.result c.args.meter.now c.charged.new.meter c.charged.result
    (c.charged.ensures w s) (c.units_read.ensures w s.cells) (c.given.ensures w s)
    (c.as_number.ensures.value ∙ ap (λ (x : WholeRead). operators.as_number x (λ z. z)) (c.read_number.ensures w s.cells))
    (λ fs r d. let t = image fs r w s in wants_one v t (charge (globals.units_read v) t (result (operators.as_number (to_number v) (λ z. z)) t)) (sym c.if-is_object.false ∙ c.is_object.ensures.object w s.cells))
