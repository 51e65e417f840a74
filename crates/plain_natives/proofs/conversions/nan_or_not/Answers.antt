use Rattle.std.proofs.Common.{sym, ap, ◌∙◌}
use Rattle.widget_meaning.specs.Values.{to_number}
use Rattle.widget_meaning.specs.Plan.{charge}
use Rattle.widget_meaning.specs.Expressions.{result}
use Rattle.widget_meaning.specs.GlobalNatives as globals
use Rattle.js_image.specs.Image.{image, seen}
use Rattle.js_values.specs.Operands.{meant_out}
use Rattle.plain_natives.proofs.Exits.{operates, wants_one}
use Rattle.plain_natives.proofs.conversions.nan_or_not.Goals as goal

pub returns : goal.returns
returns c =
    λ w s.
    let v = seen w s.cells c.args.v.now in
    operates w s (λ d t. globals.of_number v (globals.nan_or_not c.args.nan) t) (meant_out c.truth_of.result) ((globals.nan_or_not c.args.nan) (to_number v)) (globals.units_read v) c.units_read.result c.given.result c.args.meter.now c.charged.new.meter c.charged.result
    (c.charged.ensures w s) (c.units_read.ensures w s.cells) (c.given.ensures w s)
    (c.truth_of.ensures.value ∙ ap (globals.nan_or_not c.args.nan) (c.read_number.ensures w s.cells))
    (λ fs r d. let t = image fs r w s in wants_one v t (charge (globals.units_read v) t (result ((globals.nan_or_not c.args.nan) (to_number v)) t)) (sym c.if-is_object.false ∙ c.is_object.ensures.object w s.cells))
