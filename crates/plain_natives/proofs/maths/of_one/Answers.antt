use Rattle.std.proofs.Common.{◌≡◌, sym, ap, ◌∙◌, arith, length}
use Rattle.widget_meaning.specs.Values as meaning
use Rattle.widget_meaning.specs.Values.{nth, to_number}
use Rattle.widget_meaning.specs.Plan.{charge}
use Rattle.widget_meaning.specs.Expressions.{result}
use Rattle.widget_meaning.specs.MathNatives as maths
use Rattle.widget_meaning.specs.Operators as operators
use Rattle.js_image.specs.Image.{all_seen, image, seen}
use Rattle.js_values.specs.Operands.{meant_out}
use Rattle.js_image.specs.declared.outcome.Fault.TheVariants as fault
use Rattle.native_common.specs.Numbers.{counted}
use Rattle.plain_natives.proofs.Exits.{nth_is, operates, throws, wants_one, wants_one_not}
use Rattle.plain_natives.specs.Choices as choices
use Rattle.std.proofs.lemmas.List.{length-map}
use Rattle.std.proofs.Common.{rules}
use Rattle.plain_natives.proofs.maths.of_one.Goals as goal

pub returns-then-is_object : goal.returns-then-is_object
returns-then-is_object c =
    λ w s. let vs = all_seen w s.cells c.args.args.now in
    throws w s (λ d t. maths.of_one vs (choices.changed c.args.magnitude) t) fault.E4 c.args.meter.now
    (λ fs r d. let t = image fs r w s in wants_one_not (nth 0 vs) t (charge (length vs) t (result (operators.as_number (to_number (nth 0 vs)) (choices.changed c.args.magnitude)) t)) (sym c.if-is_object.true ∙ c.is_object.ensures.object w s.cells ∙ ap meaning.is_object (sym (nth_is w s.cells c.args.args.now 0 c.args.first.now c.requires))))

pub returns : goal.returns
returns c =
    λ w s. let vs = all_seen w s.cells c.args.args.now in
    let asked : length c.args.args.now ≡ counted (length c.args.args.now) = search (rules, arith) in
    operates w s (λ d t. maths.of_one vs (choices.changed c.args.magnitude) t) (meant_out c.in_ok-out.out) (operators.as_number (to_number (nth 0 vs)) (choices.changed c.args.magnitude)) (length vs) (length c.args.args.now) c.given.result c.args.meter.now c.charged.new.meter c.charged.result
    (λ plan m. c.charged.ensures w s plan m) (asked ∙ ap counted (sym (length-map c.args.args.now (seen w s.cells)))) (c.given.ensures w s)
    (c.in_ok-out.ensures.value ∙ ap (λ x. operators.as_number x (choices.changed c.args.magnitude)) (c.read_number.ensures w s.cells ∙ ap to_number (sym (nth_is w s.cells c.args.args.now 0 c.args.first.now c.requires))))
    (λ fs r d. let t = image fs r w s in wants_one (nth 0 vs) t (charge (length vs) t (result (operators.as_number (to_number (nth 0 vs)) (choices.changed c.args.magnitude)) t)) (sym c.if-is_object.false ∙ c.is_object.ensures.object w s.cells ∙ ap meaning.is_object (sym (nth_is w s.cells c.args.args.now 0 c.args.first.now c.requires))))
