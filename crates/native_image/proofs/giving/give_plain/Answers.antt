use Rattle.std.proofs.Common.{ap, subst, sym}
use Rattle.widget_meaning.specs.Costs.{give}
use Rattle.widget_meaning.specs.Values.{Value}
use Rattle.widget_meaning.specs.Plan.{charge}
use Rattle.js_image.specs.Image.{image}
use Rattle.js_values.specs.Fuel.{Fuel}
use Rattle.js_values.specs.Operands.{plain}
use Rattle.js_values.specs.declared.outcome.NativeOut.TheVariants as native
use Rattle.js_values.proofs.Plain.{plain_fine, seen_plain}
use Rattle.native_common.specs.Refines.{Refines}
use Rattle.native_common.proofs.Meeting.{ends_here, refines_charged, refines_lacking}
use Rattle.native_image.proofs.giving.give_plain.Goals as goal

pub returns-in-Ok-clause-native : goal.returns-in-Ok-clause-native
returns-in-Ok-clause-native c = λ w s n e.
    refines_charged w s s n (λ d t. give (plain c.args.value) t) (native.Value c.args.value) c.args.meter.now c.take.new.meter
    (c.in-Ok.ensures.ok n e).0 (c.in-Ok.ensures.ok n e).1
    (ends_here w s (λ d t. give (plain c.args.value) t) (native.Value c.args.value)
    (λ fs r node d. ap (λ (v : Value). give v (image fs r w s)) (sym (seen_plain w s.cells c.args.value c.requires.primitive)))
    (plain_fine w s.cells c.args.value c.requires.primitive))

pub returns-in-Err-clause-native : goal.returns-in-Err-clause-native
returns-in-Err-clause-native c = λ w s n e.
    subst (λ (f : Fuel). Refines w s s c.args.meter.now f (λ d t. charge n t (give (plain c.args.value) t)) native.OutOfFuel) (sym c.in-Err.ensures.same)
    (refines_lacking w s n (λ d t. give (plain c.args.value) t) c.args.meter.now (c.in-Err.ensures.err n e))
