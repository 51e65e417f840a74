use Rattle.std.proofs.Common.{subst, sym}
use Rattle.widget_meaning.specs.Plan.{charge}
use Rattle.js_values.specs.Fuel.{Fuel}
use Rattle.js_values.specs.declared.outcome.NativeOut.TheVariants as native
use Rattle.native_common.specs.Refines.{Refines}
use Rattle.native_common.proofs.Meeting.{refines_charged, refines_lacking}
use Rattle.native_image.specs.Charges.{pay_for}
use Rattle.native_image.proofs.charging.begin.Goals as goal

pub returns-in-Done-clause-begun : goal.returns-in-Done-clause-begun
returns-in-Done-clause-begun c = λ n q e is. record {
  left = (c.in-Ok.ensures.ok n e).0;
  spent = (c.in-Ok.ensures.ok n e).1;
  paid = λ fs r k. c.in-Done.ensures.plan q is fs r k;
  kept = c.in-Done.ensures.kept;
}

pub returns-in-Stop-clause-refused : goal.returns-in-Stop-clause-refused
returns-in-Stop-clause-refused c = λ n q k e is.
    refines_charged c.args.w.index c.args.store.now c.pay.new.store n (λ d s. pay_for q s (k d)) (native.Stop c.in-Stop.cause) c.args.meter.now c.take.new.meter
    (c.in-Ok.ensures.ok n e).0 (c.in-Ok.ensures.ok n e).1
    (record { leaves = λ fs r node d. c.in-Stop.ensures.plan q is fs r (k d); fine = tt; kept = c.in-Stop.ensures.kept })

pub returns-in-Err-clause-refused : goal.returns-in-Err-clause-refused
returns-in-Err-clause-refused c = λ n q k e is.
    subst (λ (f : Fuel). Refines c.args.w.index c.args.store.now c.args.store.now c.args.meter.now f (λ d s. charge n s (pay_for q s (k d))) native.OutOfFuel) (sym c.in-Err.ensures.same)
    (refines_lacking c.args.w.index c.args.store.now n (λ d s. pay_for q s (k d)) c.args.meter.now (c.in-Err.ensures.err n e))
