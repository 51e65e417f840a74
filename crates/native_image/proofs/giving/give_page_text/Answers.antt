use Rattle.std.proofs.Common.{subst, sym}
use Rattle.widget_meaning.specs.Costs.{give, make_text}
use Rattle.widget_meaning.specs.Values.{Text}
use Rattle.widget_meaning.specs.Plan.{charge}
use Rattle.js_values.specs.Fuel.{Fuel}
use Rattle.js_values.specs.declared.outcome.NativeOut.TheVariants as native
use Rattle.native_common.specs.Refines.{Refines}
use Rattle.native_common.proofs.Meeting.{refines_charged, refines_lacking}
use Rattle.native_image.proofs.giving.give_page_text.Goals as goal

pub returns-in-Ok-clause-native : goal.returns-in-Ok-clause-native
returns-in-Ok-clause-native c = λ n e.
    refines_charged c.args.w.index c.args.store.now c.make_text.new.store n (λ d s. make_text c.args.text s (give (Text c.args.text))) c.make_text.result c.args.meter.now c.take.new.meter
    (c.in-Ok.ensures.ok n e).0 (c.in-Ok.ensures.ok n e).1 c.make_text.ensures.ends

pub returns-in-Err-clause-native : goal.returns-in-Err-clause-native
returns-in-Err-clause-native c = λ n e.
    subst (λ (f : Fuel). Refines c.args.w.index c.args.store.now c.args.store.now c.args.meter.now f (λ d s. charge n s (make_text c.args.text s (give (Text c.args.text)))) native.OutOfFuel) (sym c.in-Err.ensures.same)
    (refines_lacking c.args.w.index c.args.store.now n (λ d s. make_text c.args.text s (give (Text c.args.text))) c.args.meter.now (c.in-Err.ensures.err n e))
