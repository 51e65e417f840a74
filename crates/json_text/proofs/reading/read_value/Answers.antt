use Rattle.std.proofs.Common.{ap, sym, ◌∙◌, subst}
use Rattle.std.proofs.lemmas.Result.{IfOk-weaker}
use Rattle.serde_json.specs.View.{view}
use Rattle.widget_meaning.specs.Plan.{charge}
use Rattle.js_image.specs.Image.{image}
use Rattle.js_values.specs.Fuel.{Fuel}
use Rattle.js_values.specs.declared.outcome.NativeOut.TheVariants as native
use Rattle.native_common.specs.Refines.{Refines}
use Rattle.native_common.proofs.Meeting.{ends_here, refines_charged, refines_free, refines_lacking, refines_same}
use Rattle.json_text.specs.declared.weighing.Weight.{Weight}
use Rattle.json_text.specs.Reading.{born_plan, read_plan}
use Rattle.json_text.specs.Weights.{weight}
use Rattle.json_text.proofs.Sums.{plus_first}
use Rattle.json_text.proofs.Given.{bad_names, good_names}
use Rattle.json_text.proofs.reading.read_value.Goals as goal

pub returns-then-not-sum-clause-native : goal.returns-then-not-sum-clause-native
returns-then-not-sum-clause-native c = λ n e.
    refines_free c.args.w.index c.args.store.now c.args.store.now _ _ c.args.meter.now (ends_here c.args.w.index c.args.store.now _ _ (λ fs r node d.
    bad_names (view c.args.json.now) (image fs r c.args.w.index c.args.store.now) n (ap (λ (a : Weight). a.named) (sym (c.in_ok-weigh.ensures ∙ plus_first (weight (view c.args.json.now)))) ∙ c.if-not-sum.true)) tt)

pub returns-in-Err-clause-native : goal.returns-in-Err-clause-native
returns-in-Err-clause-native c = λ n e.
    let s = c.args.store.now in
    let w = c.args.w.index in
    let d = view c.args.json.now in
    refines_same w s s (λ i t. read_plan n d t) (λ i t. charge n t (born_plan d t)) native.OutOfFuel c.args.meter.now c.take.new.meter
    (λ fs r i. good_names d (image fs r w s) n (ap (λ (a : Weight). a.named) (sym (c.in_ok-weigh.ensures ∙ plus_first (weight d))) ∙ c.if-not-sum.false))
    (subst (λ (f : Fuel). Refines w s s c.args.meter.now f (λ i t. charge n t (born_plan d t)) native.OutOfFuel) (sym c.in-Err.ensures.same)
    (refines_lacking w s n (λ i t. born_plan d t) c.args.meter.now (c.in-Err.ensures.err n e)))

pub returns-in-Ok-clause-native : goal.returns-in-Ok-clause-native
returns-in-Ok-clause-native c = IfOk-weaker c.bear.result _ _ (λ o h. λ n e.
    let s = c.args.store.now in
    let w = c.args.w.index in
    let d = view c.args.json.now in
    let paid = c.in-Ok.ensures.ok n e in
    refines_same w s c.bear.new.store (λ i t. read_plan n d t) (λ i t. charge n t (born_plan d t)) o c.args.meter.now c.take.new.meter
    (λ fs r i. good_names d (image fs r w s) n (ap (λ (a : Weight). a.named) (sym (c.in_ok-weigh.ensures ∙ plus_first (weight d))) ∙ c.if-not-sum.false))
    (refines_charged w s c.bear.new.store n (λ i t. born_plan d t) o c.args.meter.now c.take.new.meter paid.0 paid.1 h)) c.bear.ensures.ends
