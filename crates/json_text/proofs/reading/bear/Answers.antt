use Rattle.std.proofs.Common.{ap, sym, ◌∙◌}
use Rattle.serde_json.specs.View.{view}
use Rattle.widget_meaning.specs.Values.{Undefined}
use Rattle.widget_meaning.specs.Costs.{give, pay, sum, units_cost, with_counts}
use Rattle.js_image.specs.Image.{image}
use Rattle.js_image.proofs.Units.{kept_then}
use Rattle.native_common.proofs.Meeting.{ends_here}
use Rattle.json_text.specs.declared.weighing.Weight.{Weight}
use Rattle.json_text.proofs.Born.{paid_state}
use Rattle.json_text.specs.Reading.{weight_cost}
use Rattle.json_text.proofs.Given.{all_given, at_cost, bad_number, born_here, long_text}
use Rattle.json_text.proofs.Wholes.{on_err}
use Rattle.json_text.proofs.reading.bear.Goals as goal

pub returns-then-not-sum-clause-ends : goal.returns-then-not-sum-clause-ends
returns-then-not-sum-clause-ends c = ends_here c.args.w.index c.args.store.now _ _ (λ fs r node d.
    bad_number (view c.args.json.now) (image fs r c.args.w.index c.args.store.now) (ap (λ (a : Weight). a.whole) (sym c.requires) ∙ c.if-not-sum.true)) tt

pub returns-then-not-sum-2-clause-ends : goal.returns-then-not-sum-2-clause-ends
returns-then-not-sum-2-clause-ends c = ends_here c.args.w.index c.args.store.now _ _ (λ fs r node d.
    long_text (view c.args.json.now) (image fs r c.args.w.index c.args.store.now) (ap (λ (a : Weight). a.whole) (sym c.requires) ∙ c.if-not-sum.false) (ap (λ (a : Weight). a.short) (sym c.requires) ∙ c.if-not-sum-2.true)) tt

pub returns-in_err-build-in-Ok-clause-memory : goal.returns-in_err-build-in-Ok-clause-memory
returns-in_err-build-in-Ok-clause-memory c = on_err c.from_residual-in_err-build-in-Ok.result (λ fs. kept_then fs c.args.w.index c.args.store.now c.pay.new.store c.build.new.store (c.pay.ensures.kept fs) (c.build.ensures.kept fs))

pub returns-in-Err-clause-ends : goal.returns-in-Err-clause-ends
returns-in-Err-clause-ends c = ends_here c.args.w.index c.args.store.now _ _ (λ fs r node d.
    at_cost (view c.args.json.now) (image fs r c.args.w.index c.args.store.now) (ap (λ (a : Weight). a.whole) (sym c.requires) ∙ c.if-not-sum.false) (ap (λ (a : Weight). a.short) (sym c.requires) ∙ c.if-not-sum-2.false)
    ∙ ap (λ (a : Weight). pay (weight_cost a) (image fs r c.args.w.index c.args.store.now) (all_given (view c.args.json.now) (image fs r c.args.w.index c.args.store.now))) (sym c.requires)
    ∙ c.in-Err.ensures.stop fs r (all_given (view c.args.json.now) (image fs r c.args.w.index c.args.store.now))) tt

pub returns-in_ok-build-in-Ok-clause-ends : goal.returns-in_ok-build-in-Ok-clause-ends
returns-in_ok-build-in-Ok-clause-ends c = record {
  leaves = λ fs r node d.
      let s = image fs r c.args.w.index c.args.store.now in
      let k = all_given (view c.args.json.now) s in
      at_cost (view c.args.json.now) s (ap (λ (a : Weight). a.whole) (sym c.requires) ∙ c.if-not-sum.false) (ap (λ (a : Weight). a.short) (sym c.requires) ∙ c.if-not-sum-2.false)
      ∙ ap (λ (a : Weight). pay (weight_cost a) s k) (sym c.requires)
      ∙ c.in-Ok.ensures.units.1 fs r k
      ∙ ap (λ (a : Weight). k (with_counts s (sum s.own.counts (weight_cost a)))) c.requires
      ∙ born_here fs r c.args.w.index c.args.store.now c.pay.new.store c.build.new.store (view c.args.json.now) c.in_ok-build-in-Ok.field-0
      (paid_state (units_cost c.in-Ok.units) s (image fs r c.args.w.index c.pay.new.store) (c.in_ok-pay-in-Ok.ensures.paid fs r (give Undefined)) ∙ ap (λ n. with_counts s (sum s.own.counts (units_cost n))) (c.in-Ok.ensures.units.0 ∙ ap (λ (a : Weight). a.units) c.requires))
      (c.in_ok-build-in-Ok.ensures.built fs r);
  fine = c.in_ok-build-in-Ok.ensures.fine;
  kept = λ fs. kept_then fs c.args.w.index c.args.store.now c.pay.new.store c.build.new.store (c.pay.ensures.kept fs) (c.build.ensures.kept fs);
}
