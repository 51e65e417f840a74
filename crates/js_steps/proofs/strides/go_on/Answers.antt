use Rattle.std.proofs.Common.{◌≡◌, ◌+◌, ◌-◌, ℕ, refl, sym, ap, subst, ◌∙◌, arith}
use Rattle.js_image.specs.Image.{image}
use Rattle.js_image.proofs.Grown.{kept_same}
use Rattle.js_names.specs.Code.{trees_of}
use Rattle.js_flow.specs.declared.job.Next.{Next}
use Rattle.js_flow.specs.Frames.{flow_plan}
use Rattle.js_flow.specs.Todo.{Moves, Strides}
use Rattle.js_flow.proofs.Moves.{stays, strides_none}
use Rattle.js_direct.specs.Going.{is_direct}
use Rattle.js_direct.proofs.Reducing.{strides}
use Rattle.js_steps.specs.Tolls.{Halts, IsTolled, next_charge, paid}
use Rattle.js_steps.specs.declared.strides.Toll.{Toll}
use Rattle.js_steps.proofs.Moved.{strides_next, then_free}
use Rattle.js_steps.proofs.Tolls.{flow_ends, flow_moves, next_lighter, no_more, reduced_ends, rest_one}
use Rattle.js_steps.proofs.strides.go_on.Goals as goal

pub in_place-requires-clause-direct : goal.in_place-requires-clause-direct
in_place-requires-clause-direct c = ap is_direct (sym c.next.ensures) ∙ (c.is_in_place.ensures c.if-is_in_place.true).1

pub in_place-requires-clause-units : goal.in_place-requires-clause-units
in_place-requires-clause-units c = ((c.is_in_place.ensures c.if-is_in_place.true).0, c.below-units.ensures.left)

pub returns-then-is_in_place-clause-strides : goal.returns-then-is_in_place-clause-strides
returns-then-is_in_place-clause-strides c = λ r. strides _ _ _ _ (c.in_ok-in_place.ensures.reduces r) (omega (arith, c.in_place.ensures.within, c.below-units.ensures.bound))

pub returns-then-is_in_place-clause-call : goal.returns-then-is_in_place-clause-call
returns-then-is_in_place-clause-call c =
    reduced_ends (trees_of c.args.codes.now.items) c.args.w c.args.store.now c.in_place.new.store c.args.flow.now c.in_place.new.flow _ c.requires.call c.in_ok-in_place.ensures.reduces c.in_ok-in_place.ensures.native

pub returns-then-is_in_place-clause-near : goal.returns-then-is_in_place-clause-near
returns-then-is_in_place-clause-near c = omega (arith, c.in_ok-in_place.ensures.near, rest_one c.in_place.new.flow.next)

pub returns-then-is_in_place-clause-halts : goal.returns-then-is_in_place-clause-halts
returns-then-is_in_place-clause-halts c = λ h. absurd (h refl)

pub go-requires-clause-running : goal.go-requires-clause-running
go-requires-clause-running c =
    (subst (λ (t : Toll). IsTolled c.args.bound.units c.args.bound.first c.args.meter.now c.pay_next.new.meter c.args.flow.now.next t) c.in-Paid.is
    (subst (λ (n : Next). IsTolled c.args.bound.units c.args.bound.first c.args.meter.now c.pay_next.new.meter n c.pay_next.result) c.next-2.ensures c.pay_next.ensures)).0

pub returns-in_ok-go-in-Paid-clause-strides : goal.returns-in_ok-go-in-Paid-clause-strides
returns-in_ok-go-in-Paid-clause-strides c = λ r.
    let w = c.args.w in
    let fs = trees_of c.args.codes.now.items in
    let old = c.args.store.now in
    let l = c.args.flow.now in
    let had = c.args.meter.now.left in
    let has = c.pay_next.new.meter.left in
    let toll = subst (λ (t : Toll). IsTolled c.args.bound.units c.args.bound.first c.args.meter.now c.pay_next.new.meter l.next t) c.in-Paid.is
    (subst (λ (n : Next). IsTolled c.args.bound.units c.args.bound.first c.args.meter.now c.pay_next.new.meter n c.pay_next.result) c.next-2.ensures c.pay_next.ensures) in
    let charge : next_charge l.next ≡ had - has = omega (arith, toll.1) in
    strides_next c.args.bound.units c.args.bound.first had has (image fs r w old) _ _
    (then_free (had - has) (image fs r w old) (image fs r w old) _ _ _
    (subst (λ (n : ℕ). Moves n (image fs r w old) (flow_plan fs w old.cells l (image fs r w old)) (flow_plan fs w old.cells (paid l) (image fs r w old))) charge (flow_moves fs w old.cells l (image fs r w old)))
    (stays (image fs r w old) _ _ (sym (c.in_ok-go-in-Paid.ensures.plan r))))
    (λ u. omega (arith, charge, toll.3 u))

pub returns-in_ok-go-in-Paid-clause-halts : goal.returns-in_ok-go-in-Paid-clause-halts
returns-in_ok-go-in-Paid-clause-halts c = λ h. absurd (h refl)

pub returns-in_ok-go-in-Paid-clause-call : goal.returns-in_ok-go-in-Paid-clause-call
returns-in_ok-go-in-Paid-clause-call c =
    let toll = subst (λ (t : Toll). IsTolled c.args.bound.units c.args.bound.first c.args.meter.now c.pay_next.new.meter c.args.flow.now.next t) c.in-Paid.is
    (subst (λ (n : Next). IsTolled c.args.bound.units c.args.bound.first c.args.meter.now c.pay_next.new.meter n c.pay_next.result) c.next-2.ensures c.pay_next.ensures) in
    flow_ends (trees_of c.args.codes.now.items) c.args.w c.args.store.now c.go.new.store c.args.flow.now c.go.new.flow c.go.ensures.kept.grows c.requires.held toll.0 c.requires.call
    c.in_ok-go-in-Paid.ensures.plan c.in_ok-go-in-Paid.ensures.native

pub returns-in_ok-go-in-Paid-clause-near : goal.returns-in_ok-go-in-Paid-clause-near
returns-in_ok-go-in-Paid-clause-near c =
    let toll = subst (λ (t : Toll). IsTolled c.args.bound.units c.args.bound.first c.args.meter.now c.pay_next.new.meter c.args.flow.now.next t) c.in-Paid.is
    (subst (λ (n : Next). IsTolled c.args.bound.units c.args.bound.first c.args.meter.now c.pay_next.new.meter n c.pay_next.result) c.next-2.ensures c.pay_next.ensures) in
    omega (arith, c.in_ok-go-in-Paid.ensures.near, toll.1, next_lighter c.args.flow.now.next, rest_one c.go.new.flow.next)

pub returns-in_ok-go-in-Paid-clause-less : goal.returns-in_ok-go-in-Paid-clause-less
returns-in_ok-go-in-Paid-clause-less c = λ t.
    let toll = subst (λ (t : Toll). IsTolled c.args.bound.units c.args.bound.first c.args.meter.now c.pay_next.new.meter c.args.flow.now.next t) c.in-Paid.is
    (subst (λ (n : Next). IsTolled c.args.bound.units c.args.bound.first c.args.meter.now c.pay_next.new.meter n c.pay_next.result) c.next-2.ensures c.pay_next.ensures) in
    omega (arith, c.in_ok-go-in-Paid.ensures.near, toll.1, next_lighter c.args.flow.now.next)

pub returns-in_ok-go-in-Paid-clause-spends : goal.returns-in_ok-go-in-Paid-clause-spends
returns-in_ok-go-in-Paid-clause-spends c =
    let toll = subst (λ (t : Toll). IsTolled c.args.bound.units c.args.bound.first c.args.meter.now c.pay_next.new.meter c.args.flow.now.next t) c.in-Paid.is
    (subst (λ (n : Next). IsTolled c.args.bound.units c.args.bound.first c.args.meter.now c.pay_next.new.meter n c.pay_next.result) c.next-2.ensures c.pay_next.ensures) in
    (omega (arith, toll.1), omega (arith, toll.1, toll.2))

pub returns-in_err-go-in-Paid-clause-spends : goal.returns-in_err-go-in-Paid-clause-spends
returns-in_err-go-in-Paid-clause-spends c =
    let toll = subst (λ (t : Toll). IsTolled c.args.bound.units c.args.bound.first c.args.meter.now c.pay_next.new.meter c.args.flow.now.next t) c.in-Paid.is
    (subst (λ (n : Next). IsTolled c.args.bound.units c.args.bound.first c.args.meter.now c.pay_next.new.meter n c.pay_next.result) c.next-2.ensures c.pay_next.ensures) in
    (omega (arith, toll.1), omega (arith, toll.1, toll.2))

pub returns-in_default : goal.returns-in_default
returns-in_default c =
    let w = c.args.w in
    let fs = trees_of c.args.codes.now.items in
    let old = c.args.store.now in
    let l = c.args.flow.now in
    let n = l.next in
    let t = c.pay_next.result in
    let none = no_more c.args.bound.units c.args.bound.first c.args.meter.now c.pay_next.new.meter n t
    (subst (λ (x : Next). IsTolled c.args.bound.units c.args.bound.first c.args.meter.now c.pay_next.new.meter x t) c.next-2.ensures c.pay_next.ensures) c.in_default.not-Paid in
    let had = c.args.meter.now.left in
    let left : had ≡ c.pay_next.new.meter.left = ap (λ m. m.left) (sym none.0) in
    let spent : had + c.args.meter.now.spent ≡ c.pay_next.new.meter.left + c.pay_next.new.meter.spent = ap (λ m. m.left + m.spent) (sym none.0) in
    let zero_spent : 0 ≡ had - c.pay_next.new.meter.left = omega (arith, left) in
    record {
      strides = λ r. subst (λ (m : ℕ). Strides (c.args.bound.units - (c.args.bound.first - had)) m (flow_plan fs w old.cells l (image fs r w old)) (flow_plan fs w old.cells l (image fs r w old))) zero_spent (strides_none _ _ _ refl);
      halts = λ h. subst (λ (m : ℕ). Halts c.args.bound.units (c.args.bound.first - m) m n t) left none.1;
      fine = c.requires.held;
      call = c.requires.call;
      near = omega (arith, left);
      less = λ h. absurd (c.in_default.not-Paid h);
      spends = (omega (arith, left), omega (arith, spent));
      kept = kept_same fs w old old refl;
    }
