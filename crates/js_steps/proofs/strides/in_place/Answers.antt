use Rattle.std.proofs.Common.{◌≡◌, ◌-◌, ℕ, subst, arith}
use Rattle.js_image.specs.Image.{image}
use Rattle.js_names.specs.Code.{trees_of}
use Rattle.js_flow.specs.Frames.{flow_plan}
use Rattle.js_direct.specs.Reduces.{Reduces}
use Rattle.js_steps.proofs.Tolls.{no_native_next}
use Rattle.js_steps.proofs.strides.in_place.Goals as goal

pub unreachable-requires : goal.unreachable-requires
unreachable-requires c = absurd (omega (arith, c.requires.units.1, (c.pay.ensures.no c.if-not-pay.true).0))

pub returns-clause-reduces : goal.returns-clause-reduces
returns-clause-reduces c = λ r.
    let w = c.args.w in
    let fs = trees_of c.args.codes.now.items in
    let old = c.args.store.now in
    let new = c.go.new.store in
    let yes = c.pay.ensures.yes c.if-not-pay.false in
    let spent : c.args.units - c.in_ok-left.left ≡ c.args.meter.now.left - c.pay.new.meter.left = omega (arith, yes.1, c.in_ok-left.ensures.left) in
    subst (λ (n : ℕ). Reduces n (flow_plan fs w old.cells c.args.flow.now (image fs r w old)) (flow_plan fs w new.cells c.go.new.flow (image fs r w new))) spent (c.in_ok-left.ensures.reduces r)

pub returns-clause-native : goal.returns-clause-native
returns-clause-native c = no_native_next _ c.in_ok-left.ensures.native
