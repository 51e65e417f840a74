use Rattle.std.proofs.Common.{ℕ, List, sym, ◌∙◌, arith, subst}
use Rattle.std.specs.Prelude.{◌/◌}
use Rattle.text_methods.proofs.RadixLaws.{IsMaking, making_ends, making_goes, making_starts}
use Rattle.text_methods.proofs.radix.reversed_digits.Goals as goal

pub loop-rest-init : goal.loop-rest-init
loop-rest-init c =
    subst (λ (xs : List ℕ). IsMaking c.args.radix c.args.n c.args.n xs) (sym c.new-units.ensures.items) (making_starts c.args.radix c.args.n (omega arith))

pub loop-rest-preserved : goal.loop-rest-preserved
loop-rest-preserved c =
    subst (λ (xs : List ℕ). IsMaking c.args.radix c.args.n (c.loop-rest.rest / c.args.radix) xs) (sym c.in_ok-push.ensures.items) (making_goes c.args.radix c.args.n c.loop-rest.rest c.digit.result c.loop-rest.units.items c.requires.0 c.loop-rest-test.true c.digit.ensures c.loop-rest.invariant)

pub returns : goal.returns
returns c =
    c.in_ok-push-2.ensures.items ∙ making_ends c.args.radix c.args.n c.loop-rest.rest c.digit-2.result c.loop-rest.units.items c.requires.0 (omega (arith, c.loop-rest-test.false)) c.digit-2.ensures c.loop-rest.invariant
