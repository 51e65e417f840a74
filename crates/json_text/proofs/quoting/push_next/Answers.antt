use Rattle.std.proofs.Common.{arith}
use Rattle.json_text.proofs.Quoted.{ascii_step, lone_step, pair_step}
use Rattle.json_text.proofs.quoting.push_next.Goals as goal

pub returns-then-unit-lt128 : goal.returns-then-unit-lt128
returns-then-unit-lt128 c = (
  omega arith,
  omega (arith, c.requires),
  ascii_step c.args.units.now c.args.at c.args.out.now.items c.push_escaped.new.out.items c.unit_at-unit.result c.requires c.unit_at-unit.ensures c.if-unit-lt128.true c.in_ok-push_escaped.ensures,
)

pub returns-in_ok-extend_from_slice-in-Some : goal.returns-in_ok-extend_from_slice-in-Some
returns-in_ok-extend_from_slice-in-Some c = (
  omega arith,
  omega (arith, c.in-Some.ensures.within),
  pair_step c.args.units.now c.args.at c.args.out.now.items c.extend_from_slice.new.self.items c.unit_at-unit.result c.in-Some.low c.in-Some.ensures.within c.in-Some.ensures.pair.0 c.unit_at-unit.ensures c.in-Some.ensures.pair.1 c.in_ok-extend_from_slice-in-Some.ensures.items,
)

pub returns-in_ok-push-in-None : goal.returns-in_ok-push-in-None
returns-in_ok-push-in-None c = (
  omega arith,
  omega (arith, c.requires),
  lone_step c.args.units.now c.args.at c.args.out.now.items c.push.new.self.items c.unit_at-unit.result c.alone.result c.requires c.unit_at-unit.ensures (omega arith) (omega (arith, c.if-unit-lt128.false)) c.in-None.ensures.pair c.alone.ensures c.in_ok-push-in-None.ensures.items,
)
