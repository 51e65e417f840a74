use Rattle.std.proofs.Common.{arith}
use Rattle.code_units.proofs.LossyChars.{utf8_of-end}
use Rattle.code_units.proofs.UnitsBack.{IsUtf8-utf8_of, units_of-utf8_of}
use Rattle.code_units.proofs.utf8.push_encoded.Goals as goal

pub returns-clause-ok : goal.returns-clause-ok
returns-clause-ok c = utf8_of-end _ c.args.units.now _ c.loop-at.at c.loop-at-test.false c.loop-at.invariant.whole

pub returns-clause-valid : goal.returns-clause-valid
returns-clause-valid c = IsUtf8-utf8_of c.args.units.now (λ i. omega (arith, c.type_inv.units i))

pub returns-clause-back : goal.returns-clause-back
returns-clause-back c = units_of-utf8_of c.args.units.now (λ i. omega (arith, c.type_inv.units i))

pub returns-in_err-at-clause-valid : goal.returns-in_err-at-clause-valid
returns-in_err-at-clause-valid c = IsUtf8-utf8_of c.args.units.now (λ i. omega (arith, c.type_inv.units i))

pub returns-in_err-at-clause-back : goal.returns-in_err-at-clause-back
returns-in_err-at-clause-back c = units_of-utf8_of c.args.units.now (λ i. omega (arith, c.type_inv.units i))
