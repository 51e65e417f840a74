use Rattle.std.proofs.Common.{arith}
use Rattle.code_units.proofs.LossyChars.{utf8_of-none}
use Rattle.code_units.proofs.utf8.encoded_len.Goals as goal

pub returns : goal.returns
returns c =
    let none = utf8_of-none c.args.units.now c.loop-at.at c.loop-at-test.false in
    omega (arith, none, c.loop-at.invariant.whole)
