use Rattle.text_methods.proofs.RadixLaws.{IsMaking}
use Rattle.text_methods.proofs.radix.reversed_digits.Given as goal

abbrev pub invariant-loop-rest : goal.invariant-loop-rest
invariant-loop-rest l = IsMaking l.radix l.n l.rest l.units.items

abbrev pub decreases-loop-rest : goal.decreases-loop-rest
decreases-loop-rest l = l.rest
