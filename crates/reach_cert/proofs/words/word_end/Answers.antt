use Rattle.std.proofs.Common.{arith}
use Rattle.reach_cert.specs.Words.{is_space}
use Rattle.reach_cert.proofs.Ends.{at_found, at_none}
use Rattle.reach_cert.proofs.words.word_end.Goals as goal

pub returns-in-Some-clause-end : goal.returns-in-Some-clause-end
returns-in-Some-clause-end c = (at_found is_space c.args.text.now _ c.in-Some.ensures).0

pub returns-in-None-clause-end : goal.returns-in-None-clause-end
returns-in-None-clause-end c = at_none is_space c.args.text.now c.in-None.ensures

pub returns-in-Some-clause-within : goal.returns-in-Some-clause-within
returns-in-Some-clause-within c = omega (arith, (at_found is_space c.args.text.now _ c.in-Some.ensures).1)
