use Rattle.std.proofs.Common.{refl}
use Rattle.live_lines.proofs.Words.{no_slice}
use Rattle.live_lines.proofs.asking.parse_two.Goals as goal

pub returns-in_default-clause-none : goal.returns-in_default-clause-none
returns-in_default-clause-none c = no_slice c.args.name.now c.args.word.now c.in_default.ensures.none

pub returns-clause-some : goal.returns-clause-some
returns-clause-some c = record { word = c.args.word.now; slice = c.in-Some.slice; are = refl; count = c.in-Some.ensures.some }

pub returns-clause-slice : goal.returns-clause-slice
returns-clause-slice c = c.in-Some.ensures.some.positive
