use Rattle.reach_cert.proofs.Leaks.{judged_each}
use Rattle.reach_cert.proofs.laws.each_line_is_judged.Goals as goal

pub returns : goal.returns
returns c = judged_each
