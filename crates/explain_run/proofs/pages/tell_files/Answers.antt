use Rattle.std.proofs.Common.{arith}
use Rattle.explain_run.proofs.pages.tell_files.Goals as goal

pub split_at-requires : goal.split_at-requires
split_at-requires c = omega (arith, c.requires.within)
