use Rattle.std.proofs.Common.{refl}
use Rattle.page_load.proofs.codes.start_of.Goals as goal

pub returns : goal.returns
returns c = record { fuel = refl; scripts = c.in_ok-scripts.ensures }
