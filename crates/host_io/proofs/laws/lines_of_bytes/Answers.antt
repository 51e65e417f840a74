use Rattle.std.proofs.Common.{refl}
use Rattle.host_io.proofs.Cutting.{ended, last}
use Rattle.host_io.proofs.laws.lines_of_bytes.Goals as goal

pub returns : goal.returns
returns c = record { empty = refl; ended = ended; last = last }
