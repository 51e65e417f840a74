use Rattle.reach_cert.proofs.Shaped.{shaped}
use Rattle.reach_cert.proofs.laws.confined_has_shape.Goals as goal

pub returns : goal.returns
returns c = shaped
