use Rattle.reach_cert.proofs.Walking.{walks_stay}
use Rattle.reach_cert.proofs.laws.walks_stay.Goals as goal

pub returns : goal.returns
returns c = λ slots confined name ref walk. walks_stay slots confined name ref walk
