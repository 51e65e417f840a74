use Rattle.life_split.proofs.LawsHold.{cut_laws}
use Rattle.life_split.proofs.laws.cuts.Goals as goal

pub returns : goal.returns
returns c = λ w items. cut_laws w items
