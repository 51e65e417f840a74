use Rattle.slot_lives.proofs.Lived.{same_line, same_subtree}
use Rattle.slot_lives.proofs.tidied_laws.tidied_lives.Goals as goal

pub returns : goal.returns
returns c = record { line = same_line; subtree = same_subtree }
