use Rattle.tidy_laws.proofs.Proper as proofs_of
use Rattle.tidy_laws.proofs.respells.Goals as goal

pub returns : goal.returns
returns c = record { spelled = proofs_of.any_spelled; proper = proofs_of.any_proper; no_deeper = proofs_of.tame_spelled; proper_no_deeper = proofs_of.tame_proper }
