use Rattle.tidy_rules.proofs.Accepted.{clean_tame, script_tidied}
use Rattle.tidy_rules.proofs.accepted_is_tame.Goals as goal

pub returns : goal.returns
returns c = record { tame = clean_tame; no_deeper = script_tidied }
