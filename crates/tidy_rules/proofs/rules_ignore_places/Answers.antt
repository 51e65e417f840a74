use Rattle.tidy_rules.proofs.Clean.{clean_too}
use Rattle.tidy_rules.proofs.rules_ignore_places.Goals as goal

pub returns : goal.returns
returns c = clean_too
