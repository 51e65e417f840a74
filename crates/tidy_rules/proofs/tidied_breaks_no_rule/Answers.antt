use Rattle.tidy_rules.proofs.Staying.{stays_clean, breaks_none}
use Rattle.tidy_rules.proofs.tidied_breaks_no_rule.Goals as goal

pub returns : goal.returns
returns c = record { clean = stays_clean; no_rule = breaks_none }
