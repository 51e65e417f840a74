use Rattle.slot_check.proofs.OneRule.{markup_once, no_form}
use Rattle.slot_check.proofs.laws.one_markup_rule.Goals as goal

pub returns : goal.returns
returns c = record { first = markup_once; good = no_form }
