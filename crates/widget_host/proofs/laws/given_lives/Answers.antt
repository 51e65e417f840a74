use Rattle.widget_host.proofs.Lived.{items_ended, items_last}
use Rattle.widget_host.proofs.laws.given_lives.Goals as goal

pub returns-clause-last : goal.returns-clause-last
returns-clause-last c = items_last

pub returns-clause-ended : goal.returns-clause-ended
returns-clause-ended c = items_ended
