use Rattle.widget_host.proofs.Lived.{swaps_ended, swaps_last}
use Rattle.widget_host.proofs.laws.swapped_lives.Goals as goal

pub returns-clause-last : goal.returns-clause-last
returns-clause-last c = swaps_last

pub returns-clause-ended : goal.returns-clause-ended
returns-clause-ended c = swaps_ended
