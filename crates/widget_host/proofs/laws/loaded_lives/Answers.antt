use Rattle.widget_host.proofs.Lived.{loads_ended, loads_fed}
use Rattle.widget_host.proofs.laws.loaded_lives.Goals as goal

pub returns-clause-last : goal.returns-clause-last
returns-clause-last c = loads_fed

pub returns-clause-ended : goal.returns-clause-ended
returns-clause-ended c = loads_ended
