use Rattle.widget_host.specs.Housed.{IsHoused, places}
use Rattle.widget_host.proofs.Reading.{grant_kept}
use Rattle.widget_host.proofs.host.Host.turns_keep_to_their_grant.Goals as goal

pub returns : goal.returns
unfolding IsHoused places
returns c = λ housed unmarked v p at is. grant_kept c.args.self.now (housed.1 unmarked) v p at is
