use Rattle.widget_host.specs.Housed.{places, shared}
use Rattle.widget_host.proofs.Reading.{holds_own}
use Rattle.widget_host.proofs.host.Host.widgets_hold_their_own.Goals as goal

pub returns : goal.returns
unfolding places shared
returns c = λ housed v l at is. holds_own c.args.self.now housed v l at is
