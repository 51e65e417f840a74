use Rattle.widget_host.specs.Housed.{shared}
use Rattle.widget_host.proofs.Reading.{read_off}
use Rattle.widget_host.proofs.host.Host.images_are_read_off.Goals as goal

pub returns : goal.returns
unfolding shared
returns c = λ v s is at. read_off c.args.self.now v s is at
