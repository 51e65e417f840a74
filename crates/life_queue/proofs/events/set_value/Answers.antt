use Rattle.native_image.proofs.Keeping.{host_here}
use Rattle.life_queue.proofs.events.set_value.Goals as goal

pub returns-in-None-clause-host : goal.returns-in-None-clause-host
returns-in-None-clause-host c = host_here c.args.page.now
