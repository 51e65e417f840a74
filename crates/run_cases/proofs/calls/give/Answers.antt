use Rattle.adhost_run.specs.HostItem.TheVariants as host
use Rattle.run_cases.proofs.Staying.{ready_gave}
use Rattle.run_cases.proofs.calls.give.Goals as goal

pub returns : goal.returns
returns c = ready_gave (host.Advance c.in_ok-ms.ms) c.args.hosted.now c.give.new.self c.requires c.in-Ok.ensures.gives c.give.ensures.housed
