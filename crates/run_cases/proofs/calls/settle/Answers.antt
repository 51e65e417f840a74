use Rattle.run_cases.proofs.Staying.{ready_kept}
use Rattle.run_cases.proofs.calls.settle.Goals as goal

pub returns : goal.returns
returns c = ready_kept c.args.hosted.now c.settle.new.self c.requires c.settle.ensures.stays c.settle.ensures.housed c.in-Ok.ensures.given
