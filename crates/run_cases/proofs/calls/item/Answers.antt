use Rattle.run_cases.proofs.Staying.{ready_given}
use Rattle.run_cases.proofs.calls.item.Goals as goal

pub returns : goal.returns
returns c = ready_given c.args.hosted.now c.item.new.self c.requires c.item.ensures.stays c.item.ensures.housed c.in-Ok.ensures.given
