use Rattle.run_cases.proofs.Staying.{ready_kept}
use Rattle.run_cases.proofs.calls.is_picked.Goals as goal

pub returns : goal.returns
returns c = ready_kept c.args.hosted.now c.pick.new.self c.requires c.pick.ensures.stays c.pick.ensures.housed c.in-Ok.ensures.given
