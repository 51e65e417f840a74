use Rattle.run_cases.proofs.Staying.{ready_kept}
use Rattle.run_cases.proofs.calls.rounds.Goals as goal

pub returns : goal.returns
returns c = ready_kept c.args.hosted.now c.rounds.new.self c.requires c.rounds.ensures.stays c.rounds.ensures.housed c.in-Ok.ensures.given
