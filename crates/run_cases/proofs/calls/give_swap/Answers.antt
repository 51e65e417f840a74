use Rattle.std.proofs.Common.{◌∙◌, sym}
use Rattle.run_cases.proofs.Staying.{left_few, left_fits, ready_swapped}
use Rattle.run_cases.proofs.calls.give_swap.Goals as goal

pub give_swap-requires-clause-few : goal.give_swap-requires-clause-few
give_swap-requires-clause-few c = left_few c.args.hosted.now c.in-Some.content c.requires (sym c.take.ensures.value ∙ c.in-Some.is)

pub give_swap-requires-clause-loadable : goal.give_swap-requires-clause-loadable
give_swap-requires-clause-loadable c = left_fits c.args.hosted.now c.in-Some.content c.requires (sym c.take.ensures.value ∙ c.in-Some.is)

pub returns : goal.returns
returns c = rw c.take.ensures.after (ready_swapped c.in-Some.content c.args.hosted.now c.give_swap.new.self c.requires c.in-Ok.ensures.gives c.give_swap.ensures.housed)
