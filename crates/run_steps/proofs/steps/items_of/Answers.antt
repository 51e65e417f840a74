use Rattle.run_steps.proofs.Gotten.{no_trace_step, none_for}
use Rattle.run_steps.proofs.steps.items_of.Goals as goal

pub returns-in-Some-clause-step : goal.returns-in-Some-clause-step
returns-in-Some-clause-step g c = rw c.in-Some.is c.trace_in.ensures.step

pub returns-in-None-clause-step : goal.returns-in-None-clause-step
returns-in-None-clause-step g c = rw c.in-None.is (no_trace_step g.F.Files.told g.F.Files.calm g.F.Files.faults c.args.names.now c.new.result c.new.ensures.items)

pub returns-in-None-clause-items : goal.returns-in-None-clause-items
returns-in-None-clause-items g c = none_for c.args.names.now c.new.result.items c.new.ensures.items
