use Rattle.std.proofs.Common.{ap, ◌∙◌}
use Rattle.run_steps.specs.Page.{texts, swap_files}
use Rattle.run_steps.proofs.Gotten.{files_step, many_files}
use Rattle.run_steps.proofs.steps.swaps_of.Goals as goal

pub returns-clause-step : goal.returns-clause-step
returns-clause-step g c = files_step g.F.Files.told g.F.Files.calm g.F.Files.faults (swap_files c.args.items.now) (texts c.deref.result.now) c.read_files.result (ap texts c.deref.ensures.value ∙ c.in_ok-names.ensures) c.read_files.ensures.ok c.read_files.ensures.large c.read_files.ensures.stops c.read_files.ensures.reads

pub returns-clause-many : goal.returns-clause-many
returns-clause-many g c = many_files c.read_files.result c.deref.result.now (swap_files c.args.items.now) (ap texts c.deref.ensures.value ∙ c.in_ok-names.ensures) c.read_files.ensures.many
