use Rattle.run_steps.specs.Page.{cert_limit}
use Rattle.run_steps.proofs.Gotten.{bytes_step}
use Rattle.run_steps.proofs.steps.cert_in.Goals as goal

pub returns-clause-step : goal.returns-clause-step
returns-clause-step g c = bytes_step g.F.Files.told g.F.Files.calm g.F.Files.faults c.args.name.now cert_limit c.read_file.result c.read_file.ensures.ok c.read_file.ensures.within c.read_file.ensures.large c.read_file.ensures.stops c.read_file.ensures.reads
