use Rattle.std.proofs.Common.{None}
use Rattle.explain_run.specs.Steps.{IsTraced, NoTraced}
use Rattle.explain_run.proofs.Stepping.{given_at_once}
use Rattle.explain_run.proofs.steps.try_trace.Goals as goal

pub returns-in-Some : goal.returns-in-Some
returns-in-Some g c = rw c.in-Some.is c.try_named.ensures

pub returns-in-None : goal.returns-in-None
returns-in-None g c = rw c.in-None.is (given_at_once g.F.Files.told g.F.Files.faults tt (λ m t. IsTraced m c.args.names.now None) (λ m. NoTraced m c.args.names.now None) (λ m. tt))
