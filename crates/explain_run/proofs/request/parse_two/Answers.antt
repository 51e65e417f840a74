use Rattle.explain_run.specs.Request.{traced}
use Rattle.explain_run.proofs.request.parse_two.Goals as goal

pub returns : goal.returns
returns c = traced
