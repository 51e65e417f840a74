use Rattle.adhost_run.proofs.OneAnswer.{answer_once}
use Rattle.adhost_run.proofs.laws.one_answer.Goals as goal

pub returns : goal.returns
returns c = answer_once c.one_answer.ensures.one_cert
