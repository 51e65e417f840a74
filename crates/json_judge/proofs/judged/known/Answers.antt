use Rattle.json_judge.proofs.Told.{told_at, told_within}
use Rattle.json_judge.proofs.judged.known.Goals as goal

pub bounds-verdicts-n : goal.bounds-verdicts-n
bounds-verdicts-n c = told_within c.args.texts.now c.args.verdicts.now c.in_ok-n.n c.requires c.in_ok-n.ensures.found.1

pub returns-clause-some : goal.returns-clause-some
returns-clause-some c = told_at c.args.texts.now c.args.verdicts.now c.in_ok-n.n c.args.text.now _ c.requires c.in_ok-n.ensures.found.0
