use Rattle.js_values.proofs.Answered.{charged_answers, free_answers, goes_then, lacking_answers}
use Rattle.js_values.proofs.laws.answers.Goals as goal

pub returns-clause-free : goal.returns-clause-free
returns-clause-free c = free_answers

pub returns-clause-charged : goal.returns-clause-charged
returns-clause-charged c = charged_answers

pub returns-clause-lacking : goal.returns-clause-lacking
returns-clause-lacking c = lacking_answers

pub returns-clause-after : goal.returns-clause-after
returns-clause-after c = goes_then
