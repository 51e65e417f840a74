use Rattle.page_play.proofs.LawsHold.{begun_law, even_law, told_law, outcome_law}
use Rattle.page_play.proofs.laws.plays_come_to.Goals as goal

pub returns-clause-begun : goal.returns-clause-begun
returns-clause-begun c = begun_law

pub returns-clause-even : goal.returns-clause-even
returns-clause-even c = λ spec swaps items runs files f h p a. even_law spec swaps items runs files f a

pub returns-clause-told : goal.returns-clause-told
returns-clause-told c = λ spec swaps items runs files f h p a. told_law spec swaps items runs files f a h p

pub returns-clause-outcome : goal.returns-clause-outcome
returns-clause-outcome c = λ spec swaps items runs files f h p a. outcome_law spec swaps items runs files f a h p
