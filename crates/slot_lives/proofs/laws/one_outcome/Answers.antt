use Rattle.std.proofs.Common.{refl}
use Rattle.slot_lives.proofs.OneOutcome.{line_once, come_once, outcome_once, report_once}
use Rattle.slot_lives.proofs.laws.one_outcome.Goals as goal

pub returns-clause-line : goal.returns-clause-line
returns-clause-line c = λ life end a b x y. line_once life end end a b refl x y

pub returns-clause-last : goal.returns-clause-last
returns-clause-last c = λ channels lasts e f x y. come_once channels lasts e f x y

pub returns-clause-outcome : goal.returns-clause-outcome
returns-clause-outcome c = λ channels runs files items r q e f a b x y. outcome_once channels runs files items r q e f a b x y

pub returns-clause-report : goal.returns-clause-report
returns-clause-report c = λ parts channels runs files items r q a b x y. report_once channels runs files items parts r q a b x y
