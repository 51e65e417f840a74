use Rattle.page_image.proofs.Looks.{stands_at, number_low}
use Rattle.page_image.proofs.Numbering.{apart, ordered}
use Rattle.page_image.proofs.Pages.{one_owner}
use Rattle.page_image.proofs.laws.numbers_agree.Goals as goal

pub returns-clause-apart : goal.returns-clause-apart
returns-clause-apart c = apart c.args.page.now

pub returns-clause-order : goal.returns-clause-order
returns-clause-order c = ordered c.args.page.now

pub returns-clause-low : goal.returns-clause-low
returns-clause-low c = number_low c.args.page.now

pub returns-clause-stands : goal.returns-clause-stands
returns-clause-stands c = λ w n h. stands_at c.args.page.now w n h

pub returns-clause-one : goal.returns-clause-one
returns-clause-one c = one_owner c.args.page.now
