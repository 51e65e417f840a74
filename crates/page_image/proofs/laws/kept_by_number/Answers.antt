use Rattle.page_image.proofs.Numbering.{kept_there, kept_set}
use Rattle.page_image.proofs.laws.kept_by_number.Goals as goal

pub returns-clause-there : goal.returns-clause-there
returns-clause-there g c = kept_there c.args.page.now

pub returns-clause-set : goal.returns-clause-set
returns-clause-set g c = kept_set c.args.page.now
