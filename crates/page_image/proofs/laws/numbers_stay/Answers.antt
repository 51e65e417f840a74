use Rattle.page_image.proofs.Numbering.{stay}
use Rattle.page_image.proofs.laws.numbers_stay.Goals as goal

pub returns : goal.returns
returns c = stay
