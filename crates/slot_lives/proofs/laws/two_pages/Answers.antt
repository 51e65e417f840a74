use Rattle.slot_lives.proofs.Agreeing.{two_pages}
use Rattle.slot_lives.proofs.laws.two_pages.Goals as goal

pub returns : goal.returns
returns c = two_pages
