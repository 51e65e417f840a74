use Rattle.page_live.proofs.Unlinked.{unlinked}
use Rattle.page_live.proofs.laws.live_pages.Goals as goal

pub returns : goal.returns
returns c = λ spec swaps items h none l. unlinked spec swaps items h none l
