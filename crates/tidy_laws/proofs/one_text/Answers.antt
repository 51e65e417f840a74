use Rattle.tidy_laws.proofs.Places.{one_text}
use Rattle.tidy_laws.proofs.one_text.Goals as goal

pub returns : goal.returns
returns c = one_text
