use Rattle.live_text.proofs.Texts.{object_and_feed}
use Rattle.live_text.proofs.laws.object_of_line.Goals as goal

pub returns : goal.returns
returns c = object_and_feed
