use Rattle.page_image.proofs.Changing.{stays}
use Rattle.page_image.proofs.event_laws.shown_as_nodes_stay.Goals as goal

pub returns : goal.returns
returns c = stays
