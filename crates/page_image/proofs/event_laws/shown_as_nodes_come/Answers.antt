use Rattle.page_image.proofs.Changing.{grows}
use Rattle.page_image.proofs.event_laws.shown_as_nodes_come.Goals as goal

pub returns : goal.returns
returns c = grows
