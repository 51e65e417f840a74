use Rattle.place_laws.proofs.Alone.{alone_bare}
use Rattle.place_laws.proofs.places_do_not_matter.Goals as goal

pub returns : goal.returns
returns c = alone_bare
