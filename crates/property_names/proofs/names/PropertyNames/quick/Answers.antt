use Rattle.property_names.proofs.Seen.{number_of_other}
use Rattle.property_names.proofs.names.PropertyNames.quick.Goals as goal

pub returns : goal.returns
returns c = number_of_other c.self.inside.names c.args.self.now c.args.name.now c.in_ok-place.place c.shifted.result c.self.view_is c.self.invariant c.shifted.ensures c.in_ok-place.ensures.found
