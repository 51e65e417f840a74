use Rattle.property_names.proofs.Seen.{number_of_none, number_of_other, on_none}
use Rattle.property_names.proofs.names.PropertyNames.interned.Goals as goal

pub returns-in_err-place : goal.returns-in_err-place
returns-in_err-place c = on_none _ c.from_residual.result c.from_residual.ensures (number_of_none c.self.inside.names c.args.self.now c.args.name.now c.self.view_is c.self.invariant c.requires c.in_err-place.ensures.found)

pub returns : goal.returns
returns c = number_of_other c.self.inside.names c.args.self.now c.args.name.now c.in_ok-place.place c.shifted.result c.self.view_is c.self.invariant c.shifted.ensures c.in_ok-place.ensures.found
