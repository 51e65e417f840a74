use Rattle.std.specs.Fmt.{decimal}
use Rattle.property_names.proofs.Seen.{number_of_index, ruled_decimal}
use Rattle.property_names.proofs.names.PropertyNames.of_index.Goals as goal

pub returns-clause-number : goal.returns-clause-number
returns-clause-number c = (number_of_index c.self.inside.names c.args.self.now (decimal c.args.i) c.args.i c.self.view_is c.self.invariant (ruled_decimal c.args.i c.requires)).0

pub returns-clause-within : goal.returns-clause-within
returns-clause-within c = (number_of_index c.self.inside.names c.args.self.now (decimal c.args.i) c.args.i c.self.view_is c.self.invariant (ruled_decimal c.args.i c.requires)).1
