use Rattle.property_names.proofs.Seen.{number_of_other, table_of}
use Rattle.property_names.proofs.names.PropertyNames.number.Goals as goal

pub returns-in-Some-clause-found : goal.returns-in-Some-clause-found
returns-in-Some-clause-found c = number_of_other c.self.inside.names c.args.self.now c.args.name.now c.in-Some.place c.shifted.result c.self.view_is c.self.invariant c.shifted.ensures c.in-Some.ensures.found

pub returns-in-Some-clause-table : goal.returns-in-Some-clause-table
returns-in-Some-clause-table c = table_of c.self.inside.names c.args.self.now c.self.view_is c.self.invariant

pub returns-in-None-clause-table : goal.returns-in-None-clause-table
returns-in-None-clause-table c = table_of c.self.inside.names c.args.self.now c.self.view_is c.self.invariant
