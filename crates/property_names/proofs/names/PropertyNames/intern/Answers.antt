use Rattle.property_names.proofs.Seen.{interns_there}
use Rattle.property_names.proofs.names.PropertyNames.intern.Goals as goal

pub returns-in-Some-clause-ok : goal.returns-in-Some-clause-ok
returns-in-Some-clause-ok c = interns_there c.args.self.now c.args.name.now c.in-Some.n c.in-Some.ensures.found
