use Rattle.std.proofs.Common.{◌∙◌, sym}
use Rattle.property_names.proofs.Seen.{number_of_index}
use Rattle.property_names.proofs.names.PropertyNames.looked_up.Goals as goal

pub returns-in-Some : goal.returns-in-Some
returns-in-Some c = number_of_index c.self.inside.names c.args.self.now c.args.name.now c.in-Some.i c.self.view_is c.self.invariant (sym c.ruled.ensures ∙ c.in-Some.is)
