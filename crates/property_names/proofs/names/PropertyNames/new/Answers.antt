use Rattle.property_names.proofs.Seen.{first_table}
use Rattle.property_names.proofs.names.PropertyNames.new.Goals as goal

pub returns-clause-table : goal.returns-clause-table
returns-clause-table c = first_table c.in_ok-names.names c.in_ok-names.ensures
