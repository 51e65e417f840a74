use Rattle.permitted_table.proofs.Entries.{stands}
use Rattle.permitted_table.proofs.laws.entries_are_numbered.Goals as goal

pub returns : goal.returns
returns c = stands
