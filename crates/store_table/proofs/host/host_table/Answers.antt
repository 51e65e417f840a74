use Rattle.std.proofs.Common.{refl}
use Rattle.store_table.proofs.host.host_table.Goals as goal

pub table_of-requires-clause-forms : goal.table_of-requires-clause-forms
table_of-requires-clause-forms c = refl

pub table_of-requires-clause-natives : goal.table_of-requires-clause-natives
table_of-requires-clause-natives c = refl

pub table_of-requires-clause-references : goal.table_of-requires-clause-references
table_of-requires-clause-references c = refl

pub table_of-requires-clause-fit_rows : goal.table_of-requires-clause-fit_rows
table_of-requires-clause-fit_rows c = refl

pub table_of-requires-clause-fit_references : goal.table_of-requires-clause-fit_references
table_of-requires-clause-fit_references c = refl
