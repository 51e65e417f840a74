use Rattle.keyed_names.proofs.Interning.{interns_same}
use Rattle.store_table.proofs.table.number_or_new.Goals as goal

pub returns-in-Some-clause-new : goal.returns-in-Some-clause-new
returns-in-Some-clause-new c = interns_same c.args.names.now c.args.name.now c.args.number c.in-Some.n c.requires.number c.in-Some.is
