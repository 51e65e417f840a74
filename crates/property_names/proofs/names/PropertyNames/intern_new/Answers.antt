use Rattle.property_names.proofs.Seen.{new_interns, new_others, new_place, seen_table, table_after}
use Rattle.property_names.proofs.names.PropertyNames.intern_new.Goals as goal

pub returns-in_err-place-clause-table : goal.returns-in_err-place-clause-table
returns-in_err-place-clause-table c = table_after c.self.inside.names c.intern.new.self c.in_err-place.ensures.err c.self.invariant

pub shifted-requires : goal.shifted-requires
shifted-requires c = new_place c.self.inside.names c.args.self.now c.intern.new.self c.args.name.now c.in_ok-place.place c.self.view_is c.self.invariant c.requires.few c.requires.absent c.in_ok-place.ensures.ok

pub invariant_of-self-2 : goal.invariant_of-self-2
invariant_of-self-2 c = new_others c.self.inside.names c.args.self.now c.intern.new.self c.args.name.now c.in_ok-place.place c.self.view_is c.self.invariant c.requires.few c.requires.absent c.in_ok-place.ensures.ok c.in_ok-place.ensures.table

pub returns-clause-ok : goal.returns-clause-ok
returns-clause-ok c = new_interns c.self.inside.names c.args.self.now c.intern.new.self c.args.name.now c.in_ok-place.place c.self.view_is c.self.invariant c.requires.few c.requires.absent c.in_ok-place.ensures.ok c.shifted.result c.shifted.ensures c.in_ok-place.ensures.table

pub returns-clause-table : goal.returns-clause-table
returns-clause-table c = seen_table c.intern.new.self (new_others c.self.inside.names c.args.self.now c.intern.new.self c.args.name.now c.in_ok-place.place c.self.view_is c.self.invariant c.requires.few c.requires.absent c.in_ok-place.ensures.ok c.in_ok-place.ensures.table)
