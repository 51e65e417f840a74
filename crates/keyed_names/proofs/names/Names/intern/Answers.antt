use Rattle.keyed_names.proofs.Interning.{interns_same, interns_new}
use Rattle.keyed_names.proofs.names.Names.intern.Goals as goal

-- the name has a number
pub returns-in-Some-clause-ok : goal.returns-in-Some-clause-ok
returns-in-Some-clause-ok c = interns_same c.args.self.now c.args.name.now c.number.result c.in-Some.n c.number.ensures.found c.in-Some.is

-- it gets the next one
pub returns-clause-ok : goal.returns-clause-ok
returns-clause-ok c =
    interns_new c.self.inside.set.keys c.args.self.now c.insert.new.self.keys c.args.name.now c.in_ok-share.field-0 c.len-n.result c.self.view_is c.in_ok-insert.ensures.keys c.in_ok-share.ensures c.in_default.ensures.found c.len-n.ensures.len
