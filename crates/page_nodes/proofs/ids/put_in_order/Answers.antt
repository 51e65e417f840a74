use Rattle.page_nodes.proofs.Rising.{put_new, put_old}
use Rattle.page_nodes.proofs.ids.put_in_order.Goals as goal

pub returns-in-Ok-clause-in_order : goal.returns-in-Ok-clause-in_order
returns-in-Ok-clause-in_order c = (put_new c.args.list.now.items c.deref.result.now c.insert.new.self.items c.args.number c.in-Err.place c.binary_search.result c.deref.ensures.value c.requires.in_order c.binary_search.ensures.position c.in-Err.is c.in-Ok.ensures.items).0

pub returns-in-Ok-clause-exact : goal.returns-in-Ok-clause-exact
returns-in-Ok-clause-exact c = (put_new c.args.list.now.items c.deref.result.now c.insert.new.self.items c.args.number c.in-Err.place c.binary_search.result c.deref.ensures.value c.requires.in_order c.binary_search.ensures.position c.in-Err.is c.in-Ok.ensures.items).1

pub returns-in_default-clause-exact : goal.returns-in_default-clause-exact
returns-in_default-clause-exact c = put_old c.args.list.now.items c.deref.result.now c.args.number c.in_default.field-0 c.binary_search.result c.deref.ensures.value c.requires.in_order c.binary_search.ensures.position c.in_default.is
