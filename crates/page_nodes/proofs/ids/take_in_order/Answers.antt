use Rattle.page_nodes.proofs.Rising.{take_old, take_none}
use Rattle.page_nodes.proofs.ids.take_in_order.Goals as goal

pub returns-in-Ok-clause-in_order : goal.returns-in-Ok-clause-in_order
returns-in-Ok-clause-in_order c = (take_old c.args.list.now.items c.deref.result.now _ c.args.number c.in-Ok.place c.binary_search.result c.deref.ensures.value c.requires.in_order c.binary_search.ensures.position c.in-Ok.is c.remove.ensures.items).0

pub returns-in-Ok-clause-exact : goal.returns-in-Ok-clause-exact
returns-in-Ok-clause-exact c = (take_old c.args.list.now.items c.deref.result.now _ c.args.number c.in-Ok.place c.binary_search.result c.deref.ensures.value c.requires.in_order c.binary_search.ensures.position c.in-Ok.is c.remove.ensures.items).1

pub returns-in_default-clause-exact : goal.returns-in_default-clause-exact
returns-in_default-clause-exact c = take_none c.args.list.now.items c.deref.result.now c.args.number c.in_default.field-0 c.binary_search.result c.deref.ensures.value c.requires.in_order c.binary_search.ensures.position c.in_default.is
