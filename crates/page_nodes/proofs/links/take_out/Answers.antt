use Rattle.std.proofs.Common.{arith, ap, length, ◌∙◌}
use Rattle.page_nodes.proofs.Swap.{taken_found, taken_missed}
use Rattle.page_nodes.proofs.links.take_out.Goals as goal

pub returns-then-place-len-clause-items : goal.returns-then-place-len-clause-items
returns-then-place-len-clause-items c = c.remove.ensures.items ∙ taken_found c.args.number c.args.list.now.items c.deref.result.now c.place_of-place.result c.deref.ensures.value c.requires.once (omega (arith, c.if-place-len.true, c.len.ensures, ap length c.deref.ensures.value, c.args.list.now.ok.0)) c.place_of-place.ensures.found

pub returns-else-place-len-clause-items : goal.returns-else-place-len-clause-items
returns-else-place-len-clause-items c = taken_missed c.args.number c.args.list.now.items c.deref.result.now c.place_of-place.result c.deref.ensures.value (omega (arith, c.if-place-len.false, c.len.ensures, ap length c.deref.ensures.value, c.args.list.now.ok.0)) c.place_of-place.ensures.first
