use Rattle.page_live.proofs.Entering.{slots_all, slots_more}
use Rattle.page_live.proofs.session.push_slots.Goals as goal

pub entries-preserved : goal.entries-preserved
entries-preserved c = slots_more c.args.entries.now c.entries.entry-index c.entry-item.result c.args.out.now.items c.entries.out.items c.push_slot.new.out.items c.entries-test.true c.entry-item.is c.entries.invariant c.in_ok-push_slot.ensures

pub returns : goal.returns
returns c = slots_all c.args.entries.now c.entries.entry-index c.args.out.now.items c.entries.out.items c.entries-test.false c.entries.invariant
