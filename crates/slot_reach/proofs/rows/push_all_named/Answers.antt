use Rattle.slot_reach.specs.Reads.{named_refs}
use Rattle.slot_reach.proofs.Steps.{next_flat, past_flat}
use Rattle.slot_reach.proofs.rows.push_all_named.Goals as goal

pub keys-preserved : goal.keys-preserved
keys-preserved c =
    next_flat (named_refs c.args.names.now c.args.store.now.cells c.args.cell) c.args.keys.now c.keys.name-index c.name-item.result c.args.out.now.items c.keys.out.items c.push_named.new.out.items c.keys-test.true c.name-item.is c.keys.invariant c.in_ok-push_named.ensures

pub returns : goal.returns
returns c = past_flat (named_refs c.args.names.now c.args.store.now.cells c.args.cell) c.args.keys.now c.keys.name-index c.args.out.now.items c.keys.out.items c.keys-test.false c.keys.invariant
