use Rattle.run_steps.specs.Page.{entry_name}
use Rattle.run_steps.proofs.Names.{flat_more, flat_all}
use Rattle.run_steps.proofs.steps.slot_names.Goals as goal

pub entries-preserved : goal.entries-preserved
entries-preserved c = flat_more entry_name c.args.entries.now c.entries.entry-index c.entry-item.result c.entries.names.items c.push_name.new.names.items c.entries-test.true c.entry-item.is c.entries.invariant c.in_ok-push_name.ensures

pub returns : goal.returns
returns c = flat_all entry_name c.args.entries.now c.entries.entry-index c.entries.names.items c.entries-test.false c.entries.invariant
