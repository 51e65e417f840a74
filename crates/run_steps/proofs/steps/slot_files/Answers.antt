use Rattle.run_steps.specs.Page.{texts, entry_file}
use Rattle.run_steps.proofs.Names.{flat_more, flat_all}
use Rattle.run_steps.proofs.steps.slot_files.Goals as goal

pub entries-preserved : goal.entries-preserved
entries-preserved c = flat_more entry_file c.args.entries.now c.entries.entry-index c.entry-item.result (texts c.entries.names.items) (texts c.push_file.new.names.items) c.entries-test.true c.entry-item.is c.entries.invariant c.in_ok-push_file.ensures

pub returns : goal.returns
returns c = flat_all entry_file c.args.entries.now c.entries.entry-index (texts c.entries.names.items) c.entries-test.false c.entries.invariant
