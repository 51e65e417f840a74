use Rattle.std.proofs.Common.{◌∙◌}
use Rattle.run_steps.specs.Page.{texts}
use Rattle.run_steps.proofs.Names.{flat_more, flat_all, swapped, all_swapped}
use Rattle.run_steps.proofs.steps.swap_files.Goals as goal

pub items-preserved : goal.items-preserved
items-preserved c = flat_more swapped c.args.items.now c.items.item-index c.item-item.result (texts c.items.names.items) (texts c.push_swap.new.names.items) c.items-test.true c.item-item.is c.items.invariant c.in_ok-push_swap.ensures

pub returns : goal.returns
returns c = flat_all swapped c.args.items.now c.items.item-index (texts c.items.names.items) c.items-test.false c.items.invariant ∙ all_swapped c.args.items.now
