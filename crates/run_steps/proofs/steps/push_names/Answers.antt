use Rattle.run_steps.specs.Page.{texts}
use Rattle.run_steps.proofs.Names.{names_more, names_all}
use Rattle.run_steps.proofs.steps.push_names.Goals as goal

pub more-preserved : goal.more-preserved
more-preserved c = names_more (texts c.args.names.now.items) c.args.more.now c.more.name-index c.name-item.result c.as_str.result.now (texts c.more.names.items) (texts c.push_copy.new.names.items) c.more-test.true c.name-item.is c.as_str.ensures.value c.more.invariant c.in_ok-push_copy.ensures

pub returns : goal.returns
returns c = names_all (texts c.args.names.now.items) c.args.more.now c.more.name-index (texts c.more.names.items) c.more-test.false c.more.invariant
