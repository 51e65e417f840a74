use Rattle.js_names.specs.Code.{trees_of}
use Rattle.js_direct.proofs.going.run_block.Goals as goal

pub returns-clause-comes : goal.returns-clause-comes
returns-clause-comes c =
    c.came.ensures (trees_of c.args.site.now.codes.now.items) c.args.site.now.widget c.args.store.now c.block_on.new.store 1 _ c.args.run.now c.block_on.new.run c.in_ok-how.ensures.comes
