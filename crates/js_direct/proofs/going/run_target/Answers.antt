use Rattle.js_names.specs.Code.{trees_of}
use Rattle.js_direct.proofs.going.run_target.Goals as goal

pub returns-clause-comes : goal.returns-clause-comes
returns-clause-comes c =
    c.reached.ensures (trees_of c.args.site.now.codes.now.items) c.args.site.now.widget c.args.store.now c.target_on.new.store 0 _ c.args.run.now c.target_on.new.run c.in_ok-how.ensures.comes
