use Rattle.js_direct.proofs.Rarer.{waits_to_end}
use Rattle.js_direct.proofs.catching.wait_last.Goals as goal

pub returns : goal.returns
returns c =
    waits_to_end c.wait.result c.args.run.now c.wait.new.run c.in_ok-boxed.boxed c.args.how c.in_ok-boxed.ensures.ok c.wait.ensures.left c.wait.ensures.waits c.wait.ensures.next c.wait.ensures.units
