use Rattle.std.proofs.Common.{◌∙◌}
use Rattle.js_direct.proofs.Reaching.{converted_ok}
use Rattle.js_direct.proofs.stepping.convert_step.Goals as goal

pub returns : goal.returns
returns c =
    converted_ok c.wait-2.result c.args.op c.args.out.now c.take_value-value.result c.args.here.now.at c.in_ok-boxed.boxed c.args.of.now c.args.run.now c.set_next.new.run c.wait.new.run c.wait-2.new.run c.take_value-value.new.out
    c.requires c.set_next.ensures.units c.set_next.ensures.waits c.set_next.ensures.next c.take_value-value.ensures.taken (c.in_ok-boxed.ensures.ok ∙ c.take_reference.ensures)
    c.in_ok-wait.ensures.waits c.in_ok-wait.ensures.next c.in_ok-wait.ensures.units c.wait-2.ensures.left c.wait-2.ensures.waits c.wait-2.ensures.next c.wait-2.ensures.units
