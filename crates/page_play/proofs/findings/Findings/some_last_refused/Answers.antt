use Rattle.std.proofs.Common.{sym, ap, ◌∙◌, arith}
use Rattle.std.specs.Prelude.{is_some}
use Rattle.page_play.proofs.Telling.{last_refused, lasts_step, lasts_none}
use Rattle.page_play.proofs.findings.Findings.some_last_refused.Goals as goal

pub returns-then-is_some : goal.returns-then-is_some
returns-then-is_some c = sym (last_refused c.args.self.now c.slots.w (omega (arith, c.slots-test.true, c.len-w-end.ensures)) (ap is_some (sym c.last.ensures) ∙ sym c.is_some.ensures ∙ c.if-is_some.true))

pub slots-preserved : goal.slots-preserved
slots-preserved c = lasts_step c.args.self.now c.slots.w (omega (arith, c.slots-test.true, c.len-w-end.ensures)) c.slots.invariant (ap is_some (sym c.last.ensures) ∙ sym c.is_some.ensures ∙ c.if-is_some.false)

pub returns : goal.returns
returns c = sym (lasts_none c.args.self.now c.slots.w (omega (arith, c.slots-test.false, c.len-w-end.ensures)) c.slots.invariant)
