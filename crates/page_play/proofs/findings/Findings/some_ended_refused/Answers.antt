use Rattle.std.proofs.Common.{get_or, length, sym, ap, ◌∙◌, arith}
use Rattle.std.specs.Prelude.{is_some}
use Rattle.page_play.proofs.Telling.{end_refused, ends_step, ends_none, read_default, swap_of_slot}
use Rattle.page_play.proofs.findings.Findings.some_ended_refused.Goals as goal

pub after-requires-clause-slot : goal.after-requires-clause-slot
after-requires-clause-slot c =
    let xs = c.deref-to-items.result.now in
    swap_of_slot c.args.self.now c.swaps.i (get_or xs c.swaps.i 0) c.requires (read_default xs c.args.self.now.swaps.slots.items c.swaps.i c.deref-to-items.ensures.value c.swaps-test.true)

pub returns-then-is_some : goal.returns-then-is_some
returns-then-is_some c =
    let xs = c.deref-to-items.result.now in
    sym (end_refused c.args.self.now c.swaps.i (get_or xs c.swaps.i 0) (read_default xs c.args.self.now.swaps.slots.items c.swaps.i c.deref-to-items.ensures.value c.swaps-test.true)
    (ap is_some (sym c.after.ensures) ∙ sym c.is_some.ensures ∙ c.if-is_some.true))

pub swaps-preserved : goal.swaps-preserved
swaps-preserved c =
    let xs = c.deref-to-items.result.now in
    ends_step c.args.self.now c.swaps.i (get_or xs c.swaps.i 0) (read_default xs c.args.self.now.swaps.slots.items c.swaps.i c.deref-to-items.ensures.value c.swaps-test.true) c.swaps.invariant
    (ap is_some (sym c.after.ensures) ∙ sym c.is_some.ensures ∙ c.if-is_some.false)

pub returns : goal.returns
returns c = sym (ends_none c.args.self.now c.swaps.i (omega (arith, c.swaps-test.false, ap length c.deref-to-items.ensures.value)) c.swaps.invariant)
