use Rattle.std.proofs.Common.{get_or, ◌∙◌, eq-eqb, ne_eqb}
use Rattle.page_play.proofs.Finding.{found_here, found_before, found_all, last_less}
use Rattle.page_play.proofs.Telling.{default_same}
use Rattle.page_play.proofs.findings.last_swap.Goals as goal
use Rattle.page_play.proofs.findings.last_swap.Goals.{then-to-w, else-to-w}

pub slots-preserved : goal.slots-preserved
slots-preserved c =
    let slots = c.args.slots.now in
    let i = c.slots.i in
    let to = get_or slots i 0 in
    let is = default_same slots i 0 to c.slots-test.true in
    elim c.if-to-w.branch [
      | then-to-w w ↦ w.last-is ∙ found_here c.args.w slots i to c.slots-test.true is (eq-eqb to c.args.w w.if-to-w.true)
      | else-to-w w ↦ w.last-is ∙ found_before c.args.w slots i to c.slots-test.true is c.slots.last (ne_eqb to c.args.w w.if-to-w.false) c.slots.invariant
    ]

pub returns-clause-value : goal.returns-clause-value
returns-clause-value c = found_all c.args.w c.args.slots.now c.slots.i c.slots.last c.slots-test.false c.slots.invariant

pub returns-clause-within : goal.returns-clause-within
returns-clause-within c = last_less c.args.w c.args.slots.now c.slots.last (found_all c.args.w c.args.slots.now c.slots.i c.slots.last c.slots-test.false c.slots.invariant)
