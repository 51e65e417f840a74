use Rattle.std.proofs.Common.{arith, refl}
use Rattle.json_text.proofs.Given.{all_fit, cells_stop, slots_stop, units_stop}
use Rattle.json_text.proofs.reading.afford.Goals as goal

pub returns-then-sum-paid-clause-stop : goal.returns-then-sum-paid-clause-stop
returns-then-sum-paid-clause-stop c = λ fs r k.
    units_stop fs r c.args.w.index c.args.store.now c.counts-paid.result c.counts-paid.ensures.paid c.args.sum.now k c.counts-paid.ensures.units (omega arith)

pub returns-then-sum-paid-2-clause-stop : goal.returns-then-sum-paid-2-clause-stop
returns-then-sum-paid-2-clause-stop c = λ fs r k.
    cells_stop fs r c.args.w.index c.args.store.now c.counts-paid.result c.counts-paid.ensures.paid c.args.sum.now k c.counts-paid.ensures.units (omega arith) c.counts-paid.ensures.cells (omega arith)

pub returns-then-sum-paid-3-clause-stop : goal.returns-then-sum-paid-3-clause-stop
returns-then-sum-paid-3-clause-stop c = λ fs r k.
    slots_stop fs r c.args.w.index c.args.store.now c.counts-paid.result c.counts-paid.ensures.paid c.args.sum.now k c.counts-paid.ensures.units (omega arith) c.counts-paid.ensures.cells (omega arith) c.counts-paid.ensures.slots (omega arith)

pub returns-clause-units : goal.returns-clause-units
returns-clause-units c = (
  refl,
  λ fs r k.
      all_fit fs r c.args.w.index c.args.store.now c.counts-paid.result c.counts-paid.ensures.paid c.args.sum.now k c.counts-paid.ensures.units (omega arith) c.counts-paid.ensures.cells (omega arith) c.counts-paid.ensures.slots (omega arith),
)
