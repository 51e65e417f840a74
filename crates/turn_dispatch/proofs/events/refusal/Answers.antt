use Rattle.std.proofs.Common.{arith}
use Rattle.turn_dispatch.proofs.Paying.{all_fit, cells_stop, slots_stop}
use Rattle.turn_dispatch.proofs.events.refusal.Goals as goal

pub returns-then-paid-lt-EVENT_CELLS-clause-stop : goal.returns-then-paid-lt-EVENT_CELLS-clause-stop
returns-then-paid-lt-EVENT_CELLS-clause-stop c = λ fs r k.
    cells_stop fs r c.args.w.index c.args.store.now c.counts-paid.result c.counts-paid.ensures.paid k c.counts-paid.ensures.units c.counts-paid.ensures.cells (omega arith)

pub returns-then-paid-lt-EVENT_SLOTS-clause-stop : goal.returns-then-paid-lt-EVENT_SLOTS-clause-stop
returns-then-paid-lt-EVENT_SLOTS-clause-stop c = λ fs r k.
    slots_stop fs r c.args.w.index c.args.store.now c.counts-paid.result c.counts-paid.ensures.paid k c.counts-paid.ensures.units c.counts-paid.ensures.cells (omega arith) c.counts-paid.ensures.slots (omega arith)

pub returns-clause-fits : goal.returns-clause-fits
returns-clause-fits c = λ none fs r k.
    all_fit fs r c.args.w.index c.args.store.now c.counts-paid.result c.counts-paid.ensures.paid k c.counts-paid.ensures.units c.counts-paid.ensures.cells (omega arith) c.counts-paid.ensures.slots (omega arith)
