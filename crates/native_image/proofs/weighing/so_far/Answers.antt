use Rattle.std.proofs.Common.{sym, ◌∙◌}
use Rattle.native_image.proofs.Weighed.{counted_here}
use Rattle.native_image.proofs.weighing.so_far.Goals as goal

pub returns : goal.returns
returns c = λ fs x l b.
    let k = c.counts-paid.result in
    counted_here c.args.w.index c.args.store.now c.args.page.now k c.counts-paid.ensures.paid fs x l b
    ∙ (λ j. record { units = k.units; cells = k.cells; slots = k.slots; nodes = sym c.made.ensures.exact j })
