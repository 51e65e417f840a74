use Rattle.std.proofs.Common.{◌∙◌}
use Rattle.native_image.proofs.weighing.settle.Goals as goal

pub returns-then-is_due : goal.returns-then-is_due
returns-then-is_due c = λ fs x l b.
    let e = c.is_due.ensures c.if-is_due.true in
    c.so_far.ensures fs x l b ∙ (λ j. record { units = e.0 j; cells = e.1 j; slots = e.2 j; nodes = e.3 j })
