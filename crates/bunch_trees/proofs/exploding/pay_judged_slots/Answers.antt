use Rattle.std.proofs.Common.{ap}
use Rattle.widget_meaning.specs.Costs.{slots_cost, with_counts}
use Rattle.js_image.specs.Image.{image}
use Rattle.native_image.proofs.Told.{paid_told}
use Rattle.bunch_trees.proofs.exploding.pay_judged_slots.Goals as goal

pub returns-in-Done-clause-paid : goal.returns-in-Done-clause-paid
returns-in-Done-clause-paid c = λ fs r d.
    let w = c.args.w.index in
    ap (λ u. with_counts u d) (paid_told (slots_cost c.args.n) (image fs r w c.args.store.now) (image fs r w c.pay_slots.new.store) (λ k. c.in-Done.ensures.plan fs r k))
