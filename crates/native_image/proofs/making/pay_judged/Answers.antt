use Rattle.std.proofs.Common.{[]}
use Rattle.native_image.proofs.Lifted.{paid_lift}
use Rattle.native_image.proofs.making.pay_judged.Goals as goal

pub returns-in-Done-clause-paid : goal.returns-in-Done-clause-paid
returns-in-Done-clause-paid c = λ p l holds fs x b.
    paid_lift c.args.w.index c.args.w.small c.args.store.now c.pay_units.new.store p l holds (c.pay_units.ensures.kept []) fs x b c.args.units (λ r go. c.in-Done.ensures.plan fs r go)
