use Rattle.js_image.proofs.Grown.{kept_paid, kept_same}
use Rattle.js_image.proofs.Pays.{units_done, units_stop}
use Rattle.js_image.proofs.paying.pay_units.Goals as goal

pub returns-in-Ok-clause-plan : goal.returns-in-Ok-clause-plan
returns-in-Ok-clause-plan c = λ fs r go. units_done fs r c.args.w c.args.store.now c.counts-paid.result c.counts-paid.ensures.paid c.counts-paid.ensures.cells c.counts-paid.ensures.slots c.args.n c.charge_units.new.self go c.in-Ok.ensures.ok.allowed c.in-Ok.ensures.own

pub returns-in-Err-clause-plan : goal.returns-in-Err-clause-plan
returns-in-Err-clause-plan c = λ fs r go. units_stop fs r c.args.w c.args.store.now c.counts-paid.result c.counts-paid.ensures.paid c.counts-paid.ensures.cells c.counts-paid.ensures.slots c.args.n _ c.charge_units.new.self go c.in-Err.ensures.err c.in-Err.ensures.same

pub returns-in-Ok-clause-kept : goal.returns-in-Ok-clause-kept
returns-in-Ok-clause-kept c = λ fs. kept_paid fs c.args.w c.args.store.now c.charge_units.new.self 0 c.args.n _ c.in-Ok.ensures.ok c.in-Ok.ensures.own c.in-Ok.ensures.grows c.in-Ok.ensures.others

pub returns-in-Err-clause-kept : goal.returns-in-Err-clause-kept
returns-in-Err-clause-kept c = λ fs. kept_same fs c.args.w c.args.store.now c.charge_units.new.self c.in-Err.ensures.same
