use Rattle.js_image.proofs.Grown.{kept_paid, kept_same}
use Rattle.js_image.proofs.Pays.{slots_done, slots_stop}
use Rattle.js_image.proofs.paying.pay_slots.Goals as goal

pub returns-in-Ok-clause-plan : goal.returns-in-Ok-clause-plan
returns-in-Ok-clause-plan c = λ fs r go. slots_done fs r c.args.w c.args.store.now c.counts-paid.result c.counts-paid.ensures.paid c.counts-paid.ensures.units c.counts-paid.ensures.cells c.args.n c.charge_slots.new.self go c.in-Ok.ensures.ok.allowed c.in-Ok.ensures.own

pub returns-in-Err-clause-plan : goal.returns-in-Err-clause-plan
returns-in-Err-clause-plan c = λ fs r go. slots_stop fs r c.args.w c.args.store.now c.counts-paid.result c.counts-paid.ensures.paid c.counts-paid.ensures.units c.counts-paid.ensures.cells c.args.n _ c.charge_slots.new.self go c.in-Err.ensures.err c.in-Err.ensures.same

pub returns-in-Ok-clause-kept : goal.returns-in-Ok-clause-kept
returns-in-Ok-clause-kept c = λ fs. kept_paid fs c.args.w c.args.store.now c.charge_slots.new.self c.args.n 0 _ c.in-Ok.ensures.ok c.in-Ok.ensures.own c.in-Ok.ensures.grows c.in-Ok.ensures.others

pub returns-in-Err-clause-kept : goal.returns-in-Err-clause-kept
returns-in-Err-clause-kept c = λ fs. kept_same fs c.args.w c.args.store.now c.charge_slots.new.self c.in-Err.ensures.same
