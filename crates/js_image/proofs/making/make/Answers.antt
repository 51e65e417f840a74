use Rattle.std.proofs.Common.{sym, ◌∙◌}
use Rattle.js_image.proofs.Makes.{new_held, new_kept, new_made, new_refused}
use Rattle.js_image.proofs.making.make.Goals as goal

pub returns-in-Ok-clause-plan : goal.returns-in-Ok-clause-plan
returns-in-Ok-clause-plan c = λ fs r go. new_made c.args.w c.args.store.now c.make.new.self c.args.cell c.requires.held fs r c.counts-paid.result c.counts-paid.ensures.paid c.counts-paid.ensures.units c.in-Ok.id c.in-Ok.ensures.ok c.in-Ok.ensures.own go

pub returns-in-Ok-clause-fine : goal.returns-in-Ok-clause-fine
returns-in-Ok-clause-fine c = new_held c.args.w c.args.store.now c.make.new.self c.args.cell c.requires.held c.in-Ok.id c.in-Ok.ensures.ok

pub returns-in-Ok-clause-kept : goal.returns-in-Ok-clause-kept
returns-in-Ok-clause-kept c = λ fs o. new_kept c.args.w c.args.store.now c.make.new.self c.args.cell c.requires.held c.in-Ok.id c.host_stays.ensures.enough c.in-Ok.ensures.ok c.in-Ok.ensures.own c.in-Ok.ensures.grows c.in-Ok.ensures.others fs o (sym c.begins_permitted.ensures ∙ c.if-not-begins_permitted.false)

pub returns-in_ok-stop_of-in-Err-clause-plan : goal.returns-in_ok-stop_of-in-Err-clause-plan
returns-in_ok-stop_of-in-Err-clause-plan c = λ fs r go. new_refused c.args.w c.args.store.now c.make.new.self c.args.cell c.requires.held fs r c.counts-paid.result c.counts-paid.ensures.paid c.counts-paid.ensures.units c.in-Err.fault _ c.in_ok-stop_of-in-Err.ensures c.in-Err.ensures.err c.in-Err.ensures.same go
