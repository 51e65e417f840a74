use Rattle.js_image.proofs.Removes.{remove_done_is, remove_kept, remove_refused}
use Rattle.js_image.proofs.writing.remove_in.Goals as goal

pub returns-in-Ok-clause-plan : goal.returns-in-Ok-clause-plan
returns-in-Ok-clause-plan c = λ fs r go. remove_done_is fs r c.args.w c.args.store.now c.lawful.ensures c.args.name.now c.args.cell c.requires go c.remove.new.self c.in-Ok.answer c.in-Ok.ensures.ok (c.in-Ok.ensures.own c.args.w)

pub returns-in-Ok-clause-kept : goal.returns-in-Ok-clause-kept
returns-in-Ok-clause-kept c = λ fs. remove_kept fs c.args.w c.args.store.now c.remove.new.self c.lawful.ensures c.args.name.now c.args.cell c.in-Ok.answer c.requires c.in-Ok.ensures.ok (c.in-Ok.ensures.own c.args.w) c.in-Ok.ensures.grows c.in-Ok.ensures.others

pub returns-in-Err-clause-plan : goal.returns-in-Err-clause-plan
returns-in-Err-clause-plan c = λ fs r go. remove_refused fs r c.args.w c.args.store.now c.lawful.ensures c.args.name.now c.args.cell c.requires go c.remove.new.self _ c.in-Err.ensures.err c.in-Err.ensures.same
