use Rattle.std.proofs.lemmas.Result.{IfOk-weaker}
use Rattle.std.specs.Fmt.{decimal}
use Rattle.js_image.proofs.Named.{decimal_permitted}
use Rattle.js_image.proofs.Puts.{put_done, put_kept, put_refused}
use Rattle.js_image.proofs.writing.put_at.Goals as goal

pub returns-in-Ok-clause-plan : goal.returns-in-Ok-clause-plan
returns-in-Ok-clause-plan c = λ fs r go. put_done fs r c.args.w c.args.store.now c.counts-paid.result c.counts-paid.ensures.paid c.counts-paid.ensures.units c.counts-paid.ensures.cells c.counts-paid.ensures.slots c.lawful.ensures (decimal c.args.i) c.args.value c.args.cell c.requires.held go c.put_index.new.self c.in-Ok.ensures.ok.allowed (c.in-Ok.ensures.own c.args.w)

pub returns-in-Ok-clause-kept : goal.returns-in-Ok-clause-kept
returns-in-Ok-clause-kept c = λ fs. put_kept fs c.args.w c.args.store.now c.put_index.new.self c.lawful.ensures (decimal c.args.i) c.args.value c.args.cell c.requires.held c.requires.value (decimal_permitted c.args.i) c.in-Ok.ensures.ok (c.in-Ok.ensures.own c.args.w) c.in-Ok.ensures.grows c.in-Ok.ensures.others

pub returns-in-Err-clause-plan : goal.returns-in-Err-clause-plan
returns-in-Err-clause-plan c = IfOk-weaker c.refused.result _ _ (λ p is. λ fs r go. put_refused fs r c.args.w c.args.store.now c.counts-paid.result c.counts-paid.ensures.paid c.counts-paid.ensures.units c.counts-paid.ensures.cells c.counts-paid.ensures.slots c.lawful.ensures (decimal c.args.i) c.args.value c.args.cell c.requires.held go c.put_index.new.self c.in-Err.fault p is c.in-Err.ensures.err c.in-Err.ensures.same) c.refused.ensures
