use Rattle.std.proofs.Common.{refl}
use Rattle.js_image.proofs.Makes.{scope_held, scope_kept, scope_made, scope_refused, scope_seen}
use Rattle.js_image.proofs.making.make_scope.Goals as goal

pub returns-in-Ok-clause-plan : goal.returns-in-Ok-clause-plan
returns-in-Ok-clause-plan c = λ fs r go. scope_made c.args.w c.args.store.now c.make.new.self c.args.outer c.args.pairs.items fs r c.counts-paid.result c.counts-paid.ensures.paid c.counts-paid.ensures.units c.in-Ok.id c.in-Ok.ensures.ok
    (scope_seen c.args.w c.args.store.now c.make.new.self c.args.outer c.args.pairs.items c.in-Ok.id c.args.pairs refl c.in-Ok.ensures.own) go

pub returns-in-Ok-clause-fine : goal.returns-in-Ok-clause-fine
returns-in-Ok-clause-fine c = scope_held c.args.w c.args.store.now c.make.new.self c.args.outer c.args.pairs.items c.in-Ok.id c.in-Ok.ensures.ok

pub returns-in-Ok-clause-kept : goal.returns-in-Ok-clause-kept
returns-in-Ok-clause-kept c = λ fs. scope_kept c.args.w c.args.store.now c.make.new.self c.args.outer c.args.pairs.items c.in-Ok.id c.in-Ok.ensures.ok
    (scope_seen c.args.w c.args.store.now c.make.new.self c.args.outer c.args.pairs.items c.in-Ok.id c.args.pairs refl c.in-Ok.ensures.own) c.in-Ok.ensures.grows c.in-Ok.ensures.others c.requires.outer c.requires.values fs

pub returns-in_ok-stop_of-in-Err-clause-plan : goal.returns-in_ok-stop_of-in-Err-clause-plan
returns-in_ok-stop_of-in-Err-clause-plan c = λ fs r go. scope_refused c.args.w c.args.store.now c.make.new.self c.args.outer c.args.pairs.items fs r c.counts-paid.result c.counts-paid.ensures.paid c.counts-paid.ensures.units c.in-Err.fault _ c.in_ok-stop_of-in-Err.ensures c.in-Err.ensures.err c.in-Err.ensures.same go
