use Rattle.std.proofs.Common.{refl}
use Rattle.turn_dispatch.proofs.Announced.{hear_refused}
use Rattle.native_image.proofs.Keeping.{store_same}
use Rattle.turn_dispatch.proofs.hearing.hear.Goals as goal

pub returns-in-Some-clause-plan : goal.returns-in-Some-clause-plan
returns-in-Some-clause-plan c = λ fs x l b sound.
    hear_refused c.args.w.index c.args.w.small c.args.store.now c.args.store.now c.args.page.now c.args.dispatch c.args.at.0 c.args.at.1 c.requires.some c.in-Some.cause (λ gs r k. c.in-Some.ensures.stop gs r k) fs x l b

pub returns-in-Some-clause-kept : goal.returns-in-Some-clause-kept
returns-in-Some-clause-kept c = store_same c.args.w.index c.args.store.now

pub announce-requires-clause-paid : goal.announce-requires-clause-paid
announce-requires-clause-paid c = λ fs r k. c.in-None.ensures.fits refl fs r k
