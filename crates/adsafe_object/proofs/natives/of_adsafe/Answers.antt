use Rattle.std.proofs.Common.{sym, subst}
use Rattle.std.proofs.lemmas.Result.{IfOk-weaker}
use Rattle.js_image.specs.Image.{image}
use Rattle.js_image.specs.Held.{IsFine}
use Rattle.adsafe_object.proofs.Exits.{noted_free, noted_run, noted_same, silent_keeps}
use Rattle.adsafe_object.proofs.Lists.{later_is, log_is, nth_fine, post_is, silent_else}
use Rattle.adsafe_object.proofs.Timing.{unasked}
use Rattle.adsafe_object.proofs.natives.of_adsafe.Goals as goal

pub later-requires-clause-func : goal.later-requires-clause-func
later-requires-clause-func c = subst (IsFine c.args.w.index c.args.store.now.cells) (sym c.nth-first.ensures) (nth_fine c.args.w.index c.args.store.now.cells c.args.args.now 0 c.requires.args)

pub returns-in-Later-clause-native : goal.returns-in-Later-clause-native
returns-in-Later-clause-native c = λ this.
    noted_same c.args.w.index c.args.waiting c.args.store.now c.args.store.now _ _ _ _ _ c.args.meter.now c.args.meter.now
    (λ fs r d. later_is c.args.w.index c.args.store.now.cells c.args.args.now this c.args.which c.nth-first.result.now c.nth-first.ensures c.nth-second.result.now c.nth-second.ensures c.in-Later.is d (image fs r c.args.w.index c.args.store.now))
    (noted_free c.args.w.index c.args.waiting c.args.store.now c.args.store.now _ _ _ _ c.args.meter.now (c.later.ensures.native c.args.log.now.items c.args.posts.now.items))

pub returns-in-LogValue-clause-native : goal.returns-in-LogValue-clause-native
returns-in-LogValue-clause-native c = λ this. IfOk-weaker c.log.result _ _ (λ o h.
    noted_run c.args.w.index c.args.waiting c.args.store.now c.log.new.store c.args.meter.now c.log.new.meter c.args.log.now.items c.log.new.log.items c.args.posts.now.items c.args.posts.now.items _ o c.args.asked.now c.requires.unasked _
    (log_is c.args.w.index c.args.store.now.cells c.args.args.now this c.args.which c.nth-first.result.now c.nth-first.ensures c.in-LogValue.is) (h c.args.waiting c.args.posts.now.items)) c.log.ensures.native

pub returns-in-Post-clause-native : goal.returns-in-Post-clause-native
returns-in-Post-clause-native c = λ this. IfOk-weaker c.post.result _ _ (λ o h.
    noted_run c.args.w.index c.args.waiting c.args.store.now c.post.new.store c.args.meter.now c.post.new.meter c.args.log.now.items c.args.log.now.items c.args.posts.now.items c.post.new.posts.items _ o c.args.asked.now c.requires.unasked _
    (post_is c.args.w.index c.args.store.now.cells c.args.args.now this c.args.which c.nth-first.result.now c.nth-first.ensures c.nth-second.result.now c.nth-second.ensures c.in-Post.is) (h c.args.waiting c.args.log.now.items)) c.post.ensures.native

pub returns-in-LogValue-clause-own : goal.returns-in-LogValue-clause-own
returns-in-LogValue-clause-own c = unasked c.args.w.index c.log.new.store.cells c.args.asked.now c.requires.unasked

pub returns-in-Post-clause-own : goal.returns-in-Post-clause-own
returns-in-Post-clause-own c = unasked c.args.w.index c.post.new.store.cells c.args.asked.now c.requires.unasked

pub silent-requires-clause-silent : goal.silent-requires-clause-silent
silent-requires-clause-silent c = silent_else c.args.which c.in_default.not-Later c.in_default.not-LogValue c.in_default.not-Post

pub returns-clause-native : goal.returns-clause-native
returns-clause-native c = λ this. IfOk-weaker c.silent.result _ _ (λ o h.
    silent_keeps c.args.w.index c.args.store.now c.silent.new.store c.args.meter.now c.silent.new.meter _ o c.args.waiting c.args.log.now.items c.args.posts.now.items c.args.asked.now c.requires.unasked h) (c.silent.ensures.native this)

pub returns-clause-own : goal.returns-clause-own
returns-clause-own c = unasked c.args.w.index c.silent.new.store.cells c.args.asked.now c.requires.unasked
