use Rattle.std.proofs.Common.{None, sym, subst}
use Rattle.std.specs.Prelude.{IfOk}
use Rattle.std.proofs.lemmas.Result.{IfOk-weaker}
use Rattle.permitted_table.specs.declared.native.NativeId.{NativeId}
use Rattle.widget_meaning.specs.Natives.{run_native}
use Rattle.js_image.specs.Image.{all_seen}
use Rattle.native_common.specs.Receivers.{receiver}
use Rattle.adsafe_object.specs.Ends.{RefinesNoted}
use Rattle.adsafe_object.proofs.Exits.{silent_keeps}
use Rattle.adsafe_object.proofs.Lists.{part_else}
use Rattle.adsafe_object.proofs.Timing.{unasked}
use Rattle.adsafe_object.proofs.natives.call.Goals as goal

pub returns-in-Adsafe-clause-native : goal.returns-in-Adsafe-clause-native
returns-in-Adsafe-clause-native c =
    let w = c.args.w.index in
    let s = c.args.store.now in
    let n = c.of_adsafe.new in
    let this = receiver w s.cells c.args.this.now in
    subst (λ (k : NativeId). IfOk c.of_adsafe.result (λ o. RefinesNoted w c.args.waiting s n.store c.args.meter.now n.meter (record { log = c.args.log.now.items; posts = c.args.posts.now.items; asked = None }) (record { log = n.log.items; posts = n.posts.items; asked = n.asked }) (run_native k this (all_seen w s.cells c.args.args.now)) o))
    (sym c.in-Adsafe.is) (c.of_adsafe.ensures.native this)

pub call_silent-requires-clause-silent : goal.call_silent-requires-clause-silent
call_silent-requires-clause-silent c = part_else c.args.which c.in_default.not-Adsafe

pub returns-in_default-clause-native : goal.returns-in_default-clause-native
returns-in_default-clause-native c = IfOk-weaker c.call_silent.result _ _ (λ o h.
    silent_keeps c.args.w.index c.args.store.now c.call_silent.new.store c.args.meter.now c.call_silent.new.meter _ o c.args.waiting c.args.log.now.items c.args.posts.now.items c.args.asked.now c.requires.unasked h) c.call_silent.ensures.native

pub returns-in_default-clause-own : goal.returns-in_default-clause-own
returns-in_default-clause-own c = unasked c.args.w.index c.call_silent.new.store.cells c.args.asked.now c.requires.unasked
