use Rattle.std.proofs.Common.{refl, sym, subst, ap, ◌∙◌}
use Rattle.std.specs.Prelude.{IfOk}
use Rattle.std.proofs.lemmas.Result.{IfOk-weaker}
use Rattle.permitted_table.specs.declared.native.NativeId.{NativeId}
use Rattle.widget_meaning.specs.Natives.{run_native}
use Rattle.js_image.specs.Image.{all_seen}
use Rattle.native_common.specs.Receivers.{receiver}
use Rattle.adsafe_object.specs.Ends.{RefinesSilent}
use Rattle.adsafe_object.specs.Part.{keeps_note}
use Rattle.adsafe_object.proofs.Exits.{confined_run}
use Rattle.adsafe_object.proofs.Lists.{has_own_is}
use Rattle.adsafe_object.proofs.natives.call_silent.Goals as goal

pub silent-requires-clause-silent : goal.silent-requires-clause-silent
silent-requires-clause-silent c = sym (ap keeps_note c.in-Adsafe.is) ∙ c.requires.silent

pub returns-in-Adsafe-clause-native : goal.returns-in-Adsafe-clause-native
returns-in-Adsafe-clause-native c =
    let w = c.args.w.index in
    let s = c.args.store.now in
    let n = c.silent.new in
    let this = receiver w s.cells c.args.this.now in
    subst (λ (k : NativeId). IfOk c.silent.result (λ o. RefinesSilent w s n.store c.args.meter.now n.meter (run_native k this (all_seen w s.cells c.args.args.now)) o))
    (sym c.in-Adsafe.is) (c.silent.ensures.native this)

pub returns-in-Prototype-clause-native : goal.returns-in-Prototype-clause-native
returns-in-Prototype-clause-native c = IfOk-weaker c.has_own_property.result _ _ (λ o h.
    confined_run c.args.w.index c.args.store.now c.args.store.now c.args.meter.now c.args.meter.now _ o _
    (has_own_is c.args.w.index c.args.store.now.cells c.args.args.now (receiver c.args.w.index c.args.store.now.cells c.args.this.now) c.args.which c.nth-first.result.now c.nth-first.ensures c.in-Prototype.field-0 c.requires.part c.in-Prototype.is) refl h) c.has_own_property.ensures
