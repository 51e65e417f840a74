use Rattle.std.proofs.Common.{refl, sym, subst}
use Rattle.std.proofs.lemmas.Result.{IfOk-weaker}
use Rattle.js_image.specs.Held.{IsFine}
use Rattle.native_common.proofs.Meeting.{refines_free}
use Rattle.adsafe_object.proofs.Exits.{confined_run, refines_run, text_run}
use Rattle.adsafe_object.proofs.Lists.{create_is, from_json_is, get_is, has_is, is_array_is, keys_is, nth_fine, remove_is, set_is, to_json_is}
use Rattle.adsafe_object.proofs.natives.silent.Goals as goal

pub returns-in-GetProperty-clause-native : goal.returns-in-GetProperty-clause-native
returns-in-GetProperty-clause-native c = λ this. IfOk-weaker c.get.result _ _ (λ o h.
    confined_run c.args.w.index c.args.store.now c.args.store.now c.args.meter.now c.args.meter.now _ o _
    (get_is c.args.w.index c.args.store.now.cells c.args.args.now this c.args.which c.nth-first.result.now c.nth-first.ensures c.nth-second.result.now c.nth-second.ensures c.in-GetProperty.is) refl h) c.get.ensures

pub set-requires-clause-object : goal.set-requires-clause-object
set-requires-clause-object c = subst (IsFine c.args.w.index c.args.store.now.cells) (sym c.nth-first.ensures) (nth_fine c.args.w.index c.args.store.now.cells c.args.args.now 0 c.requires.args)

pub set-requires-clause-value : goal.set-requires-clause-value
set-requires-clause-value c = subst (IsFine c.args.w.index c.args.store.now.cells) (sym c.nth.ensures) (nth_fine c.args.w.index c.args.store.now.cells c.args.args.now 2 c.requires.args)

pub returns-in-SetProperty-clause-native : goal.returns-in-SetProperty-clause-native
returns-in-SetProperty-clause-native c = λ this. IfOk-weaker c.set.result _ _ (λ o h.
    refines_run c.args.w.index c.args.store.now c.set.new.store c.args.meter.now c.args.meter.now _ o _
    (set_is c.args.w.index c.args.store.now.cells c.args.args.now this c.args.which c.nth-first.result.now c.nth-first.ensures c.nth-second.result.now c.nth-second.ensures c.nth.result.now c.nth.ensures c.in-SetProperty.is) (refines_free _ _ _ _ _ _ h)) c.set.ensures.ends

pub remove-requires : goal.remove-requires
remove-requires c = subst (IsFine c.args.w.index c.args.store.now.cells) (sym c.nth-first.ensures) (nth_fine c.args.w.index c.args.store.now.cells c.args.args.now 0 c.requires.args)

pub returns-in-RemoveProperty-clause-native : goal.returns-in-RemoveProperty-clause-native
returns-in-RemoveProperty-clause-native c = λ this. IfOk-weaker c.remove.result _ _ (λ o h.
    refines_run c.args.w.index c.args.store.now c.remove.new.store c.args.meter.now c.args.meter.now _ o _
    (remove_is c.args.w.index c.args.store.now.cells c.args.args.now this c.args.which c.nth-first.result.now c.nth-first.ensures c.nth-second.result.now c.nth-second.ensures c.in-RemoveProperty.is) (refines_free _ _ _ _ _ _ h)) c.remove.ensures.ends

pub create-requires : goal.create-requires
create-requires c = subst (IsFine c.args.w.index c.args.store.now.cells) (sym c.nth-first.ensures) (nth_fine c.args.w.index c.args.store.now.cells c.args.args.now 0 c.requires.args)

pub returns-in-Create-clause-native : goal.returns-in-Create-clause-native
returns-in-Create-clause-native c = λ this. IfOk-weaker c.create.result _ _ (λ o h.
    confined_run c.args.w.index c.args.store.now c.create.new.store c.args.meter.now c.args.meter.now _ o _
    (create_is c.args.w.index c.args.store.now.cells c.args.args.now this c.args.which c.nth-first.result.now c.nth-first.ensures c.in-Create.is) refl h) c.create.ensures.ends

pub is_array-requires : goal.is_array-requires
is_array-requires c = subst (IsFine c.args.w.index c.args.store.now.cells) (sym c.nth-first.ensures) (nth_fine c.args.w.index c.args.store.now.cells c.args.args.now 0 c.requires.args)

pub returns-in-IsArray-clause-native : goal.returns-in-IsArray-clause-native
returns-in-IsArray-clause-native c = λ this.
    refines_run c.args.w.index c.args.store.now c.args.store.now c.args.meter.now c.args.meter.now _ _ _
    (is_array_is c.args.w.index c.args.store.now.cells c.args.args.now this c.args.which c.nth-first.result.now c.nth-first.ensures c.in-IsArray.is) (refines_free _ _ _ _ _ _ c.is_array.ensures)

pub keys-requires : goal.keys-requires
keys-requires c = subst (IsFine c.args.w.index c.args.store.now.cells) (sym c.nth-first.ensures) (nth_fine c.args.w.index c.args.store.now.cells c.args.args.now 0 c.requires.args)

pub returns-in-KeysOf-clause-native : goal.returns-in-KeysOf-clause-native
returns-in-KeysOf-clause-native c = λ this. IfOk-weaker c.keys.result _ _ (λ o h.
    refines_run c.args.w.index c.args.store.now c.keys.new.store c.args.meter.now c.keys.new.meter _ o _
    (keys_is c.args.w.index c.args.store.now.cells c.args.args.now this c.args.which c.nth-first.result.now c.nth-first.ensures c.in-KeysOf.is) h) c.keys.ensures.native

pub returns-in-FromJson-clause-native : goal.returns-in-FromJson-clause-native
returns-in-FromJson-clause-native c = λ this. IfOk-weaker c.from_json.result _ _ (λ o h.
    refines_run c.args.w.index c.args.store.now c.from_json.new.store c.args.meter.now c.from_json.new.meter _ o _
    (from_json_is c.args.w.index c.args.store.now.cells c.args.args.now this c.args.which c.nth-first.result.now c.nth-first.ensures c.in-FromJson.is) h) c.from_json.ensures.native

pub has-requires : goal.has-requires
has-requires c = subst (IsFine c.args.w.index c.args.store.now.cells) (sym c.nth-first.ensures) (nth_fine c.args.w.index c.args.store.now.cells c.args.args.now 0 c.requires.args)

pub returns-in-HasProperty-clause-native : goal.returns-in-HasProperty-clause-native
returns-in-HasProperty-clause-native c = λ this. IfOk-weaker c.has.result _ _ (λ o h.
    confined_run c.args.w.index c.args.store.now c.args.store.now c.args.meter.now c.args.meter.now _ o _
    (has_is c.args.w.index c.args.store.now.cells c.args.args.now this c.args.which c.nth-first.result.now c.nth-first.ensures c.nth-second.result.now c.nth-second.ensures c.in-HasProperty.is) refl h) c.has.ensures

pub to_json-requires : goal.to_json-requires
to_json-requires c = subst (IsFine c.args.w.index c.args.store.now.cells) (sym c.nth-first.ensures) (nth_fine c.args.w.index c.args.store.now.cells c.args.args.now 0 c.requires.args)

pub returns-in-ToJson-clause-native : goal.returns-in-ToJson-clause-native
returns-in-ToJson-clause-native c = λ this. IfOk-weaker c.to_json.result _ _ (λ o h.
    text_run c.args.w.index c.args.store.now c.to_json.new.store c.args.meter.now c.to_json.new.meter _ o _
    (to_json_is c.args.w.index c.args.store.now.cells c.args.args.now this c.args.which c.nth-first.result.now c.nth-first.ensures c.in-ToJson.is) h) c.to_json.ensures.native
