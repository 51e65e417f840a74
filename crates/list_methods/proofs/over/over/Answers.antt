use Rattle.std.proofs.Common.{[], ◌∙◌, ap, sym, subst, refl}
use Rattle.std.specs.Prelude.{is_some}
use Rattle.std.proofs.lemmas.Result.{IfOk-weaker}
use Rattle.store_cells.specs.declared.value.Value.TheVariants as value
use Rattle.widget_meaning.specs.Values.{nth}
use Rattle.widget_meaning.specs.Plan.{charge}
use Rattle.widget_meaning.specs.NativeForms.{elements}
use Rattle.widget_meaning.specs.ListNatives.{call_each, over}
use Rattle.js_image.specs.declared.outcome.Fault.TheVariants as fault
use Rattle.js_image.specs.Held.{IsFine}
use Rattle.js_image.specs.Image.{all_seen, image, seen}
use Rattle.js_values.specs.Answers.{gathered}
use Rattle.js_values.specs.declared.outcome.NativeOut.TheVariants as native
use Rattle.native_common.proofs.Meeting.{refines_same}
use Rattle.native_common.proofs.Seen.{nth_seen}
use Rattle.list_methods.specs.Arrays.{number}
use Rattle.list_methods.proofs.Lists.{all_at}
use Rattle.list_methods.proofs.Meeting.{refines_taken, refines_wanting, thrown}
use Rattle.list_methods.proofs.Plans.{over_is, over_none}
use Rattle.list_methods.proofs.over.over.Goals as goal

pub returns-in_default : goal.returns-in_default
returns-in_default c = record { native = thrown c.args.w.index c.args.store.now (λ d s. over (number c.args.w.index c.args.store.now c.args.calls.array) c.args.calls.array.len (nth 0 (all_seen c.args.w.index c.args.store.now.cells c.args.args.now)) d s (gathered c.args.calls.keep (elements s (number c.args.w.index c.args.store.now c.args.calls.array) c.args.calls.array.len))) fault.E4 c.args.meter.now (λ fs r d. ap (λ f. over (number c.args.w.index c.args.store.now c.args.calls.array) c.args.calls.array.len f d (image fs r c.args.w.index c.args.store.now) (gathered c.args.calls.keep (elements (image fs r c.args.w.index c.args.store.now) (number c.args.w.index c.args.store.now c.args.calls.array) c.args.calls.array.len))) (nth_seen c.args.w.index c.args.store.now.cells c.args.args.now 0 ∙ ap (seen c.args.w.index c.args.store.now.cells) (sym c.nth.ensures)) ∙ over_none (number c.args.w.index c.args.store.now c.args.calls.array) c.args.calls.array.len (image fs r c.args.w.index c.args.store.now) (seen c.args.w.index c.args.store.now.cells c.nth.result.now) d (gathered c.args.calls.keep (elements (image fs r c.args.w.index c.args.store.now) (number c.args.w.index c.args.store.now c.args.calls.array) c.args.calls.array.len)) (c.function_of.ensures.own fs r c.args.w.index (subst (IsFine c.args.w.index c.args.store.now.cells) (sym c.nth.ensures) (all_at (IsFine c.args.w.index c.args.store.now.cells) c.args.args.now 0 value.Undefined c.requires.args tt)) ∙ ap is_some c.in_default.is)) }

pub gather-requires-clause-func : goal.gather-requires-clause-func
gather-requires-clause-func c = subst (IsFine c.args.w.index c.args.store.now.cells) c.in-Some.ensures.cell (subst (IsFine c.args.w.index c.args.store.now.cells) (sym c.nth.ensures) (all_at (IsFine c.args.w.index c.args.store.now.cells) c.args.args.now 0 value.Undefined c.requires.args tt))

pub returns-in-Ok : goal.returns-in-Ok
returns-in-Ok c = record {
  native = IfOk-weaker c.gather.result _ _ (λ o h. refines_same c.args.w.index c.args.store.now c.args.store.now (λ d s. over (number c.args.w.index c.args.store.now c.args.calls.array) c.args.calls.array.len (nth 0 (all_seen c.args.w.index c.args.store.now.cells c.args.args.now)) d s (gathered c.args.calls.keep (elements s (number c.args.w.index c.args.store.now c.args.calls.array) c.args.calls.array.len))) (λ d s. charge c.args.calls.array.len s (call_each (seen c.args.w.index c.args.store.now.cells (value.Ref c.in-Some.func)) (elements s (number c.args.w.index c.args.store.now c.args.calls.array) c.args.calls.array.len) 0 [] d s (gathered c.args.calls.keep (elements s (number c.args.w.index c.args.store.now c.args.calls.array) c.args.calls.array.len)))) o c.args.meter.now c.take.new.meter (λ fs r d. ap (λ f. over (number c.args.w.index c.args.store.now c.args.calls.array) c.args.calls.array.len f d (image fs r c.args.w.index c.args.store.now) (gathered c.args.calls.keep (elements (image fs r c.args.w.index c.args.store.now) (number c.args.w.index c.args.store.now c.args.calls.array) c.args.calls.array.len))) (nth_seen c.args.w.index c.args.store.now.cells c.args.args.now 0 ∙ ap (seen c.args.w.index c.args.store.now.cells) (sym c.nth.ensures)) ∙ over_is (number c.args.w.index c.args.store.now c.args.calls.array) c.args.calls.array.len (image fs r c.args.w.index c.args.store.now) (seen c.args.w.index c.args.store.now.cells c.nth.result.now) d (gathered c.args.calls.keep (elements (image fs r c.args.w.index c.args.store.now) (number c.args.w.index c.args.store.now c.args.calls.array) c.args.calls.array.len)) (c.function_of.ensures.own fs r c.args.w.index (subst (IsFine c.args.w.index c.args.store.now.cells) (sym c.nth.ensures) (all_at (IsFine c.args.w.index c.args.store.now.cells) c.args.args.now 0 value.Undefined c.requires.args tt)) ∙ ap is_some c.in-Some.is) ∙ ap (λ v. charge c.args.calls.array.len (image fs r c.args.w.index c.args.store.now) (call_each (seen c.args.w.index c.args.store.now.cells v) (elements (image fs r c.args.w.index c.args.store.now) (number c.args.w.index c.args.store.now c.args.calls.array) c.args.calls.array.len) 0 [] d (image fs r c.args.w.index c.args.store.now) (gathered c.args.calls.keep (elements (image fs r c.args.w.index c.args.store.now) (number c.args.w.index c.args.store.now c.args.calls.array) c.args.calls.array.len)))) c.in-Some.ensures.cell)
      (refines_taken c.args.w.index c.args.store.now c.args.store.now (λ s. c.args.calls.array.len) c.counted_len-asked.result (λ fs r. c.counted_len-asked.ensures) (λ d s. call_each (seen c.args.w.index c.args.store.now.cells (value.Ref c.in-Some.func)) (elements s (number c.args.w.index c.args.store.now c.args.calls.array) c.args.calls.array.len) 0 [] d s (gathered c.args.calls.keep (elements s (number c.args.w.index c.args.store.now c.args.calls.array) c.args.calls.array.len))) c.args.meter.now c.take.new.meter o c.in-Ok.ensures.ok h)) c.gather.ensures.native;
}

pub returns : goal.returns
returns c = record {
  native = refines_same c.args.w.index c.args.store.now c.args.store.now (λ d s. over (number c.args.w.index c.args.store.now c.args.calls.array) c.args.calls.array.len (nth 0 (all_seen c.args.w.index c.args.store.now.cells c.args.args.now)) d s (gathered c.args.calls.keep (elements s (number c.args.w.index c.args.store.now c.args.calls.array) c.args.calls.array.len))) (λ d s. charge c.args.calls.array.len s (call_each (seen c.args.w.index c.args.store.now.cells (value.Ref c.in-Some.func)) (elements s (number c.args.w.index c.args.store.now c.args.calls.array) c.args.calls.array.len) 0 [] d s (gathered c.args.calls.keep (elements s (number c.args.w.index c.args.store.now c.args.calls.array) c.args.calls.array.len)))) native.OutOfFuel c.args.meter.now c.take.new.meter (λ fs r d. ap (λ f. over (number c.args.w.index c.args.store.now c.args.calls.array) c.args.calls.array.len f d (image fs r c.args.w.index c.args.store.now) (gathered c.args.calls.keep (elements (image fs r c.args.w.index c.args.store.now) (number c.args.w.index c.args.store.now c.args.calls.array) c.args.calls.array.len))) (nth_seen c.args.w.index c.args.store.now.cells c.args.args.now 0 ∙ ap (seen c.args.w.index c.args.store.now.cells) (sym c.nth.ensures)) ∙ over_is (number c.args.w.index c.args.store.now c.args.calls.array) c.args.calls.array.len (image fs r c.args.w.index c.args.store.now) (seen c.args.w.index c.args.store.now.cells c.nth.result.now) d (gathered c.args.calls.keep (elements (image fs r c.args.w.index c.args.store.now) (number c.args.w.index c.args.store.now c.args.calls.array) c.args.calls.array.len)) (c.function_of.ensures.own fs r c.args.w.index (subst (IsFine c.args.w.index c.args.store.now.cells) (sym c.nth.ensures) (all_at (IsFine c.args.w.index c.args.store.now.cells) c.args.args.now 0 value.Undefined c.requires.args tt)) ∙ ap is_some c.in-Some.is) ∙ ap (λ v. charge c.args.calls.array.len (image fs r c.args.w.index c.args.store.now) (call_each (seen c.args.w.index c.args.store.now.cells v) (elements (image fs r c.args.w.index c.args.store.now) (number c.args.w.index c.args.store.now c.args.calls.array) c.args.calls.array.len) 0 [] d (image fs r c.args.w.index c.args.store.now) (gathered c.args.calls.keep (elements (image fs r c.args.w.index c.args.store.now) (number c.args.w.index c.args.store.now c.args.calls.array) c.args.calls.array.len)))) c.in-Some.ensures.cell)
      (refines_wanting c.args.w.index c.args.store.now c.args.store.now (λ s. c.args.calls.array.len) c.counted_len-asked.result (λ fs r. c.counted_len-asked.ensures) (λ d s. call_each (seen c.args.w.index c.args.store.now.cells (value.Ref c.in-Some.func)) (elements s (number c.args.w.index c.args.store.now c.args.calls.array) c.args.calls.array.len) 0 [] d s (gathered c.args.calls.keep (elements s (number c.args.w.index c.args.store.now c.args.calls.array) c.args.calls.array.len))) c.args.meter.now c.take.new.meter c.in-Err.ensures.err c.in-Err.ensures.same refl);
}
