use Rattle.std.proofs.Common.{ℕ, List, refl, sym, ap, ◌∙◌, length, subst}
use Rattle.store_cells.specs.declared.value.Value.TheVariants as value
use Rattle.store_cells.specs.declared.value.Value.{Value as StoreValue}
use Rattle.widget_meaning.specs.Values as meaning
use Rattle.widget_meaning.specs.Plan.{charge}
use Rattle.widget_meaning.specs.Costs.{give}
use Rattle.widget_meaning.specs.NativeForms as forms
use Rattle.widget_meaning.specs.GlobalNatives as globals
use Rattle.js_image.specs.Image.{image, seen}
use Rattle.js_values.specs.declared.outcome.NativeOut.TheVariants as native
use Rattle.native_common.proofs.Meeting.{ends_here, refines_free, refines_same, refines_zero}
use Rattle.native_common.proofs.Seen.{ref_is_object}
use Rattle.plain_natives.proofs.Exits.{charged_as}
use Rattle.std.proofs.Common.{if◌then◌else◌}
use Rattle.js_values.specs.declared.outcome.Plan.TheVariants as calls
use Rattle.js_image.specs.Held.{IsFine}
use Rattle.widget_meaning.specs.Calls.{to_primitive}
use Rattle.widget_meaning.specs.Plan.{after, and_then}
use Rattle.plain_natives.proofs.Small.{other_string}
use Rattle.plain_natives.proofs.conversions.string.Goals as goal

pub returns-in-Ref-clause-native : goal.returns-in-Ref-clause-native
returns-in-Ref-clause-native c =
    let i = c.in-Ref.i in let v = seen c.args.w.index c.args.store.now.cells (value.Ref i) in
    refines_free c.args.w.index c.args.store.now c.args.store.now (λ d s. globals.string_of (seen c.args.w.index c.args.store.now.cells c.args.v.now) d s) (native.Call (calls.ToText i)) c.args.meter.now
    (ends_here c.args.w.index c.args.store.now (λ d s. globals.string_of (seen c.args.w.index c.args.store.now.cells c.args.v.now) d s) (native.Call (calls.ToText i))
    (λ fs r node d. ap (λ (x : StoreValue). globals.string_of (seen c.args.w.index c.args.store.now.cells x) d (image fs r c.args.w.index c.args.store.now)) c.in-Ref.is
    ∙ ap (λ b. if b then and_then (to_primitive v d (image fs r c.args.w.index c.args.store.now)) (after globals.text_of_primitive) else charge (globals.units_read v) (image fs r c.args.w.index c.args.store.now) (globals.text_of_primitive v (image fs r c.args.w.index c.args.store.now))) (ref_is_object c.args.w.index c.args.store.now.cells i))
    (subst (IsFine c.args.w.index c.args.store.now.cells) c.in-Ref.is c.requires))

pub returns-in_ok-text-in-Text-clause-native : goal.returns-in_ok-text-in-Text-clause-native
returns-in_ok-text-in-Text-clause-native c =
    charged_as c.args.w.index c.args.store.now (λ d s. globals.string_of (seen c.args.w.index c.args.store.now.cells c.args.v.now) d s) (λ d t. give (meaning.Text c.in-Text.t) t) (length c.in-Text.t) c.text_len.result (native.Value (value.Text c.in_ok-text-in-Text.text)) c.args.meter.now c.charged.new.meter c.charged.result
    (λ plan m. c.charged.ensures c.args.w.index c.args.store.now plan m) c.text_len.ensures.counted
    (ends_here c.args.w.index c.args.store.now (λ d t. give (meaning.Text c.in-Text.t) t) (native.Value (value.Text c.in_ok-text-in-Text.text)) (λ fs r node d. ap (λ (t : List ℕ). give (meaning.Text t) (image fs r c.args.w.index c.args.store.now)) (sym c.in_ok-text-in-Text.ensures)) tt)
    (λ fs r d. ap (λ (x : StoreValue). globals.string_of (seen c.args.w.index c.args.store.now.cells x) d (image fs r c.args.w.index c.args.store.now)) c.in-Text.is)

pub returns-in_ok-text-in_default : goal.returns-in_ok-text-in_default
returns-in_ok-text-in_default c = record {
  native = refines_same c.args.w.index c.args.store.now c.give_text.new.store (λ d s. globals.string_of (seen c.args.w.index c.args.store.now.cells c.args.v.now) d s) (λ d s. charge 0 s (forms.give_text 0 c.in_ok-text-in_default.text s)) c.give_text.result c.args.meter.now c.give_text.new.meter
      (λ fs r d. other_string c.args.w.index c.args.store.now.cells c.args.v.now d (image fs r c.args.w.index c.args.store.now) c.in_default.not-Text c.in_default.not-Ref ∙ ap (λ (t : List ℕ). charge 0 (image fs r c.args.w.index c.args.store.now) (forms.give_text 0 t (image fs r c.args.w.index c.args.store.now))) (sym (c.in_ok-text-in_default.ensures c.args.w.index c.args.store.now.cells)))
      (refines_zero c.args.w.index c.args.store.now c.give_text.new.store (λ d s. forms.give_text 0 c.in_ok-text-in_default.text s) c.give_text.result c.args.meter.now c.give_text.new.meter (c.give_text.ensures 0 refl));
  memory = tt;
}
