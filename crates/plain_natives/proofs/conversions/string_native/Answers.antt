use Rattle.std.proofs.Common.{ℕ, List, refl, sym, ap, ◌∙◌}
use Rattle.store_cells.specs.declared.value.Value.{Value as StoreValue}
use Rattle.widget_meaning.specs.NativeForms as forms
use Rattle.widget_meaning.specs.GlobalNatives as globals
use Rattle.js_image.specs.Image.{all_seen, image, seen}
use Rattle.native_common.proofs.Meeting.{refines_same, ok_refines_same}
use Rattle.plain_natives.proofs.Exits.{first_none, first_some}
use Rattle.plain_natives.proofs.conversions.string_native.Goals as goal

pub returns-in-Some-clause-native : goal.returns-in-Some-clause-native
returns-in-Some-clause-native c =
    ok_refines_same c.args.w.index c.args.store.now c.string.new.store (λ d s. globals.string_native (all_seen c.args.w.index c.args.store.now.cells c.args.args.now) d s) (λ d s. globals.string_of (seen c.args.w.index c.args.store.now.cells c.in-Some.v.now) d s) c.string.result c.args.meter.now c.string.new.meter
    (λ fs r d. ap (λ (l : List StoreValue). globals.string_native (all_seen c.args.w.index c.args.store.now.cells l) d (image fs r c.args.w.index c.args.store.now)) (first_some c.args.args.now c.in-Some.v.now c.in-Some.ensures.value))
    c.string.ensures.native

pub returns-in_ok-text-in-None-clause-native : goal.returns-in_ok-text-in-None-clause-native
returns-in_ok-text-in-None-clause-native c =
    refines_same c.args.w.index c.args.store.now c.give_text.new.store (λ d s. globals.string_native (all_seen c.args.w.index c.args.store.now.cells c.args.args.now) d s) (λ d s. forms.give_text 0 c.in_ok-text-in-None.text s) c.give_text.result c.args.meter.now c.give_text.new.meter
    (λ fs r d. ap (λ (l : List StoreValue). globals.string_native (all_seen c.args.w.index c.args.store.now.cells l) d (image fs r c.args.w.index c.args.store.now)) (first_none c.args.args.now c.in-None.ensures.value)
    ∙ ap (λ (t : List ℕ). forms.give_text 0 t (image fs r c.args.w.index c.args.store.now)) (sym (c.in_ok-text-in-None.ensures ∙ c.new.ensures.items)))
    (c.give_text.ensures 0 refl)
