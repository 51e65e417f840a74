use Rattle.std.proofs.Common.{◌≡◌, ℕ, ◌+◌, List, sym, ap, ◌∙◌, arith, length}
use Rattle.widget_meaning.specs.Values as meaning
use Rattle.widget_meaning.specs.Values.{to_text}
use Rattle.widget_meaning.specs.Costs.{give}
use Rattle.widget_meaning.specs.Costs as costs
use Rattle.widget_meaning.specs.NativeForms as forms
use Rattle.widget_meaning.specs.TextNatives as texts
use Rattle.js_image.specs.Image.{all_seen, image}
use Rattle.native_common.specs.Numbers.{counted}
use Rattle.native_common.proofs.Meeting.{ends_same, refines_charged, refines_same}
use Rattle.plain_natives.proofs.Exits.{wants}
use Rattle.std.proofs.Common.{◌++◌, length-append}
use Rattle.std.specs.List.{flat_map}
use Rattle.text_methods.proofs.joining.concat.Goals as goal

pub returns-in_ok-text-in-Ok-clause-native : goal.returns-in_ok-text-in-Ok-clause-native
returns-in_ok-text-in-Ok-clause-native c =
    let l : length (c.args.t.now ++ flat_map to_text (all_seen c.args.w.index c.args.store.now.cells c.args.args.now)) ≡ length c.args.t.now + length (flat_map to_text (all_seen c.args.w.index c.args.store.now.cells c.args.args.now)) = length-append c.args.t.now (flat_map to_text (all_seen c.args.w.index c.args.store.now.cells c.args.args.now)) in
    let asked : c.saturating_add.result ≡ counted ((length c.args.t.now + length (flat_map to_text (all_seen c.args.w.index c.args.store.now.cells c.args.args.now))) + length (c.args.t.now ++ flat_map to_text (all_seen c.args.w.index c.args.store.now.cells c.args.args.now))) = omega (arith, l, c.saturating_add.ensures, c.saturating_add-made.ensures, c.text_len.ensures.exact, c.in_ok-texts_len.ensures c.args.w.index c.args.store.now.cells) in
    let t = c.in-Ok.ensures.ok ((length c.args.t.now + length (flat_map to_text (all_seen c.args.w.index c.args.store.now.cells c.args.args.now))) + length (c.args.t.now ++ flat_map to_text (all_seen c.args.w.index c.args.store.now.cells c.args.args.now))) asked in
    refines_same c.args.w.index c.args.store.now c.make_text.new.store (λ d s. texts.text_concat c.args.t.now (all_seen c.args.w.index c.args.store.now.cells c.args.args.now) s) (λ d s. forms.give_text (length c.args.t.now + length (flat_map to_text (all_seen c.args.w.index c.args.store.now.cells c.args.args.now))) (c.args.t.now ++ flat_map to_text (all_seen c.args.w.index c.args.store.now.cells c.args.args.now)) s) c.make_text.result c.args.meter.now c.take.new.meter
    (λ fs r d. wants (all_seen c.args.w.index c.args.store.now.cells c.args.args.now) (image fs r c.args.w.index c.args.store.now) _ (sym c.if-any_object.false ∙ c.any_object.ensures c.args.w.index c.args.store.now.cells))
    (refines_charged c.args.w.index c.args.store.now c.make_text.new.store ((length c.args.t.now + length (flat_map to_text (all_seen c.args.w.index c.args.store.now.cells c.args.args.now))) + length (c.args.t.now ++ flat_map to_text (all_seen c.args.w.index c.args.store.now.cells c.args.args.now))) (λ d s. costs.make_text (c.args.t.now ++ flat_map to_text (all_seen c.args.w.index c.args.store.now.cells c.args.args.now)) s (give (meaning.Text (c.args.t.now ++ flat_map to_text (all_seen c.args.w.index c.args.store.now.cells c.args.args.now))))) c.make_text.result c.args.meter.now c.take.new.meter t.0 t.1
    (ends_same c.args.w.index c.args.store.now c.make_text.new.store (λ d s. costs.make_text (c.args.t.now ++ flat_map to_text (all_seen c.args.w.index c.args.store.now.cells c.args.args.now)) s (give (meaning.Text (c.args.t.now ++ flat_map to_text (all_seen c.args.w.index c.args.store.now.cells c.args.args.now))))) (λ d s. costs.make_text c.in_ok-text-in-Ok.text s (give (meaning.Text c.in_ok-text-in-Ok.text))) c.make_text.result
    (λ fs r d. ap (λ (u : List ℕ). costs.make_text u (image fs r c.args.w.index c.args.store.now) (give (meaning.Text u))) (sym (c.in_ok-text-in-Ok.ensures c.args.w.index c.args.store.now.cells)))
    c.make_text.ensures))
