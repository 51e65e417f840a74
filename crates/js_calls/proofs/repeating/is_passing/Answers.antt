use Rattle.std.proofs.Common.{◌≡◌, ◌<◌, List, None, get_or, length, false, subst, sym, ap, ◌∙◌}
use Rattle.std.specs.Prelude.{option_map, slice_get}
use Rattle.std.specs.Option.{option_map_or}
use Rattle.std.proofs.lemmas.Bool.{ltb-false, ltb-true}
use Rattle.std.proofs.lemmas.Option.{slice_get-map, slice_get_past}
use Rattle.store_cells.specs.declared.value.Value.{Value}
use Rattle.widget_meaning.specs.Values.{is_true}
use Rattle.js_image.specs.Image.{seen}
use Rattle.js_calls.proofs.Repeated.{there}
use Rattle.js_calls.proofs.repeating.is_passing.Goals as goal

pub returns-in-None : goal.returns-in-None
returns-in-None c =
    let i = c.args.i in
    let xs = c.deref.result.now in
    let none = subst (λ (l : List Value). slice_get l i ≡ None) c.deref.ensures.value (slice_get_past xs i (ltb-false i (length xs) (sym c.in-None.ensures.lookup.0))) in
    λ w cells. sym (ap (λ o. option_map_or is_true o false) (slice_get-map (seen w cells) c.args.results.now.items i ∙ ap (option_map (seen w cells)) none))

pub returns-in-Some : goal.returns-in-Some
returns-in-Some c =
    let i = c.args.i in
    let v = c.in-Some.v.now in
    let less = subst (λ (l : List Value). i < length l) c.deref.ensures.value (ltb-true i (length c.deref.result.now) (sym c.in-Some.ensures.lookup.0)) in
    let is = subst (λ (l : List Value). v ≡ get_or l i v) c.deref.ensures.value c.in-Some.ensures.lookup.1 in
    λ w cells. c.is_true.ensures w cells
    ∙ sym (ap (λ o. option_map_or is_true o false) (slice_get-map (seen w cells) c.args.results.now.items i ∙ ap (option_map (seen w cells)) (there c.args.results.now.items i v less is)))
