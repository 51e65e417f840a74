use Rattle.std.proofs.Common.{[], ◌≡◌, ◌∷◌, List, sym, ap, ◌∙◌, length}
use Rattle.store_cells.specs.declared.value.Value.TheVariants as value
use Rattle.store_cells.specs.declared.value.Value.{Value as StoreValue}
use Rattle.widget_meaning.specs.Values as meaning
use Rattle.widget_meaning.specs.Costs.{give}
use Rattle.widget_meaning.specs.NativeForms as forms
use Rattle.js_image.specs.Image.{all_seen, image}
use Rattle.native_common.proofs.Meeting.{ok_charged, ok_ends_same}
use Rattle.std.proofs.Common.{◌++◌}
use Rattle.text_methods.proofs.splitting.whole.Goals as goal

pub returns-in-Ok-clause-native : goal.returns-in-Ok-clause-native
returns-in-Ok-clause-native c =
    let t = c.in-Ok.ensures.ok (length c.args.t.now) c.text_len.ensures.counted in
    let one : c.push.new.self.items ≡ value.Text c.args.t.now ∷ [] = c.in_ok-push.ensures.items ∙ (λ j. c.new-values.ensures.items j ++ value.Text (c.in_ok-share.ensures j) ∷ []) in
    ok_charged c.args.w.index c.args.store.now c.give_array.new.store (length c.args.t.now) (λ d s. forms.make_array (meaning.Text c.args.t.now ∷ []) 0 s give) c.give_array.result c.args.meter.now c.take.new.meter t.0 t.1
    (ok_ends_same c.args.w.index c.args.store.now c.give_array.new.store (λ d s. forms.make_array (meaning.Text c.args.t.now ∷ []) 0 s give) (λ d s. forms.make_array (all_seen c.args.w.index c.args.store.now.cells c.push.new.self.items) 0 s give) c.give_array.result
    (λ fs r d. ap (λ (vs : List StoreValue). forms.make_array (all_seen c.args.w.index c.args.store.now.cells vs) 0 (image fs r c.args.w.index c.args.store.now) give) (sym one))
    c.give_array.ensures.native)
