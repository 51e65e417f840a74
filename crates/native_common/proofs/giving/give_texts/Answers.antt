use Rattle.std.proofs.Common.{List, map, sum_by, length, sym, ap, ◌∙◌, subst, if◌then◌else◌}
use Rattle.std.specs.List.{list_any}
use Rattle.store_cells.specs.declared.value.Value.{Value}
use Rattle.widget_meaning.specs.Values as meaning
use Rattle.widget_meaning.specs.Plan.{Halt}
use Rattle.widget_meaning.specs.Costs.{give}
use Rattle.widget_meaning.specs.NativeForms.{is_too_long, make_array}
use Rattle.widget_meaning.specs.NativeForms as forms
use Rattle.js_image.specs.Held.{AreFine}
use Rattle.js_image.specs.Image.{all_seen, image}
use Rattle.native_common.proofs.Meeting.{ok_ends_same}
use Rattle.native_common.proofs.Seen.{texts_fine, texts_seen}
use Rattle.native_common.proofs.giving.give_texts.Goals as goal

pub give_array-requires : goal.give_array-requires
give_array-requires c = subst (λ (vs : List Value). AreFine c.args.w.index c.args.store.now.cells vs) (sym c.in_ok-values.ensures) (texts_fine c.args.w.index c.args.store.now.cells c.args.parts.items)

pub returns-clause-native : goal.returns-clause-native
returns-clause-native c =
    ok_ends_same c.args.w.index c.args.store.now c.give_array.new.store (λ d s. forms.give_texts c.args.parts.items s) (λ d s. make_array (all_seen c.args.w.index c.args.store.now.cells c.in_ok-values.values.items) c.args.units s give) c.give_array.result
    (λ fs r d.
    let s = image fs r c.args.w.index c.args.store.now in
    ap (λ b. if b then Halt meaning.LongText s else make_array (map meaning.Text c.args.parts.items) (sum_by length c.args.parts.items) s give) (ap (list_any is_too_long) (sym c.deref.ensures.value) ∙ sym c.any_long.ensures ∙ c.if-any_long.false)
    ∙ ap (λ n. make_array (map meaning.Text c.args.parts.items) n s give) (sym c.requires)
    ∙ ap (λ vs. make_array vs c.args.units s give) (sym (ap (all_seen c.args.w.index c.args.store.now.cells) c.in_ok-values.ensures ∙ texts_seen c.args.w.index c.args.store.now.cells c.args.parts.items)))
    c.give_array.ensures.native
