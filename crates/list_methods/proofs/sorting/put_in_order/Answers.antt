use Rattle.std.proofs.Common.{◌∙◌, ap, subst, sym}
use Rattle.store_cells.specs.declared.value.Value.TheVariants as value
use Rattle.widget_meaning.specs.Values.{Own}
use Rattle.widget_meaning.specs.NativeForms.{elements}
use Rattle.widget_meaning.specs.ListChanges.{change, sorted}
use Rattle.js_image.specs.Held.{AreFine}
use Rattle.js_image.specs.Image.{all_seen, image, seen}
use Rattle.native_common.proofs.Meeting.{ok_ends_same}
use Rattle.list_methods.specs.Arrays.{number}
use Rattle.list_methods.proofs.sorting.put_in_order.Goals as goal

pub change-requires-clause-values : goal.change-requires-clause-values
change-requires-clause-values c = subst (AreFine c.args.w.index c.args.store.now.cells) (sym c.deref-2.ensures.value) (c.in_ok-values.ensures.fine c.args.w.index c.args.store.now.cells (subst (AreFine c.args.w.index c.args.store.now.cells) (sym c.deref.ensures.value) c.in_ok-all.ensures.fine))

pub change-requires-clause-given : goal.change-requires-clause-given
change-requires-clause-given c = c.requires.array.held

pub returns-clause-native : goal.returns-clause-native
returns-clause-native c =
    let w = c.args.w.index in
    let old = c.args.store.now in
    let n = number w old c.args.array in
    ok_ends_same w old c.change.new.store (λ d s. change n (sorted (elements s n c.args.array.len)) (Own n) s) (λ d s. change n (all_seen w old.cells c.deref-2.result.now) (seen w old.cells (value.Ref c.args.array.cell)) s) c.change.result
    (λ fs r d j. change n ((ap sorted (sym (c.in_ok-all.ensures.seen fs r)) ∙ ap (λ l. sorted (all_seen w old.cells l)) (sym c.deref.ensures.value) ∙ sym (c.in_ok-values.ensures.sorted w old.cells) ∙ ap (all_seen w old.cells) (sym c.deref-2.ensures.value)) j) (sym c.requires.array.own j) (image fs r w old))
    c.change.ensures.native
