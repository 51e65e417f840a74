use Rattle.std.proofs.Common.{◌∙◌, ap, reverse, subst, sym}
use Rattle.store_cells.specs.declared.value.Value.TheVariants as value
use Rattle.widget_meaning.specs.Values.{Own}
use Rattle.widget_meaning.specs.ListChanges.{change}
use Rattle.widget_meaning.specs.NativeForms.{elements}
use Rattle.js_image.specs.Held.{AreFine, IsFine}
use Rattle.js_image.specs.Image.{all_seen, image, seen}
use Rattle.native_common.proofs.Meeting.{ok_ends_same}
use Rattle.list_methods.specs.Arrays.{number}
use Rattle.list_methods.proofs.Lists.{all_reversed, reverse_map}
use Rattle.list_methods.proofs.turning.turn.Goals as goal

pub change-requires-clause-values : goal.change-requires-clause-values
change-requires-clause-values c = subst (AreFine c.args.w.index c.args.store.now.cells) (sym (c.deref.ensures.value ∙ c.reversed-values.ensures)) (all_reversed (IsFine c.args.w.index c.args.store.now.cells) c.in_ok-all.all.items c.in_ok-all.ensures.fine)

pub change-requires-clause-given : goal.change-requires-clause-given
change-requires-clause-given c = c.requires.array.held

pub returns-clause-native : goal.returns-clause-native
returns-clause-native c =
    let w = c.args.w.index in
    let old = c.args.store.now in
    let n = number w old c.args.array in
    ok_ends_same w old c.change.new.store (λ d s. change n (reverse (elements s n c.args.array.len)) (Own n) s) (λ d s. change n (all_seen w old.cells c.deref.result.now) (seen w old.cells (value.Ref c.args.array.cell)) s) c.change.result
    (λ fs r d j. change n ((ap reverse (sym (c.in_ok-all.ensures.seen fs r)) ∙ reverse_map (seen w old.cells) c.in_ok-all.all.items ∙ ap (all_seen w old.cells) (sym (c.deref.ensures.value ∙ c.reversed-values.ensures))) j) (sym c.requires.array.own j) (image fs r w old))
    c.change.ensures.native
