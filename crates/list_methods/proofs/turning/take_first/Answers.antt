use Rattle.std.proofs.Common.{ap, drop, subst, sym, ◌∙◌}
use Rattle.std.specs.Prelude.{slice_get, unwrap_or}
use Rattle.std.proofs.lemmas.List.{drop-map}
use Rattle.widget_meaning.specs.Values.{nth}
use Rattle.widget_meaning.specs.ListChanges.{change}
use Rattle.widget_meaning.specs.NativeForms.{elements}
use Rattle.store_cells.specs.declared.value.Value.TheVariants as value
use Rattle.js_image.specs.Held.{AreFine, IsFine}
use Rattle.js_image.specs.Image.{all_seen, image, seen}
use Rattle.native_common.proofs.Meeting.{ok_ends_same}
use Rattle.native_common.proofs.Seen.{nth_seen}
use Rattle.list_methods.specs.Arrays.{number}
use Rattle.list_methods.proofs.Lists.{all_at, all_left}
use Rattle.list_methods.proofs.turning.take_first.Goals as goal

pub change-requires-clause-values : goal.change-requires-clause-values
change-requires-clause-values c = subst (AreFine c.args.w.index c.args.store.now.cells) (sym (c.rest.ensures ∙ ap (drop 1) c.deref-2.ensures.value)) (all_left (IsFine c.args.w.index c.args.store.now.cells) 1 c.in_ok-all.all.items c.in_ok-all.ensures.fine)

pub change-requires-clause-given : goal.change-requires-clause-given
change-requires-clause-given c = subst (IsFine c.args.w.index c.args.store.now.cells) (sym (c.in_ok-first.ensures ∙ ap (λ l. unwrap_or (slice_get l 0) value.Undefined) c.deref.ensures.value)) (all_at (IsFine c.args.w.index c.args.store.now.cells) c.in_ok-all.all.items 0 value.Undefined c.in_ok-all.ensures.fine tt)

pub returns-clause-native : goal.returns-clause-native
returns-clause-native c =
    let w = c.args.w.index in
    let old = c.args.store.now in
    let n = number w old c.args.array in
    let len = c.args.array.len in
    let all = c.in_ok-all.all.items in
    ok_ends_same w old c.change.new.store (λ d s. change n (drop 1 (elements s n len)) (nth 0 (elements s n len)) s) (λ d s. change n (all_seen w old.cells c.rest.result.now) (seen w old.cells c.in_ok-first.first) s) c.change.result
    (λ fs r d.
    let is = c.in_ok-all.ensures.seen fs r in
    λ j. change n ((ap (drop 1) (sym is) ∙ drop-map (seen w old.cells) 1 all ∙ ap (all_seen w old.cells) (sym (c.rest.ensures ∙ ap (drop 1) c.deref-2.ensures.value))) j) ((ap (nth 0) (sym is) ∙ nth_seen w old.cells all 0 ∙ ap (seen w old.cells) (sym (c.in_ok-first.ensures ∙ ap (λ l. unwrap_or (slice_get l 0) value.Undefined) c.deref.ensures.value))) j) (image fs r w old))
    c.change.ensures.native
