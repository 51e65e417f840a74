use Rattle.std.proofs.Common.{◌+◌, ◌++◌, ◌∙◌, ap, length, pos, subst, sym}
use Rattle.std.proofs.lemmas.List.{length-map, map-append}
use Rattle.widget_meaning.specs.Values.{Num}
use Rattle.widget_meaning.specs.ListChanges.{change}
use Rattle.widget_meaning.specs.NativeForms.{elements}
use Rattle.js_image.specs.Held.{AreFine, IsFine}
use Rattle.js_image.specs.Image.{all_seen, image, seen}
use Rattle.native_common.proofs.Meeting.{ok_ends_same}
use Rattle.list_methods.specs.Arrays.{number}
use Rattle.list_methods.proofs.Lists.{all_more}
use Rattle.list_methods.proofs.turning.put_first.Goals as goal

pub change-requires-clause-values : goal.change-requires-clause-values
change-requires-clause-values c = subst (AreFine c.args.w.index c.args.store.now.cells) (sym (c.deref-2.ensures.value ∙ c.in_ok-values.ensures ∙ ap (λ l. c.args.args.now ++ l) c.deref.ensures.value)) (all_more (IsFine c.args.w.index c.args.store.now.cells) c.args.args.now c.in_ok-all.all.items c.requires.args c.in_ok-all.ensures.fine)

pub change-requires-clause-given : goal.change-requires-clause-given
change-requires-clause-given c = subst (IsFine c.args.w.index c.args.store.now.cells) (sym c.number_value.ensures) tt

pub returns-clause-native : goal.returns-clause-native
returns-clause-native c =
    let w = c.args.w.index in
    let old = c.args.store.now in
    let n = number w old c.args.array in
    let len = c.args.array.len in
    let args = c.args.args.now in
    ok_ends_same w old c.change.new.store (λ d s. change n (all_seen w old.cells args ++ elements s n len) (Num (pos (len + length (all_seen w old.cells args)))) s) (λ d s. change n (all_seen w old.cells c.deref-2.result.now) (seen w old.cells c.number_value.result) s) c.change.result
    (λ fs r d j. change n ((ap (λ l. all_seen w old.cells args ++ l) (sym (c.in_ok-all.ensures.seen fs r)) ∙ sym (map-append (seen w old.cells) args c.in_ok-all.all.items) ∙ ap (all_seen w old.cells) (sym (c.deref-2.ensures.value ∙ c.in_ok-values.ensures ∙ ap (λ l. c.args.args.now ++ l) c.deref.ensures.value))) j) ((ap (λ m. Num (pos (len + m))) (length-map args (seen w old.cells) ∙ sym c.count_of.ensures) ∙ ap (seen w old.cells) (sym c.number_value.ensures)) j) (image fs r w old))
    c.change.ensures.native
