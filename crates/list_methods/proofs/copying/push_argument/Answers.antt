use Rattle.std.proofs.Common.{◌++◌, ◌∙◌, ap, sym, subst, [], ◌∷◌}
use Rattle.std.proofs.lemmas.List.{map-append}
use Rattle.js_image.specs.Held.{AreFine, IsFine}
use Rattle.js_image.specs.Image.{all_seen, image, seen}
use Rattle.list_methods.proofs.Lists.{all_more, array_adds, no_array_adds}
use Rattle.list_methods.proofs.copying.push_argument.Goals as goal

pub returns-in_default : goal.returns-in_default
returns-in_default c = record {
  more = λ fs r.
      ap (all_seen c.args.w.index c.args.store.now.cells) c.in_ok-push.ensures.items ∙ map-append (seen c.args.w.index c.args.store.now.cells) c.args.values.now.items (c.in_ok-share.field-0 ∷ [])
      ∙ ap (λ l. all_seen c.args.w.index c.args.store.now.cells c.args.values.now.items ++ l) (ap (λ v. seen c.args.w.index c.args.store.now.cells v ∷ []) c.in_ok-share.ensures ∙ sym (no_array_adds (image fs r c.args.w.index c.args.store.now) (seen c.args.w.index c.args.store.now.cells c.args.v.now) (sym (c.array_length.ensures.length fs r c.args.w.index c.requires.arg) ∙ c.in_default.is)));
  fine = subst (AreFine c.args.w.index c.args.store.now.cells) (sym c.in_ok-push.ensures.items) (all_more (IsFine c.args.w.index c.args.store.now.cells) c.args.values.now.items (c.in_ok-share.field-0 ∷ []) c.requires.values (subst (IsFine c.args.w.index c.args.store.now.cells) (sym c.in_ok-share.ensures) c.requires.arg, tt));
}

pub returns-clause-more : goal.returns-clause-more
returns-clause-more c = λ fs r.
    let size = sym (c.array_length.ensures.length fs r c.args.w.index c.requires.arg) ∙ c.in-Some.is in
    ap (all_seen c.args.w.index c.args.store.now.cells) c.in_ok-append.ensures.items ∙ map-append (seen c.args.w.index c.args.store.now.cells) c.args.values.now.items c.in_ok-more.more.items
    ∙ ap (λ l. all_seen c.args.w.index c.args.store.now.cells c.args.values.now.items ++ l) (c.in_ok-more.ensures.found fs r c.args.w.index c.in-Some.len c.requires.arg size ∙ sym (array_adds c.args.w.index c.args.store.now.cells (image fs r c.args.w.index c.args.store.now) c.args.v.now c.in-Some.len size))
