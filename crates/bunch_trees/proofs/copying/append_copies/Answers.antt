use Rattle.std.proofs.Common.{◌≡◌, ℕ, [], None, true, refl, sym, subst, ap, ◌∙◌, map}
use Rattle.std.specs.List.{fold}
use Rattle.query_grammar.specs.Finds.{has_number}
use Rattle.widget_meaning.specs.Trees.{moved}
use Rattle.js_image.proofs.Grown.{kept_same}
use Rattle.page_image.specs.Image.{forest, number, owns}
use Rattle.page_image.proofs.Results.{ok_then}
use Rattle.native_image.proofs.Keeping.{keeps_paged, keeps_then, sound_page}
use Rattle.bunch_trees.proofs.Grafted.{copies_come}
use Rattle.native_image.specs.Handed.{state}
use Rattle.bunch_trees.proofs.copying.append_copies.Goals as goal

pub put_under-requires-clause-home : goal.put_under-requires-clause-home
put_under-requires-clause-home c = (c.copy_all.ensures.kept c.requires.sound.0 c.requires.sound.1.holds).holds.home

pub put_under-requires-clause-target : goal.put_under-requires-clause-target
put_under-requires-clause-target c = (c.copy_all.ensures.kept c.requires.sound.0 c.requires.sound.1.holds).page.owners c.args.w.index c.args.target c.requires.target

pub put_under-requires-clause-news : goal.put_under-requires-clause-news
put_under-requires-clause-news c = subst (λ l. (n : ℕ) → has_number l n ≡ true → owns c.copy_all.new.page c.args.w.index n ≡ true) (sym c.deref.ensures.value) c.in_ok-ids.ensures.copied.owned

pub returns-clause-done : goal.returns-clause-done
returns-clause-done c =
    let w = c.args.w.index in
    let p = c.args.page.now in
    let r = c.copy_all.new.page in
    let q = c.put_under.new.page in
    let s = c.args.store.now in
    let t = c.copy_all.new.store in
    let target = c.args.target in
    ok_then c.put_under.result _ _
    (λ e. record {
      state = copies_come w c.args.w.small s t p r q target c.args.news.now c.in_ok-ids.ids.items c.requires.target c.in_ok-ids.ensures.copied (c.copy_all.ensures.store []) (c.copy_all.ensures.same w) c.put_under.ensures.kept
          (e ∙ ap (λ l. fold (moved (number r w target) None) (forest r w) (map (number r w) l)) c.deref.ensures.value);
      sound = λ l h. sound_page w c.args.w.small r q c.put_under.ensures.kept c.put_under.ensures.others t l (c.in_ok-ids.ensures.sound l h);
    })
    c.put_under.ensures.image

pub returns-clause-kept : goal.returns-clause-kept
returns-clause-kept c = λ l h.
    let w = c.args.w.index in
    let p = c.args.page.now in
    let r = c.copy_all.new.page in
    let q = c.put_under.new.page in
    let s = c.args.store.now in
    let t = c.copy_all.new.store in
    let k = c.copy_all.ensures.kept l h in
    keeps_then w s t t p r q l l k (keeps_paged w c.args.w.small t t r q l k.holds (λ fs. kept_same fs w t t refl) c.put_under.ensures.kept c.put_under.ensures.others c.put_under.ensures.host)

pub returns-in_err-ids-clause-kept : goal.returns-in_err-ids-clause-kept
returns-in_err-ids-clause-kept c = c.copy_all.ensures.kept
