use Rattle.std.proofs.Common.{◌≤◌, ℕ, None, refl, sym, ap, ◌∙◌, map, length, arith}
use Rattle.std.specs.List.{fold}
use Rattle.std.proofs.lemmas.Bool.Decides.{nat_tests}
use Rattle.plain_tree.specs.Trees.{Trees}
use Rattle.widget_meaning.specs.BunchWrites.{appended, with_copies}
use Rattle.widget_meaning.specs.Costs.{with_counts}
use Rattle.widget_meaning.specs.OwnState.{State, with_forest}
use Rattle.widget_meaning.specs.Trees.{moved}
use Rattle.js_image.proofs.Grown.{kept_same}
use Rattle.page_image.specs.Image.{number}
use Rattle.page_image.proofs.Results.{ok_then}
use Rattle.native_image.specs.Image.{beside, image}
use Rattle.native_image.proofs.Keeping.{keeps_here, keeps_paged, keeps_then}
use Rattle.bunch_trees.proofs.Changed.{changes_none, changes_page, changes_same, changes_then}
use Rattle.bunch_trees.proofs.Grafted.{appended_last}
use Rattle.bunch_trees.proofs.Numbered.{front_own, last_in, last_split, no_nodes, same_numbers, still_own}
use Rattle.bunch_trees.proofs.copying.append_all.Goals as goal

pub returns-then-is_empty-clause-done : goal.returns-then-is_empty-clause-done
returns-then-is_empty-clause-done c =
    let w = c.args.w.index in
    let p = c.args.page.now in
    let s = c.args.store.now in
    let ms = map (number p w) c.args.news.now in
    changes_same w s s p p (λ u. u) (appended (map (number p w) c.args.targets.now) ms)
    (λ l fs x b d. ap (λ k. appended (map (number p w) k) ms (with_counts (image fs x w (beside s p l b)) d)) (sym (no_nodes c.args.targets.now (sym c.is_empty.ensures ∙ c.if-is_empty.true))))
    (changes_none w s p)

pub returns-then-is_empty-clause-kept : goal.returns-then-is_empty-clause-kept
returns-then-is_empty-clause-kept c = λ l h. keeps_here c.args.w.index c.args.store.now c.args.page.now l h

pub but_last-requires : goal.but_last-requires
but_last-requires c = grind (arith, nat_tests, c.is_empty.ensures, c.if-is_empty.false)

pub last-requires : goal.last-requires
last-requires c = grind (arith, nat_tests, c.is_empty.ensures, c.if-is_empty.false)

pub copies_to-requires-clause-sound : goal.copies_to-requires-clause-sound
copies_to-requires-clause-sound c = c.requires.sound

pub copies_to-requires-clause-targets : goal.copies_to-requires-clause-targets
copies_to-requires-clause-targets c = front_own c.args.page.now c.args.w.index c.args.targets.now c.but_last.result.now _ c.but_last.ensures c.requires.targets

pub put_under-requires-clause-home : goal.put_under-requires-clause-home
put_under-requires-clause-home c = (c.copies_to.ensures.kept c.requires.sound.0 c.requires.sound.1.holds).holds.home

pub put_under-requires-clause-target : goal.put_under-requires-clause-target
put_under-requires-clause-target c = (c.copies_to.ensures.kept c.requires.sound.0 c.requires.sound.1.holds).page.owners c.args.w.index _ (c.requires.targets _ (last_in c.args.targets.now _ (grind (arith, nat_tests, c.is_empty.ensures, c.if-is_empty.false)) c.last.ensures))

pub put_under-requires-clause-news : goal.put_under-requires-clause-news
put_under-requires-clause-news c = still_own c.args.w.index c.args.page.now c.copies_to.new.page (c.copies_to.ensures.kept c.requires.sound.0 c.requires.sound.1.holds).page c.args.news.now c.requires.news

pub returns-clause-done : goal.returns-clause-done
returns-clause-done c =
    let w = c.args.w.index in
    let p = c.args.page.now in
    let r = c.copies_to.new.page in
    let q = c.put_under.new.page in
    let s = c.args.store.now in
    let t = c.copies_to.new.store in
    let ts = c.args.targets.now in
    let front = c.but_last.result.now in
    let n = c.last.result in
    let ms = map (number p w) c.args.news.now in
    let k = (c.copies_to.ensures.kept c.requires.sound.0 c.requires.sound.1.holds).page in
    let copying : State → ℕ → State = λ u x. with_copies x ms u in
    let so_far : State → State = λ u. fold copying u (map (number p w) front) in
    let put : Trees ℕ → Trees ℕ = λ f. fold (moved (number r w n) None) f (map (number r w) c.args.news.now) in
    let some : 1 ≤ length ts = grind (arith, nat_tests, c.is_empty.ensures, c.if-is_empty.false) in
    ok_then c.put_under.result _ _
    (λ e.
    changes_same w s t p q (λ u. with_forest (so_far u) (put (so_far u).own.forest)) (appended (map (number p w) ts) ms)
    (λ l fs x b d.
    let u = with_counts (image fs x w (beside s p l b)) d in
    (λ j. with_forest (so_far u) (fold (moved (k.numbers w n (c.requires.targets n (last_in ts n some c.last.ensures)) j) None) (so_far u).own.forest (same_numbers w p r k c.args.news.now c.requires.news j)))
    ∙ sym (appended_last (map (number p w) front) (number p w n) ms u)
    ∙ ap (λ z. appended z ms u) (sym (last_split (number p w) ts front n some c.but_last.ensures c.last.ensures)))
    (changes_then w s t t p r q so_far (λ u. with_forest u (put u.own.forest)) c.copies_to.ensures.kept c.in_ok-copies_to.ensures.done
    (changes_page w c.args.w.small t r q c.put_under.ensures.kept c.put_under.ensures.others put e)))
    c.put_under.ensures.image

pub returns-clause-kept : goal.returns-clause-kept
returns-clause-kept c = λ l h.
    let w = c.args.w.index in
    let p = c.args.page.now in
    let r = c.copies_to.new.page in
    let q = c.put_under.new.page in
    let s = c.args.store.now in
    let t = c.copies_to.new.store in
    let k = c.copies_to.ensures.kept l h in
    keeps_then w s t t p r q l l k (keeps_paged w c.args.w.small t t r q l k.holds (λ fs. kept_same fs w t t refl) c.put_under.ensures.kept c.put_under.ensures.others c.put_under.ensures.host)

pub returns-in_err-copies_to-clause-kept : goal.returns-in_err-copies_to-clause-kept
returns-in_err-copies_to-clause-kept c = c.copies_to.ensures.kept
