use Rattle.std.proofs.Common.{ℕ, ◌+◌, [], ◌∷◌, sym, ap, ◌∙◌, map, take, get_or}
use Rattle.std.specs.List.{fold}
use Rattle.std.proofs.lemmas.List.Sums.{fold-append}
use Rattle.widget_meaning.specs.BunchWrites.{with_copies}
use Rattle.widget_meaning.specs.Costs.{with_counts}
use Rattle.widget_meaning.specs.OwnState.{State}
use Rattle.page_image.specs.Image.{number}
use Rattle.native_image.specs.Image.{beside, image}
use Rattle.native_image.proofs.Keeping.{keeps_here, keeps_then}
use Rattle.native_image.proofs.Lists.{element_in, mapped_one, mapped_whole}
use Rattle.bunch_trees.proofs.Changed.{changes_none, changes_same, changes_then}
use Rattle.bunch_trees.proofs.Numbered.{same_numbers, still_own}
use Rattle.bunch_trees.proofs.copying.copies_to.Goals as goal

pub each-init : goal.each-init
each-init c = record {
  done = changes_none c.args.w.index c.args.store.now c.args.page.now;
  kept = λ k h. keeps_here c.args.w.index c.args.store.now c.args.page.now k h;
}

pub append_copies-requires-clause-sound : goal.append_copies-requires-clause-sound
append_copies-requires-clause-sound c = (c.requires.sound.0, c.each.invariant.done.sound c.requires.sound.0 c.requires.sound.1)

pub append_copies-requires-clause-target : goal.append_copies-requires-clause-target
append_copies-requires-clause-target c = (c.each.invariant.kept c.requires.sound.0 c.requires.sound.1.holds).page.owners c.args.w.index _ (c.requires.targets _ (element_in c.args.targets.now c.each.target-index c.each-test.true))

pub append_copies-requires-clause-news : goal.append_copies-requires-clause-news
append_copies-requires-clause-news c = still_own c.args.w.index c.args.page.now c.each.page (c.each.invariant.kept c.requires.sound.0 c.requires.sound.1.holds).page c.args.news.now c.requires.news

pub each-preserved : goal.each-preserved
each-preserved c =
    let w = c.args.w.index in
    let p = c.args.page.now in
    let r = c.each.page in
    let q = c.append_copies.new.page in
    let s = c.args.store.now in
    let m = c.each.store in
    let t = c.append_copies.new.store in
    let i = c.each.target-index in
    let ts = c.args.targets.now in
    let ms = map (number p w) c.args.news.now in
    let n = get_or ts i 0 in
    let before = c.each.invariant in
    let k = (before.kept c.requires.sound.0 c.requires.sound.1.holds).page in
    let copying : State → ℕ → State = λ u x. with_copies x ms u in
    let so_far : State → State = λ u. fold copying u (map (number p w) (take i ts)) in
    let next : State → State = λ u. with_copies (number r w n) (map (number r w) c.args.news.now) u in
    record {
      done = changes_same w s t p q (λ u. next (so_far u)) (λ u. fold copying u (map (number p w) (take (i + 1) ts)))
          (λ l fs x b d.
          let u = with_counts (image fs x w (beside s p l b)) d in
          (λ j. with_copies (k.numbers w n (c.requires.targets n (element_in ts i c.each-test.true)) j) (same_numbers w p r k c.args.news.now c.requires.news j) (so_far u))
          ∙ sym (ap (fold copying u) (mapped_one (number p w) ts i c.each-test.true) ∙ fold-append copying u (map (number p w) (take i ts)) (number p w n ∷ [])))
          (changes_then w s m t p r q so_far next before.kept before.done c.in_ok-append_copies.ensures.done);
      kept = λ l h. keeps_then w s m t p r q l l (before.kept l h) (c.append_copies.ensures.kept l (before.kept l h).holds);
    }

pub returns-clause-done : goal.returns-clause-done
returns-clause-done c =
    let w = c.args.w.index in
    let p = c.args.page.now in
    let s = c.args.store.now in
    let ts = c.args.targets.now in
    let ms = map (number p w) c.args.news.now in
    let copying : State → ℕ → State = λ u x. with_copies x ms u in
    changes_same w s c.each.store p c.each.page (λ u. fold copying u (map (number p w) (take c.each.target-index ts))) (λ u. fold copying u (map (number p w) ts))
    (λ l fs x b d. ap (fold copying (with_counts (image fs x w (beside s p l b)) d)) (mapped_whole (number p w) ts c.each.target-index c.each-test.false))
    c.each.invariant.done

pub returns-clause-kept : goal.returns-clause-kept
returns-clause-kept c = c.each.invariant.kept

pub returns-in_err-append_copies-clause-kept : goal.returns-in_err-append_copies-clause-kept
returns-in_err-append_copies-clause-kept c = λ l h. keeps_then c.args.w.index c.args.store.now c.each.store c.append_copies.new.store c.args.page.now c.each.page c.append_copies.new.page l l (c.each.invariant.kept l h) (c.append_copies.ensures.kept l (c.each.invariant.kept l h).holds)
