use Rattle.std.proofs.Common.{◌+◌, [], ◌∷◌, sym, ap, ◌∙◌, map, take, get_or}
use Rattle.std.specs.List.{fold}
use Rattle.std.proofs.lemmas.List.Sums.{fold-append}
use Rattle.widget_meaning.specs.BunchWrites.{valued}
use Rattle.widget_meaning.specs.Costs.{with_counts}
use Rattle.widget_meaning.specs.OwnState.{State}
use Rattle.page_image.specs.Image.{number}
use Rattle.native_image.specs.Image.{beside, image}
use Rattle.native_image.proofs.Keeping.{keeps_here, keeps_then}
use Rattle.native_image.proofs.Lists.{element_in, mapped_one, mapped_whole}
use Rattle.bunch_trees.proofs.Changed.{changes_none, changes_same, changes_then}
use Rattle.bunch_trees.proofs.writing.give_all.Goals as goal

pub each-init : goal.each-init
each-init c = record {
  done = changes_none c.args.w.index c.args.store.now c.args.page.now;
  kept = λ k h. keeps_here c.args.w.index c.args.store.now c.args.page.now k h;
}

pub give-requires-clause-sound : goal.give-requires-clause-sound
give-requires-clause-sound c = (c.requires.sound.0, c.each.invariant.done.sound c.requires.sound.0 c.requires.sound.1)

pub give-requires-clause-own : goal.give-requires-clause-own
give-requires-clause-own c = (c.each.invariant.kept c.requires.sound.0 c.requires.sound.1.holds).page.owners c.args.w.index _ (c.requires.own _ (element_in c.args.nodes.now c.each.node-index c.each-test.true))

pub each-preserved : goal.each-preserved
each-preserved c =
    let w = c.args.w.index in
    let p = c.args.page.now in
    let r = c.each.page in
    let q = c.give.new.page in
    let s = c.args.store.now in
    let m = c.each.store in
    let t = c.give.new.store in
    let i = c.each.node-index in
    let ns = c.args.nodes.now in
    let text = c.args.given.now.text in
    let n = get_or ns i 0 in
    let before = c.each.invariant in
    let k = (before.kept c.requires.sound.0 c.requires.sound.1.holds).page in
    let so_far : State → State = λ u. fold (valued text) u (map (number p w) (take i ns)) in
    let next : State → State = λ u. valued text u (number r w n) in
    record {
      done = changes_same w s t p q (λ u. next (so_far u)) (λ u. fold (valued text) u (map (number p w) (take (i + 1) ns)))
          (λ l fs x b d.
          let u = with_counts (image fs x w (beside s p l b)) d in
          ap (valued text (so_far u)) (k.numbers w n (c.requires.own n (element_in ns i c.each-test.true)))
          ∙ sym (ap (fold (valued text) u) (mapped_one (number p w) ns i c.each-test.true) ∙ fold-append (valued text) u (map (number p w) (take i ns)) (number p w n ∷ [])))
          (changes_then w s m t p r q so_far next before.kept before.done c.in_ok-give.ensures.done);
      kept = λ l h. keeps_then w s m t p r q l l (before.kept l h) (c.give.ensures.kept l (before.kept l h).holds);
    }

pub returns-clause-done : goal.returns-clause-done
returns-clause-done c =
    let w = c.args.w.index in
    let p = c.args.page.now in
    let s = c.args.store.now in
    let ns = c.args.nodes.now in
    let text = c.args.given.now.text in
    changes_same w s c.each.store p c.each.page (λ u. fold (valued text) u (map (number p w) (take c.each.node-index ns))) (λ u. fold (valued text) u (map (number p w) ns))
    (λ l fs x b d. ap (fold (valued text) (with_counts (image fs x w (beside s p l b)) d)) (mapped_whole (number p w) ns c.each.node-index c.each-test.false))
    c.each.invariant.done

pub returns-clause-kept : goal.returns-clause-kept
returns-clause-kept c = c.each.invariant.kept

pub returns-in_err-give-clause-kept : goal.returns-in_err-give-clause-kept
returns-in_err-give-clause-kept c = λ l h. keeps_then c.args.w.index c.args.store.now c.each.store c.give.new.store c.args.page.now c.each.page c.give.new.page l l (c.each.invariant.kept l h) (c.give.ensures.kept l (c.each.invariant.kept l h).holds)
