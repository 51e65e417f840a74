use Rattle.std.proofs.Common.{[], ◌*◌, map, length, refl, sym, ap, ◌∙◌}
use Rattle.std.specs.Prelude.{◌-◌}
use Rattle.std.proofs.lemmas.List.{length-map}
use Rattle.plain_tree.specs.Trees.{size}
use Rattle.store_cells.specs.declared.value.Value.TheVariants as value
use Rattle.widget_meaning.specs.BunchWrites.{appended}
use Rattle.widget_meaning.specs.Costs.{cost, give}
use Rattle.widget_meaning.specs.OwnState.{State}
use Rattle.widget_meaning.specs.PageForms.{tree_units}
use Rattle.js_image.specs.Image.{seen}
use Rattle.page_image.specs.Copies.{trees_at}
use Rattle.page_image.specs.Image.{number}
use Rattle.native_image.specs.Weights.{amounts}
use Rattle.native_image.proofs.Joint.{sound_stays}
use Rattle.native_image.proofs.Keeping.{keeps_here, keeps_store, keeps_then, store_then}
use Rattle.bunch_trees.specs.Appends.{append_paid}
use Rattle.bunch_trees.proofs.Counting.{times}
use Rattle.bunch_trees.proofs.Ending.{given_back}
use Rattle.bunch_trees.proofs.appending.append_weighed.Goals as goal

pub append_all-requires-clause-sound : goal.append_all-requires-clause-sound
append_all-requires-clause-sound c = (c.requires.sound.0, sound_stays c.args.bunch.now.w.index c.args.store.now c.pay_judged.new.store c.args.page.now c.requires.sound.0 c.requires.sound.1 (c.pay_judged.ensures.kept []))

pub append_all-requires-clause-targets : goal.append_all-requires-clause-targets
append_all-requires-clause-targets c = c.requires.nodes.own

pub append_all-requires-clause-news : goal.append_all-requires-clause-news
append_all-requires-clause-news c = c.requires.news

pub returns-in_ok-settle-in-Ok-clause-ends : goal.returns-in_ok-settle-in-Ok-clause-ends
returns-in_ok-settle-in-Ok-clause-ends c = λ l b sound.
    let w = c.args.bunch.now.w.index in
    let p = c.args.page.now in
    let q = c.append_all.new.page in
    let s = c.args.store.now in
    let m = c.pay_judged.new.store in
    let t = c.append_all.new.store in
    let targets = c.args.bunch.now.nodes.now in
    let ns = map (number p w) targets in
    let ms = map (number p w) c.args.news.now in
    let us = trees_at p w c.args.news.now in
    let v = seen w s.cells (value.Ref c.args.bunch.now.cell) in
    let copies = length ns - 1 in
    let many = ap (λ k. k - 1) (sym (length-map targets (number p w))) in
    let paid = c.in_ok-pay_judged-in-Ok.ensures.paid p l sound.holds in
    let kept = keeps_store w s m p l sound.holds c.pay_judged.ensures.kept in
    let later = c.append_all.ensures.kept l kept.holds in
    let done = c.in_ok-append_all-in-Ok.ensures.done in
    given_back w s m t p q l b (amounts c.in-Ok.due) (λ fs x d. paid fs x b d) (appended ns ms) done kept.holds
    (λ fs x. c.in_ok-settle-in-Ok.ensures fs x l b)
    c.args.bunch.now.cell c.requires.held (store_then w s m t kept.store later.store) (done.sound l (sound_stays w s m p l sound (c.pay_judged.ensures.kept [])))
    (cost (copies * tree_units us) 0 0 (copies * size us)) (λ d u. append_paid ns ms v u) (λ fs x d. refl)
    (λ fs x k. c.in-Ok.ensures.due (copies * tree_units us) (copies * size us)
    (times copies c.saturating_sub-copies.result c.args.extent.units (tree_units us) c.saturating_mul-units.result (c.saturating_sub-copies.ensures ∙ many) c.requires.units c.saturating_mul-units.ensures)
    (times copies c.saturating_sub-copies.result c.args.extent.nodes (size us) c.saturating_mul.result (c.saturating_sub-copies.ensures ∙ many) c.requires.size c.saturating_mul.ensures)
    fs x l b k)

pub returns-in_ok-settle-in-Ok-clause-kept : goal.returns-in_ok-settle-in-Ok-clause-kept
returns-in_ok-settle-in-Ok-clause-kept c = λ l sound.
    let w = c.args.bunch.now.w.index in
    let p = c.args.page.now in
    let kept = keeps_store w c.args.store.now c.pay_judged.new.store p l sound.holds c.pay_judged.ensures.kept in
    keeps_then w c.args.store.now c.pay_judged.new.store c.append_all.new.store p p c.append_all.new.page l l kept (c.append_all.ensures.kept l kept.holds)

pub returns-in_err-settle-in-Ok-clause-kept : goal.returns-in_err-settle-in-Ok-clause-kept
returns-in_err-settle-in-Ok-clause-kept c = λ l sound.
    let w = c.args.bunch.now.w.index in
    let p = c.args.page.now in
    let kept = keeps_store w c.args.store.now c.pay_judged.new.store p l sound.holds c.pay_judged.ensures.kept in
    keeps_then w c.args.store.now c.pay_judged.new.store c.append_all.new.store p p c.append_all.new.page l l kept (c.append_all.ensures.kept l kept.holds)

pub returns-in_err-append_all-in-Ok-clause-kept : goal.returns-in_err-append_all-in-Ok-clause-kept
returns-in_err-append_all-in-Ok-clause-kept c = λ l sound.
    let w = c.args.bunch.now.w.index in
    let p = c.args.page.now in
    let kept = keeps_store w c.args.store.now c.pay_judged.new.store p l sound.holds c.pay_judged.ensures.kept in
    keeps_then w c.args.store.now c.pay_judged.new.store c.append_all.new.store p p c.append_all.new.page l l kept (c.append_all.ensures.kept l kept.holds)

pub returns-in_err-pay_judged-in-Ok-clause-kept : goal.returns-in_err-pay_judged-in-Ok-clause-kept
returns-in_err-pay_judged-in-Ok-clause-kept c = λ l sound. keeps_store c.args.bunch.now.w.index c.args.store.now c.pay_judged.new.store c.args.page.now l sound.holds c.pay_judged.ensures.kept

pub returns-in-Err-clause-ends : goal.returns-in-Err-clause-ends
returns-in-Err-clause-ends c = λ l b sound.
    let w = c.args.bunch.now.w.index in
    let p = c.args.page.now in
    let s = c.args.store.now in
    let targets = c.args.bunch.now.nodes.now in
    let ns = map (number p w) targets in
    let ms = map (number p w) c.args.news.now in
    let us = trees_at p w c.args.news.now in
    let v = seen w s.cells (value.Ref c.args.bunch.now.cell) in
    let copies = length ns - 1 in
    let many = ap (λ k. k - 1) (sym (length-map targets (number p w))) in
    record {
      leaves = λ fs x d.
          c.in-Err.ensures.stop (copies * tree_units us) (copies * size us)
          (times copies c.saturating_sub-copies.result c.args.extent.units (tree_units us) c.saturating_mul-units.result (c.saturating_sub-copies.ensures ∙ many) c.requires.units c.saturating_mul-units.ensures)
          (times copies c.saturating_sub-copies.result c.args.extent.nodes (size us) c.saturating_mul.result (c.saturating_sub-copies.ensures ∙ many) c.requires.size c.saturating_mul.ensures)
          fs x l b (λ (u : State). give v (appended ns ms u));
      fine = tt;
      fires = tt;
      sound = sound;
    }

pub returns-in-Err-clause-kept : goal.returns-in-Err-clause-kept
returns-in-Err-clause-kept c = λ l sound. keeps_here c.args.bunch.now.w.index c.args.store.now c.args.page.now l sound.holds
