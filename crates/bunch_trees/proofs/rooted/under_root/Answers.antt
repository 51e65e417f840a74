use Rattle.std.proofs.Common.{map, length, refl, sym, ap, ◌∙◌}
use Rattle.widget_meaning.specs.Costs.{give, with_counts}
use Rattle.widget_meaning.specs.OwnState.{State}
use Rattle.widget_meaning.specs.Values.{Own}
use Rattle.js_image.proofs.Grown.{kept_same}
use Rattle.page_image.specs.Image.{number}
use Rattle.native_image.specs.Image.{beside, image}
use Rattle.native_image.specs.Weights.{amounts}
use Rattle.native_image.proofs.Keeping.{keeps_here, keeps_next, keeps_paged, sound_page}
use Rattle.bunch_trees.proofs.Roots.{root_comes, root_seen, with_root_bunch}
use Rattle.bunch_trees.proofs.rooted.under_root.Goals as goal

pub put_under-requires-clause-home : goal.put_under-requires-clause-home
put_under-requires-clause-home c = c.requires.sound.1.holds.home

pub bunch_of_node-requires-clause-sound : goal.bunch_of_node-requires-clause-sound
bunch_of_node-requires-clause-sound c = (c.requires.sound.0, sound_page c.args.w.index c.args.w.small c.args.page.now c.put_under.new.page c.put_under.ensures.kept c.put_under.ensures.others c.args.store.now c.requires.sound.0 c.requires.sound.1)

pub bunch_of_node-requires-clause-own : goal.bunch_of_node-requires-clause-own
bunch_of_node-requires-clause-own c = c.put_under.ensures.kept.owners c.args.w.index c.args.root ∙ c.requires.own

pub returns-in_ok-settle-in-Ok-clause-ends : goal.returns-in_ok-settle-in-Ok-clause-ends
returns-in_ok-settle-in-Ok-clause-ends c = λ l b sound.
    let w = c.args.w.index in
    let p = c.args.page.now in
    let r = c.put_under.new.page in
    let s = c.args.store.now in
    let t = c.bunch_of_node.new.store in
    let v = c.in_ok-value-in-Ok.value in
    let ms = map (number p w) c.args.news.now in
    let keeps = c.put_under.ensures.kept in
    let there = sound_page w c.args.w.small p r keeps c.put_under.ensures.others s l sound in
    let made = c.in_ok-value-in-Ok.ensures.made l there.holds in
    let put = c.in_ok-put_under-in-Ok.ensures.image in
    record {
      leaves = λ fs x d.
          c.in-Ok.ensures.due 0 0 refl refl fs x l b (λ (u : State). give (Own (length u.own.heap)) (with_root_bunch ms u))
          ∙ (λ j. give (sym (root_seen w s t p r c.args.root c.args.news.now v c.requires.first keeps put l made fs x b) j)
          ((sym (root_comes w s t p r c.args.root c.args.news.now v c.requires.first keeps put l made fs x b (amounts c.in-Ok.due)) ∙ ap (with_counts (image fs x w (beside t r l b))) (sym (c.in_ok-settle-in-Ok.ensures fs x l b))) j));
      fine = made.fine.0;
      fires = tt;
      sound = c.bunch_of_node.ensures.sound l there;
    }

pub returns-in_ok-settle-in-Ok-clause-kept : goal.returns-in_ok-settle-in-Ok-clause-kept
returns-in_ok-settle-in-Ok-clause-kept c = λ l sound.
    let w = c.args.w.index in
    let p = c.args.page.now in
    let r = c.put_under.new.page in
    let s = c.args.store.now in
    let there = sound_page w c.args.w.small p r c.put_under.ensures.kept c.put_under.ensures.others s l sound in
    keeps_next w s s c.bunch_of_node.new.store p r l l (keeps_paged w c.args.w.small s s p r l sound.holds (λ fs. kept_same fs w s s refl) c.put_under.ensures.kept c.put_under.ensures.others c.put_under.ensures.host) c.bunch_of_node.ensures.kept (c.bunch_of_node.ensures.sound l there).holds

pub returns-in_err-settle-in-Ok-clause-kept : goal.returns-in_err-settle-in-Ok-clause-kept
returns-in_err-settle-in-Ok-clause-kept c = λ l sound.
    let w = c.args.w.index in
    let p = c.args.page.now in
    let r = c.put_under.new.page in
    let s = c.args.store.now in
    let there = sound_page w c.args.w.small p r c.put_under.ensures.kept c.put_under.ensures.others s l sound in
    keeps_next w s s c.bunch_of_node.new.store p r l l (keeps_paged w c.args.w.small s s p r l sound.holds (λ fs. kept_same fs w s s refl) c.put_under.ensures.kept c.put_under.ensures.others c.put_under.ensures.host) c.bunch_of_node.ensures.kept (c.bunch_of_node.ensures.sound l there).holds

pub returns-in_err-value-in-Ok-clause-kept : goal.returns-in_err-value-in-Ok-clause-kept
returns-in_err-value-in-Ok-clause-kept c = λ l sound.
    let w = c.args.w.index in
    let p = c.args.page.now in
    let r = c.put_under.new.page in
    let s = c.args.store.now in
    let there = sound_page w c.args.w.small p r c.put_under.ensures.kept c.put_under.ensures.others s l sound in
    keeps_next w s s c.bunch_of_node.new.store p r l l (keeps_paged w c.args.w.small s s p r l sound.holds (λ fs. kept_same fs w s s refl) c.put_under.ensures.kept c.put_under.ensures.others c.put_under.ensures.host) c.bunch_of_node.ensures.kept (c.bunch_of_node.ensures.sound l there).holds

pub returns-in_err-put_under-in-Ok-clause-kept : goal.returns-in_err-put_under-in-Ok-clause-kept
returns-in_err-put_under-in-Ok-clause-kept c = λ l sound. keeps_paged c.args.w.index c.args.w.small c.args.store.now c.args.store.now c.args.page.now c.put_under.new.page l sound.holds (λ fs. kept_same fs c.args.w.index c.args.store.now c.args.store.now refl) c.put_under.ensures.kept c.put_under.ensures.others c.put_under.ensures.host

pub returns-in-Err-clause-ends : goal.returns-in-Err-clause-ends
returns-in-Err-clause-ends c = λ l b sound. record {
  leaves = λ fs x d. c.in-Err.ensures.stop 0 0 refl refl fs x l b (λ (u : State). give (Own (length u.own.heap)) (with_root_bunch (map (number c.args.page.now c.args.w.index) c.args.news.now) u));
  fine = tt;
  fires = tt;
  sound = sound;
}

pub returns-in-Err-clause-kept : goal.returns-in-Err-clause-kept
returns-in-Err-clause-kept c = λ l sound. keeps_here c.args.w.index c.args.store.now c.args.page.now l sound.holds
