use Rattle.std.proofs.Common.{[], ◌*◌, map, length, refl, sym}
use Rattle.std.specs.List.{count_by, fold}
use Rattle.std.proofs.lemmas.List.{length-map}
use Rattle.store_cells.specs.declared.value.Value.TheVariants as value
use Rattle.widget_meaning.specs.BunchWrites.{has_new_text, valued}
use Rattle.widget_meaning.specs.Costs.{cost, give}
use Rattle.widget_meaning.specs.OwnState.{State}
use Rattle.js_image.specs.Image.{no_rest, seen}
use Rattle.page_image.specs.Image.{forest, number}
use Rattle.native_image.specs.Weights.{amounts}
use Rattle.native_image.proofs.Joint.{sound_stays}
use Rattle.native_image.proofs.Keeping.{keeps_here, keeps_store, keeps_then, store_then}
use Rattle.bunch_trees.specs.Values.{value_paid}
use Rattle.bunch_trees.proofs.Counting.{few_new, times}
use Rattle.bunch_trees.proofs.Ending.{given_back}
use Rattle.bunch_trees.proofs.valuing.value_weighed.Goals as goal

pub new_texts-requires : goal.new_texts-requires
new_texts-requires c = c.requires.nodes.own

pub give_all-requires-clause-sound : goal.give_all-requires-clause-sound
give_all-requires-clause-sound c = (c.requires.sound.0, sound_stays c.args.bunch.now.w.index c.args.store.now c.pay_judged.new.store c.args.page.now c.requires.sound.0 c.requires.sound.1 (c.pay_judged.ensures.kept []))

pub give_all-requires-clause-own : goal.give_all-requires-clause-own
give_all-requires-clause-own c = c.requires.nodes.own

pub give_all-requires-clause-name : goal.give_all-requires-clause-name
give_all-requires-clause-name c = c.in_ok-name-in-Ok.ensures

pub returns-in_ok-settle-in-Ok-clause-ends : goal.returns-in_ok-settle-in-Ok-clause-ends
returns-in_ok-settle-in-Ok-clause-ends c = λ l b sound.
    let w = c.args.bunch.now.w.index in
    let p = c.args.page.now in
    let q = c.give_all.new.page in
    let s = c.args.store.now in
    let m = c.pay_judged.new.store in
    let t = c.give_all.new.store in
    let nodes = c.args.bunch.now.nodes.now in
    let ns = map (number p w) nodes in
    let text = c.args.text in
    let v = seen w s.cells (value.Ref c.args.bunch.now.cell) in
    let paid = c.in_ok-pay_judged-in-Ok.ensures.paid p l sound.holds in
    let kept = keeps_store w s m p l sound.holds c.pay_judged.ensures.kept in
    let later = c.give_all.ensures.kept l kept.holds in
    let done = c.in_ok-give_all-in-Ok.ensures.done in
    let u0 = record no_rest.state { own = record no_rest.state.own { forest = forest p w } } in
    given_back w s m t p q l b (amounts c.in-Ok.due) (λ fs x d. paid fs x b d) (λ u. fold (valued text) u ns) done kept.holds
    (λ fs x. c.in_ok-settle-in-Ok.ensures fs x l b)
    c.args.bunch.now.cell c.requires.held (store_then w s m t kept.store later.store) (done.sound l (sound_stays w s m p l sound (c.pay_judged.ensures.kept [])))
    (cost (length ns * length text) 0 0 (count_by (has_new_text u0 text) ns)) (λ d u. value_paid ns text v u) (λ fs x d. refl)
    (λ fs x k. c.in-Ok.ensures.due (length ns * length text) (count_by (has_new_text u0 text) ns)
    (times (length ns) (length nodes) c.text_len.result (length text) c.saturating_mul-units.result (sym (length-map nodes (number p w))) c.text_len.ensures.counted c.saturating_mul-units.ensures)
    (few_new (has_new_text u0 text) ns nodes c.new_texts.result (length-map nodes (number p w)) c.requires.nodes.few (c.new_texts.ensures u0 refl))
    fs x l b k)

pub returns-in_ok-settle-in-Ok-clause-kept : goal.returns-in_ok-settle-in-Ok-clause-kept
returns-in_ok-settle-in-Ok-clause-kept c = λ l sound.
    let w = c.args.bunch.now.w.index in
    let p = c.args.page.now in
    let kept = keeps_store w c.args.store.now c.pay_judged.new.store p l sound.holds c.pay_judged.ensures.kept in
    keeps_then w c.args.store.now c.pay_judged.new.store c.give_all.new.store p p c.give_all.new.page l l kept (c.give_all.ensures.kept l kept.holds)

pub returns-in_err-settle-in-Ok-clause-kept : goal.returns-in_err-settle-in-Ok-clause-kept
returns-in_err-settle-in-Ok-clause-kept c = λ l sound.
    let w = c.args.bunch.now.w.index in
    let p = c.args.page.now in
    let kept = keeps_store w c.args.store.now c.pay_judged.new.store p l sound.holds c.pay_judged.ensures.kept in
    keeps_then w c.args.store.now c.pay_judged.new.store c.give_all.new.store p p c.give_all.new.page l l kept (c.give_all.ensures.kept l kept.holds)

pub returns-in_err-give_all-in-Ok-clause-kept : goal.returns-in_err-give_all-in-Ok-clause-kept
returns-in_err-give_all-in-Ok-clause-kept c = λ l sound.
    let w = c.args.bunch.now.w.index in
    let p = c.args.page.now in
    let kept = keeps_store w c.args.store.now c.pay_judged.new.store p l sound.holds c.pay_judged.ensures.kept in
    keeps_then w c.args.store.now c.pay_judged.new.store c.give_all.new.store p p c.give_all.new.page l l kept (c.give_all.ensures.kept l kept.holds)

pub returns-in_err-name-in-Ok-clause-kept : goal.returns-in_err-name-in-Ok-clause-kept
returns-in_err-name-in-Ok-clause-kept c = λ l sound. keeps_store c.args.bunch.now.w.index c.args.store.now c.pay_judged.new.store c.args.page.now l sound.holds c.pay_judged.ensures.kept

pub returns-in_err-pay_judged-in-Ok-clause-kept : goal.returns-in_err-pay_judged-in-Ok-clause-kept
returns-in_err-pay_judged-in-Ok-clause-kept c = λ l sound. keeps_store c.args.bunch.now.w.index c.args.store.now c.pay_judged.new.store c.args.page.now l sound.holds c.pay_judged.ensures.kept

pub returns-in-Err-clause-ends : goal.returns-in-Err-clause-ends
returns-in-Err-clause-ends c = λ l b sound.
    let w = c.args.bunch.now.w.index in
    let p = c.args.page.now in
    let s = c.args.store.now in
    let nodes = c.args.bunch.now.nodes.now in
    let ns = map (number p w) nodes in
    let text = c.args.text in
    let v = seen w s.cells (value.Ref c.args.bunch.now.cell) in
    let u0 = record no_rest.state { own = record no_rest.state.own { forest = forest p w } } in
    record {
      leaves = λ fs x d.
          c.in-Err.ensures.stop (length ns * length text) (count_by (has_new_text u0 text) ns)
          (times (length ns) (length nodes) c.text_len.result (length text) c.saturating_mul-units.result (sym (length-map nodes (number p w))) c.text_len.ensures.counted c.saturating_mul-units.ensures)
          (few_new (has_new_text u0 text) ns nodes c.new_texts.result (length-map nodes (number p w)) c.requires.nodes.few (c.new_texts.ensures u0 refl))
          fs x l b (λ (u : State). give v (fold (valued text) u ns));
      fine = tt;
      fires = tt;
      sound = sound;
    }

pub returns-in-Err-clause-kept : goal.returns-in-Err-clause-kept
returns-in-Err-clause-kept c = λ l sound. keeps_here c.args.bunch.now.w.index c.args.store.now c.args.page.now l sound.holds
