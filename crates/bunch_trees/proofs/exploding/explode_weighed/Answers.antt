use Rattle.std.proofs.Common.{map, length, refl, sym, ap, ◌+◌, ◌*◌, ◌∙◌}
use Rattle.std.proofs.lemmas.List.{length-map}
use Rattle.widget_meaning.specs.BunchReads.{exploded}
use Rattle.widget_meaning.specs.Costs.{cost, give, pay, with_counts}
use Rattle.widget_meaning.specs.OwnState.{State}
use Rattle.widget_meaning.specs.Values.{Own}
use Rattle.page_image.specs.Image.{number}
use Rattle.native_image.specs.Image.{beside, image}
use Rattle.native_image.specs.Weights.{amounts}
use Rattle.native_image.proofs.Keeping.{host_here, keeps_here, page_same}
use Rattle.bunch_trees.proofs.exploding.explode_weighed.Goals as goal

pub make_exploded-requires-clause-sound : goal.make_exploded-requires-clause-sound
make_exploded-requires-clause-sound c = c.requires.sound

pub returns-in_ok-settle-in-Ok-clause-ends : goal.returns-in_ok-settle-in-Ok-clause-ends
returns-in_ok-settle-in-Ok-clause-ends c = λ l b sound.
    let w = c.args.w.index in
    let p = c.args.page.now in
    let s = c.args.store.now in
    let t = c.make_exploded.new.store in
    let ns = map (number p w) c.args.nodes.now in
    let made = c.in_ok-array-in-Ok.ensures.made l sound in
    record {
      leaves = λ fs x d.
          let u = image fs x w (beside s p l b) in
          let go = λ (y : State). give (Own (length y.own.heap)) (exploded ns y) in
          (λ j. pay (cost 0 (length-map c.args.nodes.now (number p w) j + 1) (3 * length-map c.args.nodes.now (number p w) j) 0) u go)
          ∙ c.in-Ok.ensures.due 0 0 refl refl fs x l b go
          ∙ (λ j. give (sym (made.number fs x b) j)
          ((sym (made.state fs x b (amounts c.in-Ok.due)) ∙ ap (with_counts (image fs x w (beside t p l b))) (sym (c.in_ok-settle-in-Ok.ensures fs x l b))) j));
      fine = made.held;
      fires = tt;
      sound = c.make_exploded.ensures.sound l sound;
    }

pub returns-in_ok-settle-in-Ok-clause-kept : goal.returns-in_ok-settle-in-Ok-clause-kept
returns-in_ok-settle-in-Ok-clause-kept c = λ l sound. record { store = c.make_exploded.ensures.kept; page = page_same c.args.w.index c.args.page.now; host = host_here c.args.page.now; holds = (c.make_exploded.ensures.sound l sound).holds }

pub returns-in_err-settle-in-Ok-clause-kept : goal.returns-in_err-settle-in-Ok-clause-kept
returns-in_err-settle-in-Ok-clause-kept c = λ l sound. record { store = c.make_exploded.ensures.kept; page = page_same c.args.w.index c.args.page.now; host = host_here c.args.page.now; holds = (c.make_exploded.ensures.sound l sound).holds }

pub returns-in_err-array-in-Ok-clause-kept : goal.returns-in_err-array-in-Ok-clause-kept
returns-in_err-array-in-Ok-clause-kept c = λ l sound. record { store = c.make_exploded.ensures.kept; page = page_same c.args.w.index c.args.page.now; host = host_here c.args.page.now; holds = (c.make_exploded.ensures.sound l sound).holds }

pub returns-in-Err-clause-ends : goal.returns-in-Err-clause-ends
returns-in-Err-clause-ends c = λ l b sound.
    let w = c.args.w.index in
    let p = c.args.page.now in
    let s = c.args.store.now in
    let ns = map (number p w) c.args.nodes.now in
    record {
      leaves = λ fs x d.
          let u = image fs x w (beside s p l b) in
          let go = λ (y : State). give (Own (length y.own.heap)) (exploded ns y) in
          (λ j. pay (cost 0 (length-map c.args.nodes.now (number p w) j + 1) (3 * length-map c.args.nodes.now (number p w) j) 0) u go)
          ∙ c.in-Err.ensures.stop 0 0 refl refl fs x l b go;
      fine = tt;
      fires = tt;
      sound = sound;
    }

pub returns-in-Err-clause-kept : goal.returns-in-Err-clause-kept
returns-in-Err-clause-kept c = λ l sound. keeps_here c.args.w.index c.args.store.now c.args.page.now l sound.holds
