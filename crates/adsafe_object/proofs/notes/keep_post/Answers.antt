use Rattle.std.proofs.Common.{ℕ, ◌+◌, List, [], ◌∷◌, ◌++◌, length, map, refl, sym, ap, ◌∙◌, None, true, arith}
use Rattle.widget_meaning.specs.Values.{Truth}
use Rattle.widget_meaning.specs.OwnState.{Post, with_own}
use Rattle.widget_meaning.specs.Costs.{give, pay, units_cost}
use Rattle.widget_meaning.specs.AdsafeNatives.{with_post}
use Rattle.js_image.specs.Image.{image}
use Rattle.adsafe_object.specs.Notes.{noted, post_of}
use Rattle.adsafe_object.proofs.Noting.{posted, room_for}
use Rattle.adsafe_object.proofs.notes.keep_post.Goals as goal

pub returns-in-Stop-clause-ends : goal.returns-in-Stop-clause-ends
returns-in-Stop-clause-ends c = λ waiting log. record {
  leaves = λ fs r node d few.
      let q = noted c.args.w.index c.args.store.now.cells (record { log = log; posts = c.args.posts.now.items; asked = None }) r in
      let s = image fs q c.args.w.index c.args.store.now in
      room_for c.args.posts.now.items c.args.to.now c.args.text.now s refl (omega arith)
      ∙ ap (λ (t : List ℕ). pay (units_cost (length t + 1)) s (λ u. give (Truth true) (with_post u c.args.to.now c.args.text.now))) (sym c.units.ensures)
      ∙ c.in-Stop.ensures.plan fs q (λ u. give (Truth true) (with_post u c.args.to.now c.args.text.now));
  fine = tt;
  paid = λ f. f;
  kept = c.in-Stop.ensures.kept;
}

pub returns-in_ok-push-in-Done-clause-ends : goal.returns-in_ok-push-in-Done-clause-ends
returns-in_ok-push-in-Done-clause-ends c = λ waiting log. record {
  leaves = λ fs r node d few.
      let w = c.args.w.index in
      let q = noted w c.args.store.now.cells (record { log = log; posts = c.args.posts.now.items; asked = None }) r in
      let s = image fs q w c.args.store.now in
      let t = image fs q w c.pay_entry.new.store in
      room_for c.args.posts.now.items c.args.to.now c.args.text.now s refl (omega arith)
      ∙ ap (λ (x : List ℕ). pay (units_cost (length x + 1)) s (λ u. give (Truth true) (with_post u c.args.to.now c.args.text.now))) (sym c.units.ensures)
      ∙ c.in-Done.ensures.plan fs q (λ u. give (Truth true) (with_post u c.args.to.now c.args.text.now))
      ∙ ap (λ (l : List Post). give (Truth true) (with_own t (record t.own { posts = l })))
      (sym (ap (map post_of) c.in_ok-push-in-Done.ensures.items ∙ (λ j. map post_of (c.args.posts.now.items ++ (c.in_ok-share-in-Done.ensures j, c.in_ok-share-in-Done-2.ensures j) ∷ [])) ∙ posted c.args.posts.now.items c.args.to.now c.args.text.now));
  fine = tt;
  paid = λ f. f;
  kept = c.in-Done.ensures.kept;
}
