use Rattle.std.proofs.Common.{ℕ, ◌+◌, List, length, sym, ap, ◌∙◌, None}
use Rattle.widget_meaning.specs.Values.{Undefined}
use Rattle.widget_meaning.specs.Costs.{give, pay, units_cost}
use Rattle.widget_meaning.specs.AdsafeNatives.{with_entry}
use Rattle.js_image.specs.Image.{image}
use Rattle.adsafe_object.specs.Notes.{noted}
use Rattle.adsafe_object.proofs.notes.append.Goals as goal

pub returns-in-Stop-clause-ends : goal.returns-in-Stop-clause-ends
returns-in-Stop-clause-ends c = λ waiting posts. record {
  leaves = λ fs r node d few.
      let q = noted c.args.w.index c.args.store.now.cells (record { log = c.args.log.now.items; posts = posts; asked = None }) r in
      ap (λ (t : List ℕ). pay (units_cost (length t + 1)) (image fs q c.args.w.index c.args.store.now) (λ u. give Undefined (with_entry u c.args.text))) (sym c.units.ensures)
      ∙ c.in-Stop.ensures.plan fs q (λ u. give Undefined (with_entry u c.args.text));
  fine = tt;
  paid = λ f. f;
  kept = c.in-Stop.ensures.kept;
}

pub returns-in_ok-push-in-Done-clause-ends : goal.returns-in_ok-push-in-Done-clause-ends
returns-in_ok-push-in-Done-clause-ends c = λ waiting posts. record {
  leaves = λ fs r node d few.
      let q = noted c.args.w.index c.args.store.now.cells (record { log = c.args.log.now.items; posts = posts; asked = None }) r in
      ap (λ (t : List ℕ). pay (units_cost (length t + 1)) (image fs q c.args.w.index c.args.store.now) (λ u. give Undefined (with_entry u c.args.text))) (sym c.units.ensures)
      ∙ c.in-Done.ensures.plan fs q (λ u. give Undefined (with_entry u c.args.text))
      ∙ ap (λ (l : List (List ℕ)). give Undefined (image fs (noted c.args.w.index c.pay_entry.new.store.cells (record { log = l; posts = posts; asked = None }) r) c.args.w.index c.pay_entry.new.store)) (sym c.in_ok-push-in-Done.ensures.items);
  fine = tt;
  paid = λ f. f;
  kept = c.in-Done.ensures.kept;
}
