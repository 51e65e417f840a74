use Rattle.std.proofs.Common.{ap, ◌∙◌, subst}
use Rattle.widget_meaning.specs.Costs.{give}
use Rattle.js_image.specs.Plans.{IsFineMade, made_plan}
use Rattle.native_image.specs.Image.{beside, image}
use Rattle.native_image.proofs.bunches.give_bunch.Goals as goal

pub returns-in-Cell-clause-ends : goal.returns-in-Cell-clause-ends
returns-in-Cell-clause-ends c = λ l b sound. record {
  leaves = λ fs x d. c.in_ok-id.ensures.plan fs x l b give sound.holds ∙ ap (λ m. made_plan c.args.w.index c.make_bunch.new.store.cells m give (image fs x c.args.w.index (beside c.make_bunch.new.store c.args.page.now l b))) c.in-Cell.is;
  fine = subst (IsFineMade c.args.w.index c.make_bunch.new.store.cells) c.in-Cell.is c.in_ok-id.ensures.fine;
  fires = tt;
  sound = c.make_bunch.ensures.sound l sound;
}

pub returns-in-Stop-clause-ends : goal.returns-in-Stop-clause-ends
returns-in-Stop-clause-ends c = λ l b sound. record {
  leaves = λ fs x d. c.in_ok-id.ensures.plan fs x l b give sound.holds ∙ ap (λ m. made_plan c.args.w.index c.make_bunch.new.store.cells m give (image fs x c.args.w.index (beside c.make_bunch.new.store c.args.page.now l b))) c.in-Stop.is;
  fine = tt;
  fires = tt;
  sound = c.make_bunch.ensures.sound l sound;
}
