use Rattle.std.proofs.Common.{ap, ◌∙◌, subst}
use Rattle.widget_meaning.specs.Costs.{give}
use Rattle.js_image.specs.Image.{image}
use Rattle.js_image.specs.Plans.{IsFineMade, made_plan}
use Rattle.native_common.proofs.giving.give_array.Goals as goal

pub returns-in-Cell-clause-native : goal.returns-in-Cell-clause-native
returns-in-Cell-clause-native c = record {
  leaves = λ fs r node d. c.in_ok-id.ensures.plan fs r give ∙ ap (λ m. made_plan c.args.w.index c.make_array.new.store.cells m give (image fs r c.args.w.index c.make_array.new.store)) c.in-Cell.is;
  fine = subst (IsFineMade c.args.w.index c.make_array.new.store.cells) c.in-Cell.is c.in_ok-id.ensures.fine;
  kept = c.make_array.ensures.kept;
}

pub returns-in-Stop-clause-native : goal.returns-in-Stop-clause-native
returns-in-Stop-clause-native c = record {
  leaves = λ fs r node d. c.in_ok-id.ensures.plan fs r give ∙ ap (λ m. made_plan c.args.w.index c.make_array.new.store.cells m give (image fs r c.args.w.index c.make_array.new.store)) c.in-Stop.is;
  fine = tt;
  kept = c.make_array.ensures.kept;
}
