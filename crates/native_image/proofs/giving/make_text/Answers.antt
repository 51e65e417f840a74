use Rattle.widget_meaning.specs.Costs.{give}
use Rattle.widget_meaning.specs.Values.{Text}
use Rattle.native_image.proofs.giving.make_text.Goals as goal

pub returns-in-Done-clause-ends : goal.returns-in-Done-clause-ends
returns-in-Done-clause-ends c = record {
  leaves = λ fs r node d. c.in-Done.ensures.plan fs r (give (Text c.args.text));
  fine = tt;
  kept = c.in-Done.ensures.kept;
}

pub returns-in-Stop-clause-ends : goal.returns-in-Stop-clause-ends
returns-in-Stop-clause-ends c = record {
  leaves = λ fs r node d. c.in-Stop.ensures.plan fs r (give (Text c.args.text));
  fine = tt;
  kept = c.in-Stop.ensures.kept;
}
