use Rattle.widget_meaning.specs.Values.{Text}
use Rattle.widget_meaning.specs.Costs.{give}
use Rattle.native_common.proofs.giving.make_text.Goals as goal

pub returns-in-Done : goal.returns-in-Done
returns-in-Done c = record {
  leaves = λ fs r node d. c.in-Done.ensures.plan fs r (give (Text c.args.text));
  fine = tt;
  kept = c.in-Done.ensures.kept;
}

pub returns-in-Stop : goal.returns-in-Stop
returns-in-Stop c = record {
  leaves = λ fs r node d. c.in-Stop.ensures.plan fs r (give (Text c.args.text));
  fine = tt;
  kept = c.in-Stop.ensures.kept;
}
