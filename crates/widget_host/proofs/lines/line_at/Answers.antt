use Rattle.std.proofs.lemmas.Result.{IfOk-weaker}
use Rattle.widget_host.proofs.Shown.{life_is, line_told}
use Rattle.widget_host.proofs.lines.line_at.Goals as goal

pub spent_at-spent-requires-clause-accepted : goal.spent_at-spent-requires-clause-accepted
spent_at-spent-requires-clause-accepted c = λ l at. life_is c.args.lives.now c.args.v c.requires.accepted l at

pub returns : goal.returns
returns c =
    IfOk-weaker c.line_of.result _ _ (λ r told x at.
    line_told c.args.lives.now c.args.v c.requires.accepted r c.index.result.now c.spent_at-spent.result x c.index.ensures c.spent_at-spent.ensures told at) c.line_of.ensures
