use Rattle.widget_meaning.proofs.rows.body_rows.Goals as goal
use Rattle.widget_meaning.proofs.BodyRowsHold.{body_rows}

-- src/rows.rt
pub returns : goal.returns
returns c = body_rows
