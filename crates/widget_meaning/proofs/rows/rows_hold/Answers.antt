use Rattle.widget_meaning.proofs.rows.rows_hold.Goals as goal
use Rattle.widget_meaning.proofs.RowsHold.{rows}

-- src/rows.rt
pub returns : goal.returns
returns c = rows
