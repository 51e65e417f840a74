use Rattle.widget_meaning.proofs.rows.page_rows.Goals as goal
use Rattle.widget_meaning.proofs.PageRowsHold.{page_rows}

-- src/rows.rt
pub returns : goal.returns
returns c = page_rows
