use Rattle.widget_meaning.proofs.NativeRowsHold.{native_rows}
use Rattle.widget_meaning.proofs.native_laws.native_rows.Goals as goal

-- src/native_laws.rt:29:1
pub returns : goal.returns
returns c = native_rows
