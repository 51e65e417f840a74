use Rattle.widget_meaning.proofs.SortHolds.{sort_laws}
use Rattle.widget_meaning.proofs.native_laws.sort.Goals as goal

-- src/native_laws.rt:16:1
pub returns : goal.returns
returns c = sort_laws
