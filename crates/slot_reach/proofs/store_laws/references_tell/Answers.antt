use Rattle.std.proofs.Common.{refl}
use Rattle.store_cells.specs.declared.kind.Form.TheVariants as form
use Rattle.slot_reach.proofs.Owning.{tells_cell, tells_form}
use Rattle.slot_reach.proofs.store_laws.references_tell.Goals as goal

pub returns-clause-cell : goal.returns-clause-cell
returns-clause-cell c names cells i number name = tells_cell names cells i name number

pub returns-clause-raw : goal.returns-clause-raw
returns-clause-raw c names cells i n out at = tells_form names cells i (form.RawNode n) out at refl

pub returns-clause-global : goal.returns-clause-global
returns-clause-global c names cells i out at = tells_form names cells i form.Global out at refl
