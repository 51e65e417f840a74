use Rattle.std.proofs.Common.{eqb, subst}
use Rattle.std.specs.List.{IsDistinct}
use Rattle.std.specs.Map.{keys_of}
use Rattle.store_cells.specs.Numbered.{NumberedCell}
use Rattle.store_cells.proofs.Live.{live_distinct}
use Rattle.store_cells.proofs.cell.Cell.names_differ.Goals as goal

pub returns : goal.returns
returns c = subst (λ (x : NumberedCell). IsDistinct eqb (keys_of x.entries)) c.self.view_is (live_distinct c.self.inside.table.entries c.len-len.ensures.distinct)
