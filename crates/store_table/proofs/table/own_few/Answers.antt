use Rattle.std.proofs.Common.{◌≡◌, ◌∙◌, ◌-◌, ◌<◌, List, Some, ap, arith, length, slice_get, sym}
use Rattle.std.proofs.lemmas.Option.{IfSome_then}
use Rattle.store_cells.specs.Numbered.{NumberedCell}
use Rattle.store_cells.proofs.Lists.{get_within}
use Rattle.store_table.proofs.Climb.{along_in, along_own}
use Rattle.store_table.proofs.table.own_few.Goals as goal

pub returns : goal.returns
returns c =
    let cs = c.args.cells.now.items in
    let i = c.args.from in
    let n = c.args.n in
    let at : slice_get cs i ≡ Some c.in_ok-cell.cell.now = ap (λ (l : List NumberedCell). slice_get l i) (sym c.deref.ensures.value) ∙ (rw c.in_ok-cell.was at c.cell_on.ensures) in
    let some : 0 < length cs = omega (arith, get_within cs i c.in_ok-cell.cell.now at) in
    let all : length cs ≡ length cs - 0 = omega arith in
    IfSome_then c.own_few.result c.own_few.ensures
    (λ v e. ap (λ m. along_in cs n m (Some i)) all ∙ along_own cs n (length cs) 0 i c.in_ok-cell.cell.now v.now some at e)
