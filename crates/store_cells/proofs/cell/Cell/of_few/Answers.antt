use Rattle.std.proofs.Common.{◌∙◌, ap, sym}
use Rattle.store_cells.specs.Numbered.{live}
use Rattle.store_cells.proofs.Live.{known_live}
use Rattle.store_cells.proofs.cell.Cell.of_few.Goals as goal

pub invariant_of-result : goal.invariant_of-result
invariant_of-result c = λ none. ap live c.of_few.ensures ∙ known_live c.args.list.items c.requires.names ∙ sym c.of_few.ensures

pub returns : goal.returns
returns c =
    let is = ap live c.of_few.ensures ∙ known_live c.args.list.items c.requires.names in
    λ j. record { head = c.args.head; elements = c.new.ensures j; references = 0; entries = is j }
