use Rattle.std.proofs.Common.{◌∙◌, ap}
use Rattle.store_cells.specs.Numbered.{numbered_written}
use Rattle.store_cells.proofs.Live.{name_is, written_full, written_live}
use Rattle.store_cells.proofs.cell.Cell.write_name.Goals as goal

pub invariant_of-self-2 : goal.invariant_of-self-2
invariant_of-self-2 c = written_full c.self.inside.holes c.args.n c.args.value c.self.inside.table.entries c.insert.new.self.entries (name_is c.args.n c.requires) c.in_ok-insert.ensures.entries c.self.invariant

pub returns-clause-ok : goal.returns-clause-ok
returns-clause-ok c =
    let s = c.self.inside in
    let p = written_live c.args.n c.args.value s.table.entries c.insert.new.self.entries (name_is c.args.n c.requires) c.in_ok-insert.ensures.entries in
    (λ j. record { head = s.head; elements = s.elements; references = s.references; entries = p j }) ∙ ap (numbered_written c.args.n c.args.value 0) c.self.view_is
