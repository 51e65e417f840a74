use Rattle.std.proofs.Common.{sym, ◌∙◌}
use Rattle.object_store.proofs.Puts.{closed_after}
use Rattle.object_store.proofs.Removes.{shape_same, remove_length, remove_unknown, remove_known}
use Rattle.object_store.proofs.store.Store.remove_in.Goals as goal

pub returns-then-is_length-clause-ok : goal.returns-then-is_length-clause-ok
returns-then-is_length-clause-ok c =
    let s = c.self in
    remove_length c.args.self.now s.inside.names s.inside.cells.items s.inside.kept.items s.view_is s.invariant c.args.cell c.cell-held.result.now c.cell-held.ensures c.in-Some._w (sym c.writer.ensures ∙ c.in-Some.is) c.args.name.now (sym c.if-is_length.true ∙ c.is_length.ensures)

pub returns-in_default-number-clause-ok : goal.returns-in_default-number-clause-ok
returns-in_default-number-clause-ok c =
    let s = c.self in
    remove_unknown c.args.self.now s.inside.names s.inside.cells.items s.inside.kept.items s.view_is s.invariant c.args.cell c.cell-held.result.now c.cell-held.ensures c.in-Some._w (sym c.writer.ensures ∙ c.in-Some.is) c.args.name.now (sym c.if-is_length.false ∙ c.is_length.ensures) c.in_default-number.ensures.found

pub invariant_of-self : goal.invariant_of-self
invariant_of-self c =
    let s = c.self in
    shape_same s.inside.names s.inside.cells.items c.take.new.cells.items s.inside.raws.entries s.inside.kept.items s.invariant c.take.ensures.base (closed_after c.args.self.now s.inside.names s.inside.cells.items s.inside.kept.items s.view_is s.invariant c.args.cell c.cell-held.result.now c.cell-held.ensures c.in-Some._w (sym c.writer.ensures ∙ c.in-Some.is) s.inside.names c.take.new.cells.items _ c.take.ensures) c.take.ensures.heads

pub returns-clause-ok : goal.returns-clause-ok
returns-clause-ok c =
    let s = c.self in
    remove_known c.args.self.now s.inside.names s.inside.cells.items s.inside.kept.items s.view_is s.invariant c.args.cell c.cell-held.result.now c.cell-held.ensures c.in-Some._w (sym c.writer.ensures ∙ c.in-Some.is) c.args.name.now (sym c.if-is_length.false ∙ c.is_length.ensures) c.take.new.cells.items c.take.ensures
