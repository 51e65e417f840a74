use Rattle.std.proofs.Common.{Some, sym, ◌∙◌}
use Rattle.std.specs.Fmt.{decimal}
use Rattle.object_store.proofs.PaidPuts.{paid_closed, paid_is, paid_there, shape_unpaid}
use Rattle.object_store.proofs.Puts.{closed_after}
use Rattle.object_store.proofs.store.Store.put_index_paid_in.Goals as goal

pub returns-in_default-clause-err : goal.returns-in_default-clause-err
returns-in_default-clause-err c =
    let s = c.self in
    paid_closed c.args.self.now s.inside.names s.inside.cells.items s.inside.kept.items s.view_is s.invariant c.args.cell c.cell-held.result.now c.cell-held.ensures (decimal c.args.i) c.args.value (sym c.writer.ensures ∙ c.in_default.is)

pub returns-then-slots-eq0-clause-err : goal.returns-then-slots-eq0-clause-err
returns-then-slots-eq0-clause-err c =
    let s = c.self in
    paid_there c.args.self.now s.inside.names s.inside.cells.items s.inside.kept.items s.view_is s.invariant c.args.cell c.cell-held.result.now c.cell-held.ensures (decimal c.args.i) c.args.value c.in-Some._w (sym c.writer.ensures ∙ c.in-Some.is) (Some c.of_index-n.result) (c.of_index-n.ensures.number, c.of_index-n.ensures.within) c.slots_for-slots.result c.slots_for-slots.ensures c.if-slots-eq0.true

pub invariant_of-self-2 : goal.invariant_of-self-2
invariant_of-self-2 c =
    let s = c.self in
    let wrote = c.in_ok-write_index.ensures.ok in
    shape_unpaid s.inside.names s.inside.names s.inside.cells.items c.write_index.new.cells.items s.inside.raws.entries s.inside.kept.items s.invariant wrote.base (closed_after c.args.self.now s.inside.names s.inside.cells.items s.inside.kept.items s.view_is s.invariant c.args.cell c.cell-held.result.now c.cell-held.ensures c.in-Some._w (sym c.writer.ensures ∙ c.in-Some.is) s.inside.names c.write_index.new.cells.items _ wrote) wrote.heads

pub returns-clause-ok : goal.returns-clause-ok
returns-clause-ok c =
    let s = c.self in
    paid_is c.args.self.now s.inside.names s.inside.cells.items s.inside.kept.items s.view_is s.invariant c.args.cell c.cell-held.result.now c.cell-held.ensures (decimal c.args.i) c.args.value c.in-Some._w (sym c.writer.ensures ∙ c.in-Some.is) (Some c.of_index-n.result) (c.of_index-n.ensures.number, c.of_index-n.ensures.within) c.slots_for-slots.result c.slots_for-slots.ensures c.if-slots-eq0.false c.index_plan-plan.result (c.index_plan-plan.ensures c.args.value) s.inside.names c.write_index.new.cells.items c.in_ok-write_index.ensures.ok
