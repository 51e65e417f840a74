use Rattle.std.proofs.Common.{sym, ◌∙◌}
use Rattle.object_store.proofs.PaidPuts.{paid_bad, paid_closed, paid_is, paid_there, shape_unpaid}
use Rattle.object_store.proofs.Puts.{closed_after}
use Rattle.object_store.proofs.store.Store.put_paid_in.Goals as goal

pub returns-in_default-clause-err : goal.returns-in_default-clause-err
returns-in_default-clause-err c =
    let s = c.self in
    paid_closed c.args.self.now s.inside.names s.inside.cells.items s.inside.kept.items s.view_is s.invariant c.args.cell c.cell-held.result.now c.cell-held.ensures c.args.name.now c.args.value (sym c.writer.ensures ∙ c.in_default.is)

pub returns-then-slots-eq0-clause-err : goal.returns-then-slots-eq0-clause-err
returns-then-slots-eq0-clause-err c =
    let s = c.self in
    paid_there c.args.self.now s.inside.names s.inside.cells.items s.inside.kept.items s.view_is s.invariant c.args.cell c.cell-held.result.now c.cell-held.ensures c.args.name.now c.args.value c.in-Some._w (sym c.writer.ensures ∙ c.in-Some.is) c.number-number.result c.number-number.ensures.found c.slots_for-slots.result c.slots_for-slots.ensures c.if-slots-eq0.true

pub returns-in-None-clause-err : goal.returns-in-None-clause-err
returns-in-None-clause-err c =
    let s = c.self in
    paid_bad c.args.self.now s.inside.names s.inside.cells.items s.inside.kept.items s.view_is s.invariant c.args.cell c.cell-held.result.now c.cell-held.ensures c.args.name.now c.args.value c.in-Some._w (sym c.writer.ensures ∙ c.in-Some.is) c.number-number.result c.number-number.ensures.found c.slots_for-slots.result c.slots_for-slots.ensures c.if-slots-eq0.false (sym c.plan.ensures ∙ c.in-None.is)

pub invariant_of-self-in-Some-plan : goal.invariant_of-self-in-Some-plan
invariant_of-self-in-Some-plan c =
    let s = c.self in
    let wrote = c.in_ok-write-in-Some-plan.ensures.ok in
    shape_unpaid s.inside.names c.write.new.names s.inside.cells.items c.write.new.cells.items s.inside.raws.entries s.inside.kept.items s.invariant wrote.base (closed_after c.args.self.now s.inside.names s.inside.cells.items s.inside.kept.items s.view_is s.invariant c.args.cell c.cell-held.result.now c.cell-held.ensures c.in-Some._w (sym c.writer.ensures ∙ c.in-Some.is) c.write.new.names c.write.new.cells.items _ wrote) wrote.heads

pub returns-in_ok-write-in-Some-plan-clause-ok : goal.returns-in_ok-write-in-Some-plan-clause-ok
returns-in_ok-write-in-Some-plan-clause-ok c =
    let s = c.self in
    paid_is c.args.self.now s.inside.names s.inside.cells.items s.inside.kept.items s.view_is s.invariant c.args.cell c.cell-held.result.now c.cell-held.ensures c.args.name.now c.args.value c.in-Some._w (sym c.writer.ensures ∙ c.in-Some.is) c.number-number.result c.number-number.ensures.found c.slots_for-slots.result c.slots_for-slots.ensures c.if-slots-eq0.false c.in-Some-plan.plan (sym c.plan.ensures ∙ c.in-Some-plan.is) c.write.new.names c.write.new.cells.items c.in_ok-write-in-Some-plan.ensures.ok
