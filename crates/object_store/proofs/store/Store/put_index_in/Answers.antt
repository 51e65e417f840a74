use Rattle.std.proofs.Common.{Some, sym, ◌∙◌}
use Rattle.std.specs.Fmt.{decimal}
use Rattle.object_store.proofs.Puts.{put_cost, put_is, shape_paid, closed_after, refuses_err}
use Rattle.object_store.proofs.store.Store.put_index_in.Goals as goal

pub returns-in_err-afford-clause-err : goal.returns-in_err-afford-clause-err
returns-in_err-afford-clause-err c =
    let s = c.self in
    let cost = put_cost c.args.self.now s.inside.names s.inside.cells.items s.inside.kept.items s.view_is s.invariant c.args.cell c.cell-held.result.now c.cell-held.ensures (decimal c.args.i) c.args.value c.in-Some.w (sym c.writer.ensures ∙ c.in-Some.is) c.index_plan-plan.result (c.index_plan-plan.ensures c.args.value) (Some c.of_index-n.result) (c.of_index-n.ensures.number, c.of_index-n.ensures.within) c.slots_for-slots.result c.slots_for-slots.ensures in
    refuses_err c.from_residual.result _ c.in_err-afford.field-0.0 _ c.from_residual.ensures (λ e g. g) (cost ∙ c.in_err-afford.ensures.err)

pub invariant_of-self-2 : goal.invariant_of-self-2
invariant_of-self-2 c =
    let s = c.self in
    let wrote = c.in_ok-write_index.ensures.ok in
    shape_paid s.inside.names s.inside.names s.inside.cells.items c.write_index.new.cells.items s.inside.raws.entries s.inside.kept.items c.pay.new.kept.items s.invariant wrote.base (closed_after c.args.self.now s.inside.names s.inside.cells.items s.inside.kept.items s.view_is s.invariant c.args.cell c.cell-held.result.now c.cell-held.ensures c.in-Some.w (sym c.writer.ensures ∙ c.in-Some.is) s.inside.names c.write_index.new.cells.items _ wrote) wrote.heads c.pay.ensures.within c.in-Some.w c.slots_for-slots.result 0 c.pay.ensures.done

pub returns-clause-ok : goal.returns-clause-ok
returns-clause-ok c =
    let s = c.self in
    let cost = put_cost c.args.self.now s.inside.names s.inside.cells.items s.inside.kept.items s.view_is s.invariant c.args.cell c.cell-held.result.now c.cell-held.ensures (decimal c.args.i) c.args.value c.in-Some.w (sym c.writer.ensures ∙ c.in-Some.is) c.index_plan-plan.result (c.index_plan-plan.ensures c.args.value) (Some c.of_index-n.result) (c.of_index-n.ensures.number, c.of_index-n.ensures.within) c.slots_for-slots.result c.slots_for-slots.ensures in
    let done = put_is c.args.self.now s.inside.names s.inside.cells.items s.inside.kept.items s.view_is s.invariant c.args.cell c.cell-held.result.now c.cell-held.ensures (decimal c.args.i) c.args.value c.in-Some.w (sym c.writer.ensures ∙ c.in-Some.is) c.index_plan-plan.result (c.index_plan-plan.ensures c.args.value) (Some c.of_index-n.result) (c.of_index-n.ensures.number, c.of_index-n.ensures.within) c.slots_for-slots.result c.slots_for-slots.ensures s.inside.names c.write_index.new.cells.items c.pay.new.kept.items c.in_ok-write_index.ensures.ok c.pay.ensures.done in
    record {
      allowed = cost ∙ c.in_ok-afford.ensures.ok;
      done = done;
    }
