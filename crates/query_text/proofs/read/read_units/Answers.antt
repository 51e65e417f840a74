use Rattle.std.proofs.Common.{sym}
use Rattle.std.proofs.lemmas.Result.{err_from_is_err_and}
use Rattle.query_text.specs.declared.QueryFault.TheVariants as fault
use Rattle.query_text.proofs.Reading.{steps_begin, steps_further, hunter_refused, step_refused, too_many, no_steps, query_is, query_only, query_fault, fault_only}
use Rattle.query_text.proofs.read.read_units.Goals as goal

pub steps-init : goal.steps-init
steps-init c = steps_begin _ _ _ c.run_end-at.ensures c.new-steps.ensures.items

pub returns-then-is_full-clause-only : goal.returns-then-is_full-clause-only
returns-then-is_full-clause-only c = fault_only _ _ (too_many _ _ _ c.steps.invariant _ c.deref.ensures.value (sym c.if-is_full.ensures) c.steps-test.true)

pub returns-then-is_full-clause-place : goal.returns-then-is_full-clause-place
returns-then-is_full-clause-place c = query_fault c.args.units.now (fault.BadQuery c.steps.at) (too_many _ _ _ c.steps.invariant _ c.deref.ensures.value (sym c.if-is_full.ensures) c.steps-test.true)

pub returns-in_err-hunter-clause-only : goal.returns-in_err-hunter-clause-only
returns-in_err-hunter-clause-only c =
    let p = err_from_is_err_and c.from_residual.result c.from_residual.ensures.1 in
    rw (p.1, p.2) (fault_only _ _ (hunter_refused _ _ _ c.steps.invariant _ c.deref.ensures.value (sym c.if-is_full.ensures) _ c.in_err-hunter.ensures))

pub returns-in_err-hunter-clause-place : goal.returns-in_err-hunter-clause-place
returns-in_err-hunter-clause-place c =
    let p = err_from_is_err_and c.from_residual.result c.from_residual.ensures.1 in
    rw (p.1, p.2) (query_fault _ _ (hunter_refused _ _ _ c.steps.invariant _ c.deref.ensures.value (sym c.if-is_full.ensures) _ c.in_err-hunter.ensures))

pub returns-in_err-filters-clause-only : goal.returns-in_err-filters-clause-only
returns-in_err-filters-clause-only c =
    let p = err_from_is_err_and c.from_residual-in_err-filters.result c.from_residual-in_err-filters.ensures.1 in
    rw (p.1, p.2) (fault_only _ _ (step_refused _ _ _ c.steps.invariant _ c.deref.ensures.value (sym c.if-is_full.ensures) _ _ _ c.in_ok-hunter.ensures c.in_err-filters.ensures))

pub returns-in_err-filters-clause-place : goal.returns-in_err-filters-clause-place
returns-in_err-filters-clause-place c =
    let p = err_from_is_err_and c.from_residual-in_err-filters.result c.from_residual-in_err-filters.ensures.1 in
    rw (p.1, p.2) (query_fault _ _ (step_refused _ _ _ c.steps.invariant _ c.deref.ensures.value (sym c.if-is_full.ensures) _ _ _ c.in_ok-hunter.ensures c.in_err-filters.ensures))

pub steps-preserved : goal.steps-preserved
steps-preserved c = steps_further _ _ _ c.steps.invariant _ c.deref.ensures.value (sym c.if-is_full.ensures) _ _ _ _ _ _ c.in_ok-hunter.ensures c.in_ok-filters.ensures c.run_end-at-in-steps.ensures c.in_ok-push.ensures.items

pub returns-then-has_none-clause-only : goal.returns-then-has_none-clause-only
returns-then-has_none-clause-only c = fault_only _ _ (no_steps _ _ _ c.steps.invariant _ c.deref-2.ensures.value (sym c.if-has_none.ensures) c.steps-test.false)

pub returns-then-has_none-clause-place : goal.returns-then-has_none-clause-place
returns-then-has_none-clause-place c = query_fault c.args.units.now (fault.BadQuery c.steps.at) (no_steps _ _ _ c.steps.invariant _ c.deref-2.ensures.value (sym c.if-has_none.ensures) c.steps-test.false)

pub returns-clause-query : goal.returns-clause-query
returns-clause-query c = query_is _ _ _ c.steps.invariant _ c.deref-2.ensures.value (sym c.if-has_none.ensures) c.steps-test.false

pub returns-clause-only : goal.returns-clause-only
returns-clause-only c = query_only _ _ _ c.steps.invariant _ c.deref-2.ensures.value (sym c.if-has_none.ensures) c.steps-test.false
