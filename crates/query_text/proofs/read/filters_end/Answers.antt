use Rattle.std.proofs.lemmas.Result.{err_from_is_err_and}
use Rattle.query_text.proofs.Reading.{filters_begin, filters_alike, filters_refused}
use Rattle.query_text.specs.declared.QueryFault.TheVariants as fault
use Rattle.query_text.proofs.read.filters_end.Goals as goal

pub filters-init : goal.filters-init
filters-init c = filters_begin _ _ c.requires

pub returns-in_err-next : goal.returns-in_err-next
returns-in_err-next c =
    let p = err_from_is_err_and c.from_residual.result c.from_residual.ensures.1 in
    rw (p.1, p.2) (filters_refused _ _ _ (fault.BadQuery _) c.filters.invariant c.in_err-next.ensures)

pub filters-preserved : goal.filters-preserved
filters-preserved c = filters_alike _ _ _ _ _ _ c.filters.invariant c.in_ok-next.ensures c.alike_end-place.ensures
