use Rattle.reach_cert.proofs.Parts.{on_err, grown}
use Rattle.reach_cert.proofs.CellLines.{more_rows, all_rows}
use Rattle.reach_cert.proofs.printing.push_rows.Goals as goal

pub returns-in_err-push_row-clause-err : goal.returns-in_err-push_row-clause-err
returns-in_err-push_row-clause-err c = on_err c.from_residual.result (grown _ _ _ _ c.each.invariant c.in_err-push_row.ensures.err)

pub each-preserved : goal.each-preserved
each-preserved c = more_rows _ _ c.index-rows-i.result _ _ _ c.each-test.true c.index-rows-i.is c.each.invariant c.in_ok-push_row.ensures.ok

pub returns-clause-ok : goal.returns-clause-ok
returns-clause-ok c = all_rows _ _ _ _ c.each-test.false c.each.invariant
