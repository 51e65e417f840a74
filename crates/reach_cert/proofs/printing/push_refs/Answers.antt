use Rattle.reach_cert.specs.Certs.{spaced_ref}
use Rattle.reach_cert.proofs.Parts.{on_err, grown, more_item, all_items}
use Rattle.reach_cert.proofs.printing.push_refs.Goals as goal

pub returns-in_err-push_spaced-clause-err : goal.returns-in_err-push_spaced-clause-err
returns-in_err-push_spaced-clause-err c = on_err c.from_residual.result (grown _ _ _ _ c.each.invariant c.in_err-push_spaced.ensures.err)

pub each-preserved : goal.each-preserved
each-preserved c = more_item spaced_ref _ _ c.target-item.result _ _ _ c.each-test.true c.target-item.is c.each.invariant c.in_ok-push_spaced.ensures.ok

pub returns-clause-ok : goal.returns-clause-ok
returns-clause-ok c = all_items spaced_ref _ _ _ _ c.each-test.false c.each.invariant
