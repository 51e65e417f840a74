use Rattle.std.proofs.Common.{sym, ◌∙◌}
use Rattle.query_text.proofs.Cuts.{run_begins, run_further, run_done, first_at, none_at}
use Rattle.query_text.proofs.parts.run_end.Goals as goal

pub run-init : goal.run-init
run-init c = run_begins _ _ _ c.requires

pub run-preserved : goal.run-preserved
run-preserved c = run_further _ _ _ _ c.run.invariant c.run-test.true (sym c.if-not-passes.ensures)

pub returns-then-not-passes : goal.returns-then-not-passes
returns-then-not-passes c = run_done _ _ _ _ c.run.invariant (first_at _ _ _ c.run-test.true ∙ sym c.if-not-passes.ensures)

pub returns : goal.returns
returns c = run_done _ _ _ _ c.run.invariant (none_at _ _ _ c.run-test.false)
