use Rattle.trace_text.specs.Report.{run_notes, line_end}
use Rattle.trace_text.proofs.Parts.{first_part, later_part, both_parts}
use Rattle.trace_text.proofs.report.push_ran_end.Goals as goal

pub returns-in_err-push_notes-clause-part : goal.returns-in_err-push_notes-clause-part
returns-in_err-push_notes-clause-part c =
    rw (← c.deref.ensures.value, ← c.deref-2.ensures.value) (first_part _ _ (run_notes c.deref.result.now c.deref-2.result.now) line_end c.push_notes.ensures.part)

pub returns-clause-ok : goal.returns-clause-ok
returns-clause-ok c =
    rw (← c.deref.ensures.value, ← c.deref-2.ensures.value) (both_parts _ _ _ (run_notes c.deref.result.now c.deref-2.result.now) line_end _ c.in_ok-push_notes.ensures.ok c.push_end.ensures.ok)

pub returns-clause-part : goal.returns-clause-part
returns-clause-part c =
    rw (← c.deref.ensures.value, ← c.deref-2.ensures.value) (later_part _ _ _ (run_notes c.deref.result.now c.deref-2.result.now) line_end c.in_ok-push_notes.ensures.ok c.push_end.ensures.part)
