use Rattle.std.proofs.Common.{◌∙◌}
use Rattle.reach_cert.proofs.Judged.{cells_more, cells_refused}
use Rattle.reach_cert.proofs.judging.judge_cells.Goals as goal

pub returns-in_default-row_need-clause-fault : goal.returns-in_default-row_need-clause-fault
returns-in_default-row_need-clause-fault c =
    λ slots. rw c.fault.ensures
    (cells_refused c.args.own.now c.args.lines.now c.each.lines c.each.needs.items c.len.result _ c.each.invariant (c.len.ensures ∙ c.each.needs.ok.0) c.in-Some.ensures c.in_default-row_need.ensures slots)

pub each-preserved : goal.each-preserved
each-preserved c =
    cells_more c.args.own.now c.args.lines.now c.each.lines c.each.needs.items c.len.result _ c.each.invariant (c.len.ensures ∙ c.each.needs.ok.0) c.in-Some.ensures
    c.advance.new.self c.in-Some-row_need.need c.push.new.self.items c.advance.ensures c.in-Some-row_need.ensures c.in_ok-push.ensures.items
