use Rattle.std.proofs.Common.{◌-◌, map, length, nat_lt, ◌∙◌, arith}
use Rattle.reach_cert.specs.Walks.{first_from}
use Rattle.reach_cert.proofs.Judged.{then_refused, shown_is}
use Rattle.reach_cert.proofs.Steps.{if_err}
use Rattle.reach_cert.proofs.judging.judge_shown.Goals as goal

pub returns-in_err-judge_held-clause-fault : goal.returns-in_err-judge_held-clause-fault
returns-in_err-judge_held-clause-fault c =
    let cells = c.in_ok-needs.ensures in
    if_err _ _ _ c.from_residual-in_err-judge_held.ensures.1 (then_refused c.args.own.now c.args.lines.now c.judge_cells.new.lines c.in_ok-needs.needs.items cells.cells cells.none _ c.in_err-judge_held.ensures.fault)

pub returns-clause-shown : goal.returns-clause-shown
returns-clause-shown c =
    let cells = c.in_ok-needs.ensures in
    let needs = c.in_ok-needs.needs in
    let count = c.len-count.result in
    let found = c.first_over.ensures ∙ (λ i. first_from (c.number.ensures i - length (c.deref.ensures.value i)) (map (nat_lt count) (c.deref.ensures.value i))) in
    λ first at.
    shown_is c.args.own.now c.args.lines.now c.judge_cells.new.lines needs.items cells.cells cells.none c.judge_held.new.lines c.in_ok-judge_held.field-0 c.in_ok-judge_held.ensures.held c.push.new.self.items c.in_ok-push.ensures.items
    first count c.first_over.result at (c.len-count.ensures ∙ needs.ok.0) (omega (arith, c.number.type_inv, c.number.ensures)) found
