use Rattle.std.proofs.Common.{subst}
use Rattle.natives.specs.Refines.{RefinesWhole, plan_of}
use Rattle.turn_steps.proofs.Carried.{carried, number_same, performed_fine, reach_in}
use Rattle.turn_steps.proofs.carrying.perform.Goals as goal

pub returns-clause-carried : goal.returns-clause-carried
returns-clause-carried c =
    let old = c.args.shared.now in
    let v = c.args.widget.now in
    let new = c.call.new.shared in
    let u = c.call.new.widget in
    let has = c.call.new.meter in
    let out = c.in_ok-out.ensures in
    carried old new v u c.args.dispatches.now.items c.put_innermost.new.dispatches.items u.bubbled c.args.meter.now has c.args.native.now c.in_ok-out.out c.requires.widget (number_same v u out.id) out.codes c.in_ok-put_innermost.ensures
    (subst (λ b. RefinesWhole v.id.index (reach_in old v b) (reach_in new u u.bubbled) c.args.meter.now has (plan_of v.id.index old.store.cells c.args.native.now) c.in_ok-out.out) c.innermost-widget.ensures out.refines)

pub returns-clause-fine : goal.returns-clause-fine
returns-clause-fine c =
    let v = c.args.widget.now in
    let u = c.call.new.widget in
    let out = c.in_ok-out.ensures in
    performed_fine c.args.shared.now c.call.new.shared v u c.requires.widget out.codes (number_same v u out.id) out.kept out.refines.sound

pub returns-clause-kept : goal.returns-clause-kept
returns-clause-kept c = c.call.ensures.kept

pub returns-clause-number : goal.returns-clause-number
returns-clause-number c = number_same c.args.widget.now c.call.new.widget c.call.ensures.id

pub returns-clause-codes : goal.returns-clause-codes
returns-clause-codes c = c.call.ensures.codes

pub returns-in_err-out-clause-kept : goal.returns-in_err-out-clause-kept
returns-in_err-out-clause-kept c = c.call.ensures.kept

pub returns-in_err-out-clause-number : goal.returns-in_err-out-clause-number
returns-in_err-out-clause-number c = number_same c.args.widget.now c.call.new.widget c.call.ensures.id

pub returns-in_err-out-clause-codes : goal.returns-in_err-out-clause-codes
returns-in_err-out-clause-codes c = c.call.ensures.codes

pub returns-in_err-put_innermost-clause-kept : goal.returns-in_err-put_innermost-clause-kept
returns-in_err-put_innermost-clause-kept c = c.call.ensures.kept

pub returns-in_err-put_innermost-clause-number : goal.returns-in_err-put_innermost-clause-number
returns-in_err-put_innermost-clause-number c = number_same c.args.widget.now c.call.new.widget c.call.ensures.id

pub returns-in_err-put_innermost-clause-codes : goal.returns-in_err-put_innermost-clause-codes
returns-in_err-put_innermost-clause-codes c = c.call.ensures.codes
