use Rattle.std.proofs.Common.{◌∙◌, refl, subst, sym}
use Rattle.js_flow.specs.declared.job.NativeCall.{NativeCall}
use Rattle.turn_steps.specs.Carrying.{IsAnswered, IsPerformed}
use Rattle.turn_steps.proofs.Carries.{answered_moves, awaits_mid, frames_mid, keeps_native, keeps_turn, levels_mid, wanting_moves}
use Rattle.turn_steps.proofs.carrying.carry.Goals as goal

pub answer-requires-clause-frames : goal.answer-requires-clause-frames
answer-requires-clause-frames c = frames_mid c.args.shared.now c.perform.new.shared c.args.widget.now c.perform.new.widget c.perform.ensures.number c.perform.ensures.codes c.perform.ensures.kept c.args.at.0.value.frames.list.items c.requires.native.1

pub answer-requires-clause-awaits : goal.answer-requires-clause-awaits
answer-requires-clause-awaits c = awaits_mid c.args.shared.now c.perform.new.shared c.args.widget.now c.perform.new.widget c.perform.ensures.number c.perform.ensures.codes c.perform.ensures.kept c.args.at.0.value.frames.list.items c.requires.native.1 c.requires.native.3

pub answer-requires-clause-levels : goal.answer-requires-clause-levels
answer-requires-clause-levels c = levels_mid c.args.shared.now c.perform.new.shared c.args.widget.now c.perform.new.widget c.perform.ensures.number c.perform.ensures.codes c.perform.ensures.kept c.args.calls.now.levels.items c.requires.levels

pub returns-in_err-out-clause-kept : goal.returns-in_err-out-clause-kept
returns-in_err-out-clause-kept c = keeps_native c.args.shared.now c.perform.new.shared c.args.widget.now c.perform.new.widget c.perform.ensures.number c.perform.ensures.codes c.perform.ensures.kept

pub returns-then-is_wanting-clause-kept : goal.returns-then-is_wanting-clause-kept
returns-then-is_wanting-clause-kept c = keeps_native c.args.shared.now c.perform.new.shared c.args.widget.now c.perform.new.widget c.perform.ensures.number c.perform.ensures.codes c.perform.ensures.kept

pub returns-in_err-doing-clause-kept : goal.returns-in_err-doing-clause-kept
returns-in_err-doing-clause-kept c = keeps_turn c.args.shared.now c.perform.new.shared c.args.widget.now c.perform.new.widget c.perform.ensures.number c.perform.ensures.codes c.perform.ensures.kept c.answer.new.shared c.answer.ensures.kept

pub returns-clause-kept : goal.returns-clause-kept
returns-clause-kept c = keeps_turn c.args.shared.now c.perform.new.shared c.args.widget.now c.perform.new.widget c.perform.ensures.number c.perform.ensures.codes c.perform.ensures.kept c.answer.new.shared c.answer.ensures.kept

pub returns-then-is_wanting-clause-moved : goal.returns-then-is_wanting-clause-moved
returns-then-is_wanting-clause-moved c =
    let h = c.args.shared.now in
    let mid = c.perform.new.shared in
    let v = c.args.widget.now in
    let u = c.perform.new.widget in
    let calls = c.args.calls.now in
    let ds = c.perform.new.dispatches.items in
    let performed = subst (λ (n : NativeCall). IsPerformed h mid v u calls.dispatches.items ds c.args.meter.now c.perform.new.meter n c.in_ok-out.out) c.deref.ensures c.in_ok-out.ensures.carried in
    wanting_moves h mid v u c.perform.ensures.number c.perform.ensures.codes c.perform.ensures.kept calls ds c.args.meter.now c.perform.new.meter c.args.at.0 c.args.at.1 c.in_ok-out.out performed c.requires.native.1 c.requires.levels
    (record { levels = calls.levels; dispatches = c.perform.new.dispatches }) refl refl (sym c.is_wanting.ensures ∙ c.if-is_wanting.true) c.requires.native

pub returns-clause-moved : goal.returns-clause-moved
returns-clause-moved c =
    let h = c.args.shared.now in
    let mid = c.perform.new.shared in
    let v = c.args.widget.now in
    let u = c.perform.new.widget in
    let calls = c.args.calls.now in
    let ds = c.perform.new.dispatches.items in
    let performed = subst (λ (n : NativeCall). IsPerformed h mid v u calls.dispatches.items ds c.args.meter.now c.perform.new.meter n c.in_ok-out.out) c.deref.ensures c.in_ok-out.ensures.carried in
    answered_moves h mid v u c.perform.ensures.number c.perform.ensures.codes c.perform.ensures.kept calls ds c.args.meter.now c.perform.new.meter c.args.at.0 c.args.at.1 c.in_ok-out.out performed c.requires.native.1 c.requires.levels
    c.answer.new.shared (record { levels = calls.levels; dispatches = c.perform.new.dispatches }) c.answer.new.calls c.in_ok-doing.doing refl refl (sym c.is_wanting.ensures ∙ c.if-is_wanting.false) (subst (λ (n : NativeCall). IsAnswered mid c.answer.new.shared u (record { levels = calls.levels; dispatches = c.perform.new.dispatches }) c.answer.new.calls c.args.at.0.value n.depth c.in_ok-out.out c.in_ok-doing.doing) c.deref-2.ensures c.in_ok-doing.ensures.answered)
