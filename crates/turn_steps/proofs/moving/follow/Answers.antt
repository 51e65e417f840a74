use Rattle.std.proofs.Common.{arith, ap, ◌∙◌, subst}
use Rattle.std.proofs.lemmas.Result.{IfOk-weaker}
use Rattle.widget_meaning.specs.Plan.{and_then}
use Rattle.js_flow.specs.declared.task.Control.{Control}
use Rattle.js_flow.specs.Fine.{FineStepped}
use Rattle.js_flow.specs.Free.{free}
use Rattle.js_flow.specs.Todo.{Follows, after_step}
use Rattle.turn_dispatch.specs.Stepped.{Stepped}
use Rattle.turn_dispatch.specs.Answered.{machine}
use Rattle.turn_dispatch.specs.Ending.{EndsCall}
use Rattle.turn_dispatch.specs.Levels.{levels_rest}
use Rattle.turn_dispatch.specs.Turns.{turn_image}
use Rattle.turn_dispatch.proofs.Kept.{sound_same}
use Rattle.turn_steps.proofs.Followed.{stop_followed}
use Rattle.turn_steps.proofs.moving.follow.Goals as goal

pub returns-in-Went-clause-followed : goal.returns-in-Went-clause-followed
returns-in-Went-clause-followed c =
    let w = c.args.site.now.id.index in
    let p = c.args.site.now.page.now in
    let l = c.args.site.now.around.now in
    let s = c.args.store.now in
    let b = c.args.calls.now in
    let t = c.args.task.value in
    let is = c.in-Went.is in record {
      plan = λ fs x fine. ap (λ (k : Stepped). and_then (after_step fs w s.cells (machine k) t.control t.frames.list.items (turn_image fs x w s p l b.dispatches.items)) (levels_rest fs w s.cells p b.levels.items)) is;
      fine = λ fs mine held levels. (record { widget = mine; going = subst (λ (k : Stepped). Follows (machine k) t.control) is c.requires.follows; control = held.0.0; frames = held.0.1; call = held.0.2 }, levels);
      near = omega arith;
    }

pub returns-in-Went-clause-kept : goal.returns-in-Went-clause-kept
returns-in-Went-clause-kept c = sound_same c.args.site.now.id.index c.args.site.now.page.now c.args.store.now

pub returns-in-Native-clause-followed : goal.returns-in-Native-clause-followed
returns-in-Native-clause-followed c =
    let w = c.args.site.now.id.index in
    let p = c.args.site.now.page.now in
    let l = c.args.site.now.around.now in
    let s = c.args.store.now in
    let b = c.args.calls.now in
    let t = c.args.task.value in
    let is = c.in-Native.is in record {
      plan = λ fs x fine. ap (λ (k : Stepped). and_then (after_step fs w s.cells (machine k) t.control t.frames.list.items (turn_image fs x w s p l b.dispatches.items)) (levels_rest fs w s.cells p b.levels.items)) is;
      fine = λ fs mine held levels. ((mine, held.0.1, subst (λ (k : Stepped). FineStepped fs w s.cells (machine k)) is held.1, subst (λ (q : Control). EndsCall fs w s q t.frames.list.items) (subst (λ (k : Stepped). Follows (machine k) t.control) is c.requires.follows) held.0.2), levels);
      near = omega (arith, ap (λ q. free q t.frames.list.items) (subst (λ (k : Stepped). Follows (machine k) t.control) is c.requires.follows));
    }

pub returns-in-Native-clause-kept : goal.returns-in-Native-clause-kept
returns-in-Native-clause-kept c = sound_same c.args.site.now.id.index c.args.site.now.page.now c.args.store.now

pub give_on-requires-clause-levels : goal.give_on-requires-clause-levels
give_on-requires-clause-levels c = let g = c.requires.levels in (g.0, g.1)

pub give_on-requires-clause-how : goal.give_on-requires-clause-how
give_on-requires-clause-how c = let g = c.requires.levels in subst (λ (k : Stepped). FineStepped g.0 c.args.site.now.id.index c.args.store.now.cells (machine k)) c.in-Done.is g.2.1

pub returns-in-Done-clause-followed : goal.returns-in-Done-clause-followed
returns-in-Done-clause-followed c =
    let w = c.args.site.now.id.index in
    let p = c.args.site.now.page.now in
    let l = c.args.site.now.around.now in
    let s = c.args.store.now in
    let b = c.args.calls.now in
    let t = c.args.task.value in
    let is = c.in-Done.is in
    IfOk-weaker c.give_on.result _ _
    (λ d h. record {
      plan = λ fs x fine. ap (λ (k : Stepped). and_then (after_step fs w s.cells (machine k) t.control t.frames.list.items (turn_image fs x w s p l b.dispatches.items)) (levels_rest fs w s.cells p b.levels.items)) is ∙ h.plan fs x fine;
      fine = λ fs mine held levels. h.fine fs levels;
      near = omega (arith, h.near);
    })
    c.give_on.ensures.given

pub give_on-requires-in-Threw-clause-levels : goal.give_on-requires-in-Threw-clause-levels
give_on-requires-in-Threw-clause-levels c = let g = c.requires.levels in (g.0, g.1)

pub give_on-requires-in-Threw-clause-how : goal.give_on-requires-in-Threw-clause-how
give_on-requires-in-Threw-clause-how c = let g = c.requires.levels in subst (λ (k : Stepped). FineStepped g.0 c.args.site.now.id.index c.args.store.now.cells (machine k)) c.in-Threw.is g.2.1

pub returns-in-Threw-clause-followed : goal.returns-in-Threw-clause-followed
returns-in-Threw-clause-followed c =
    let w = c.args.site.now.id.index in
    let p = c.args.site.now.page.now in
    let l = c.args.site.now.around.now in
    let s = c.args.store.now in
    let b = c.args.calls.now in
    let t = c.args.task.value in
    let is = c.in-Threw.is in
    IfOk-weaker c.give_on-in-Threw.result _ _
    (λ d h. record {
      plan = λ fs x fine. ap (λ (k : Stepped). and_then (after_step fs w s.cells (machine k) t.control t.frames.list.items (turn_image fs x w s p l b.dispatches.items)) (levels_rest fs w s.cells p b.levels.items)) is ∙ h.plan fs x fine;
      fine = λ fs mine held levels. h.fine fs levels;
      near = omega (arith, h.near);
    })
    c.give_on-in-Threw.ensures.given

pub returns-in-Stop-clause-followed : goal.returns-in-Stop-clause-followed
returns-in-Stop-clause-followed c =
    stop_followed c.args.site.now.id.index c.args.site.now.page.now c.args.site.now.around.now c.args.store.now c.args.calls.now c.args.task c.args.stepped c.requires.follows c.in-Stop.stop c.stopped.result c.stopped.ensures.due c.stopped.ensures.fuel c.in-Stop.is

pub returns-in-Stop-clause-kept : goal.returns-in-Stop-clause-kept
returns-in-Stop-clause-kept c = sound_same c.args.site.now.id.index c.args.site.now.page.now c.args.store.now
