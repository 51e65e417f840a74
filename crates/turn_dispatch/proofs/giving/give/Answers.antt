use Rattle.std.proofs.Common.{arith, ap, ◌∙◌, refl, subst, sym}
use Rattle.widget_meaning.specs.Plan as plan
use Rattle.widget_meaning.specs.Plan.{Do, and_then}
use Rattle.turn_dispatch.specs.Levels.{hearing_of, levels_rest}
use Rattle.turn_dispatch.specs.declared.calls.Calls.{Calls}
use Rattle.turn_dispatch.specs.declared.calls.Took.{Took}
use Rattle.turn_dispatch.specs.Took.{FineTook, took_plan}
use Rattle.turn_dispatch.specs.Turns.{turn_image}
use Rattle.turn_dispatch.specs.Waiting.{FineLevels}
use Rattle.turn_dispatch.specs.Weights.{GivesOn, took_free}
use Rattle.turn_dispatch.proofs.Given.{given_fine, given_less, given_near, given_next}
use Rattle.turn_dispatch.proofs.Kept.{sound_same, sound_then}
use Rattle.turn_dispatch.proofs.Stays.{fine_pop}
use Rattle.turn_dispatch.proofs.Taken.{pushed}
use Rattle.turn_dispatch.proofs.giving.give.Goals as goal

pub levels-init : goal.levels-init
levels-init c = record {
  same = λ fs x fine. refl;
  held = c.requires.how;
  fine = λ fs h. h;
  near = omega arith;
  kept = sound_same c.args.site.now.id.index c.args.site.now.page.now c.args.store.now;
}

pub take-requires-clause-sound : goal.take-requires-clause-sound
take-requires-clause-sound c = c.levels.invariant.kept.sound c.args.site.now.around.now c.requires.sound

pub take-requires-clause-level : goal.take-requires-clause-level
take-requires-clause-level c =
    let w = c.args.site.now.id.index in
    let p = c.args.site.now.page.now in
    let g = c.requires.levels in
    (g.0, (fine_pop g.0 w c.levels.store.cells p c.pop.new.self.items c.in-Some.level (subst (FineLevels g.0 w c.levels.store.cells p) c.in-Some.ensures.items (c.levels.invariant.fine g.0 g.1))).1)

pub levels-smaller : goal.levels-smaller
levels-smaller c =
    let w = c.args.site.now.id.index in
    let p = c.args.site.now.page.now in
    let l = c.args.site.now.around.now in
    let mid = c.levels.store in
    let new = c.take.new.store in
    let before : Calls = record { levels = c.pop.new.self; dispatches = c.levels.calls.dispatches } in
    let all = c.levels.calls.levels.items in
    let t = c.in_ok-next.field-0 in
    let taken = c.in_ok-next.ensures.taken in
    given_less w p l mid new before c.take.new.calls c.in-Some.level c.levels.how t taken all c.in-Some.ensures.items (subst GivesOn (sym c.in-Gives.is) tt)

pub levels-preserved : goal.levels-preserved
levels-preserved c =
    let w = c.args.site.now.id.index in
    let p = c.args.site.now.page.now in
    let l = c.args.site.now.around.now in
    let mid = c.levels.store in
    let new = c.take.new.store in
    let before : Calls = record { levels = c.pop.new.self; dispatches = c.levels.calls.dispatches } in
    let all = c.levels.calls.levels.items in
    let t = c.in_ok-next.field-0 in
    let taken = c.in_ok-next.ensures.taken in
    let inv = c.levels.invariant in
    let g = c.requires.levels in record {
      same = λ fs x fine.
          inv.same fs x fine
          ∙ (given_next w p l mid new before c.take.new.calls c.in-Some.level c.levels.how t taken all c.in-Some.ensures.items fs x (inv.fine fs fine)
          ∙ ap (λ (q : Took). and_then (took_plan fs w new.cells p q (turn_image fs x w new p l c.take.new.calls.dispatches.items)) (levels_rest fs w new.cells p c.take.new.calls.levels.items)) c.in-Gives.is);
      held = subst (λ (q : Took). FineTook g.0 w new p q) c.in-Gives.is (given_fine w p l mid new before c.take.new.calls c.in-Some.level c.levels.how t taken all c.in-Some.ensures.items g.0 (inv.fine g.0 g.1)).0;
      fine = λ fs h. (given_fine w p l mid new before c.take.new.calls c.in-Some.level c.levels.how t taken all c.in-Some.ensures.items fs (inv.fine fs h)).1;
      near = omega (arith, inv.near, given_near w p l mid new before c.take.new.calls c.in-Some.level c.levels.how t taken all c.in-Some.ensures.items);
      kept = sound_then w p c.args.store.now mid new inv.kept c.take.ensures.kept;
    }

pub returns-in-Stops-clause-plan : goal.returns-in-Stops-clause-plan
returns-in-Stops-clause-plan c = λ fs x fine.
    let w = c.args.site.now.id.index in
    let p = c.args.site.now.page.now in
    let l = c.args.site.now.around.now in
    let mid = c.levels.store in
    let new = c.take.new.store in
    let before : Calls = record { levels = c.pop.new.self; dispatches = c.levels.calls.dispatches } in
    let all = c.levels.calls.levels.items in
    let t = c.in_ok-next.field-0 in
    let taken = c.in_ok-next.ensures.taken in
    c.levels.invariant.same fs x fine
    ∙ (given_next w p l mid new before c.take.new.calls c.in-Some.level c.levels.how t taken all c.in-Some.ensures.items fs x (c.levels.invariant.fine fs fine)
    ∙ ap (λ (q : Took). and_then (took_plan fs w new.cells p q (turn_image fs x w new p l c.take.new.calls.dispatches.items)) (levels_rest fs w new.cells p c.take.new.calls.levels.items)) c.in-Stops.is)

pub returns-in-Runs-clause-plan : goal.returns-in-Runs-clause-plan
returns-in-Runs-clause-plan c = λ fs x fine.
    let w = c.args.site.now.id.index in
    let p = c.args.site.now.page.now in
    let l = c.args.site.now.around.now in
    let mid = c.levels.store in
    let new = c.take.new.store in
    let before : Calls = record { levels = c.pop.new.self; dispatches = c.levels.calls.dispatches } in
    let all = c.levels.calls.levels.items in
    let t = c.in_ok-next.field-0 in
    let taken = c.in_ok-next.ensures.taken in
    c.levels.invariant.same fs x fine
    ∙ (given_next w p l mid new before c.take.new.calls c.in-Some.level c.levels.how t taken all c.in-Some.ensures.items fs x (c.levels.invariant.fine fs fine)
    ∙ ap (λ (q : Took). and_then (took_plan fs w new.cells p q (turn_image fs x w new p l c.take.new.calls.dispatches.items)) (levels_rest fs w new.cells p c.take.new.calls.levels.items)) c.in-Runs.is)

pub returns-in-Hears-clause-plan : goal.returns-in-Hears-clause-plan
returns-in-Hears-clause-plan c = λ fs x fine.
    let w = c.args.site.now.id.index in
    let p = c.args.site.now.page.now in
    let l = c.args.site.now.around.now in
    let mid = c.levels.store in
    let new = c.take.new.store in
    let before : Calls = record { levels = c.pop.new.self; dispatches = c.levels.calls.dispatches } in
    let all = c.levels.calls.levels.items in
    let t = c.in_ok-next.field-0 in
    let taken = c.in_ok-next.ensures.taken in
    c.levels.invariant.same fs x fine
    ∙ (given_next w p l mid new before c.take.new.calls c.in-Some.level c.levels.how t taken all c.in-Some.ensures.items fs x (c.levels.invariant.fine fs fine)
    ∙ (ap (λ (q : Took). and_then (took_plan fs w new.cells p q (turn_image fs x w new p l c.take.new.calls.dispatches.items)) (levels_rest fs w new.cells p c.take.new.calls.levels.items)) c.in-Hears.is
    ∙ ap (λ u. Do (plan.Hear (hearing_of w new.cells p c.in-Hears.hearing.value)) u (levels_rest fs w new.cells p c.take.new.calls.levels.items))
    (pushed fs x w new p l c.take.new.calls.dispatches.items ∙ ap (turn_image fs x w new p l) (sym c.in_ok-push-in-Hears.ensures.items))))

pub returns-in-Stops-clause-fine : goal.returns-in-Stops-clause-fine
returns-in-Stops-clause-fine c = λ fs fine.
    let w = c.args.site.now.id.index in
    let p = c.args.site.now.page.now in
    let l = c.args.site.now.around.now in
    let mid = c.levels.store in
    let new = c.take.new.store in
    let before : Calls = record { levels = c.pop.new.self; dispatches = c.levels.calls.dispatches } in
    let all = c.levels.calls.levels.items in
    let t = c.in_ok-next.field-0 in
    let taken = c.in_ok-next.ensures.taken in
    let f = given_fine w p l mid new before c.take.new.calls c.in-Some.level c.levels.how t taken all c.in-Some.ensures.items fs (c.levels.invariant.fine fs fine) in
    (subst (λ (q : Took). FineTook fs w new p q) c.in-Stops.is f.0, f.1)

pub returns-in-Stops-clause-near : goal.returns-in-Stops-clause-near
returns-in-Stops-clause-near c =
    let w = c.args.site.now.id.index in
    let p = c.args.site.now.page.now in
    let l = c.args.site.now.around.now in
    let mid = c.levels.store in
    let new = c.take.new.store in
    let before : Calls = record { levels = c.pop.new.self; dispatches = c.levels.calls.dispatches } in
    let all = c.levels.calls.levels.items in
    let t = c.in_ok-next.field-0 in
    let taken = c.in_ok-next.ensures.taken in
    omega (arith, c.levels.invariant.near, given_near w p l mid new before c.take.new.calls c.in-Some.level c.levels.how t taken all c.in-Some.ensures.items, ap took_free c.in-Stops.is)

pub returns-in-Runs-clause-fine : goal.returns-in-Runs-clause-fine
returns-in-Runs-clause-fine c = λ fs fine.
    let w = c.args.site.now.id.index in
    let p = c.args.site.now.page.now in
    let l = c.args.site.now.around.now in
    let mid = c.levels.store in
    let new = c.take.new.store in
    let before : Calls = record { levels = c.pop.new.self; dispatches = c.levels.calls.dispatches } in
    let all = c.levels.calls.levels.items in
    let t = c.in_ok-next.field-0 in
    let taken = c.in_ok-next.ensures.taken in
    let f = given_fine w p l mid new before c.take.new.calls c.in-Some.level c.levels.how t taken all c.in-Some.ensures.items fs (c.levels.invariant.fine fs fine) in
    (subst (λ (q : Took). FineTook fs w new p q) c.in-Runs.is f.0, f.1)

pub returns-in-Runs-clause-near : goal.returns-in-Runs-clause-near
returns-in-Runs-clause-near c =
    let w = c.args.site.now.id.index in
    let p = c.args.site.now.page.now in
    let l = c.args.site.now.around.now in
    let mid = c.levels.store in
    let new = c.take.new.store in
    let before : Calls = record { levels = c.pop.new.self; dispatches = c.levels.calls.dispatches } in
    let all = c.levels.calls.levels.items in
    let t = c.in_ok-next.field-0 in
    let taken = c.in_ok-next.ensures.taken in
    omega (arith, c.levels.invariant.near, given_near w p l mid new before c.take.new.calls c.in-Some.level c.levels.how t taken all c.in-Some.ensures.items, ap took_free c.in-Runs.is)

pub returns-in-Hears-clause-fine : goal.returns-in-Hears-clause-fine
returns-in-Hears-clause-fine c = λ fs fine.
    let w = c.args.site.now.id.index in
    let p = c.args.site.now.page.now in
    let l = c.args.site.now.around.now in
    let mid = c.levels.store in
    let new = c.take.new.store in
    let before : Calls = record { levels = c.pop.new.self; dispatches = c.levels.calls.dispatches } in
    let all = c.levels.calls.levels.items in
    let t = c.in_ok-next.field-0 in
    let taken = c.in_ok-next.ensures.taken in
    let f = given_fine w p l mid new before c.take.new.calls c.in-Some.level c.levels.how t taken all c.in-Some.ensures.items fs (c.levels.invariant.fine fs fine) in
    (subst (λ (q : Took). FineTook fs w new p q) c.in-Hears.is f.0, f.1)

pub returns-in-Hears-clause-near : goal.returns-in-Hears-clause-near
returns-in-Hears-clause-near c =
    let w = c.args.site.now.id.index in
    let p = c.args.site.now.page.now in
    let l = c.args.site.now.around.now in
    let mid = c.levels.store in
    let new = c.take.new.store in
    let before : Calls = record { levels = c.pop.new.self; dispatches = c.levels.calls.dispatches } in
    let all = c.levels.calls.levels.items in
    let t = c.in_ok-next.field-0 in
    let taken = c.in_ok-next.ensures.taken in
    omega (arith, c.levels.invariant.near, given_near w p l mid new before c.take.new.calls c.in-Some.level c.levels.how t taken all c.in-Some.ensures.items, ap took_free c.in-Hears.is)

pub returns-in_err-next-clause-sound : goal.returns-in_err-next-clause-sound
returns-in_err-next-clause-sound c = λ m h. c.take.ensures.kept.sound m (c.levels.invariant.kept.sound m h)

pub returns-in_err-next-clause-kept : goal.returns-in_err-next-clause-kept
returns-in_err-next-clause-kept c = (sound_then c.args.site.now.id.index c.args.site.now.page.now c.args.store.now c.levels.store c.take.new.store c.levels.invariant.kept c.take.ensures.kept).kept

pub returns-in-Stops-clause-sound : goal.returns-in-Stops-clause-sound
returns-in-Stops-clause-sound c = λ m h. c.take.ensures.kept.sound m (c.levels.invariant.kept.sound m h)

pub returns-in-Stops-clause-kept : goal.returns-in-Stops-clause-kept
returns-in-Stops-clause-kept c = (sound_then c.args.site.now.id.index c.args.site.now.page.now c.args.store.now c.levels.store c.take.new.store c.levels.invariant.kept c.take.ensures.kept).kept

pub returns-in-Runs-clause-sound : goal.returns-in-Runs-clause-sound
returns-in-Runs-clause-sound c = λ m h. c.take.ensures.kept.sound m (c.levels.invariant.kept.sound m h)

pub returns-in-Runs-clause-kept : goal.returns-in-Runs-clause-kept
returns-in-Runs-clause-kept c = (sound_then c.args.site.now.id.index c.args.site.now.page.now c.args.store.now c.levels.store c.take.new.store c.levels.invariant.kept c.take.ensures.kept).kept

pub returns-in_err-push-in-Hears-clause-sound : goal.returns-in_err-push-in-Hears-clause-sound
returns-in_err-push-in-Hears-clause-sound c = λ m h. c.take.ensures.kept.sound m (c.levels.invariant.kept.sound m h)

pub returns-in_err-push-in-Hears-clause-kept : goal.returns-in_err-push-in-Hears-clause-kept
returns-in_err-push-in-Hears-clause-kept c = (sound_then c.args.site.now.id.index c.args.site.now.page.now c.args.store.now c.levels.store c.take.new.store c.levels.invariant.kept c.take.ensures.kept).kept

pub returns-in-Hears-clause-sound : goal.returns-in-Hears-clause-sound
returns-in-Hears-clause-sound c = λ m h. c.take.ensures.kept.sound m (c.levels.invariant.kept.sound m h)

pub returns-in-Hears-clause-kept : goal.returns-in-Hears-clause-kept
returns-in-Hears-clause-kept c = (sound_then c.args.site.now.id.index c.args.site.now.page.now c.args.store.now c.levels.store c.take.new.store c.levels.invariant.kept c.take.ensures.kept).kept
