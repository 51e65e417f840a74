use Rattle.std.proofs.Common.{◌≡◌, ◌<◌, [], ◌∷◌, List, arith, ap, ◌∙◌, length, refl, subst, sym}
use Rattle.std.specs.Prelude.{None, get_or}
use Rattle.widget_meaning.specs.Values.{Completion, Own}
use Rattle.widget_meaning.specs.OwnState.{State}
use Rattle.widget_meaning.specs.Calls.{invoke}
use Rattle.widget_meaning.specs.Dispatch.{dispatch_end, handlers}
use Rattle.widget_meaning.specs.Plan as plan
use Rattle.widget_meaning.specs.Plan.{Do, Ret, after, and_then}
use Rattle.widget_meaning.proofs.Runs.{and_then_assoc}
use Rattle.turn_dispatch.specs.Answered.{remaining}
use Rattle.native_image.specs.Image.{beside}
use Rattle.native_image.proofs.Joint.{rest}
use Rattle.turn_dispatch.specs.declared.level.Hearing.{Hearing}
use Rattle.turn_dispatch.specs.declared.level.Level.{Level}
use Rattle.turn_dispatch.specs.declared.level.Level.TheVariants as level
use Rattle.turn_dispatch.specs.Held.{FineHearing}
use Rattle.turn_dispatch.specs.Levels.{functions_of, hearing_of, levels_rest}
use Rattle.turn_dispatch.specs.Turns.{bubbled_of, outside_of, turn_image}
use Rattle.turn_dispatch.specs.Waiting.{FineLevels}
use Rattle.turn_dispatch.specs.Weights.{levels_free}
use Rattle.turn_dispatch.proofs.Stays.{fine_push, levels_last}
use Rattle.turn_dispatch.proofs.Taken.{free_last}
use Rattle.turn_steps.proofs.Moved.{first_function, moves_alike, moves_is}
use Rattle.turn_steps.proofs.moving.begin.Goals as goal

pub call_handler-requires : goal.call_handler-requires
call_handler-requires c = subst (λ (h : Hearing). 0 < length h.handlers.items) (sym c.deref.ensures) c.requires

pub returns : goal.returns
returns c =
    let w = c.args.w.index in
    let h = c.args.hearing.value in
    let t = c.in_ok-task.task.value in
    let b = c.args.calls.now in
    let ds = b.dispatches.items in
    let next = level.Hears c.args.hearing 1 in
    let same = c.deref.ensures in record {
      moves = λ fs x s p l lt fine.
          let cells = s.cells in
          let st = turn_image fs x w s p l ds in
          let r = rest w lt (outside_of x ds) (beside s p l (bubbled_of ds)) in
          let e = hearing_of w cells p h in
          let below = levels_rest fs w cells p b.levels.items in
          let go = λ (o : Completion) (u : State). and_then (and_then (after (λ v q. handlers e.others e q) o u) (dispatch_end e)) below in
          let called = subst (λ (g : Hearing). remaining fs w s t r ≡ Do (plan.Call (Own (get_or (functions_of w cells p g) 0 0)) None ((hearing_of w cells p g).event ∷ []) g.dispatch.depth) st Ret) same
          (c.in_ok-task.ensures.plan fs s p r (subst (FineHearing w cells p) (sym same) fine)) in
          let first = first_function (functions_of w cells p h) in
          moves_is 0 st (Do (plan.Hear e) st below) (Do (plan.Call (Own e.first) None (e.event ∷ []) e.depth) st go) _ _ refl
          (ap (λ n. Do (plan.Call (Own n) None (e.event ∷ []) e.depth) st go) first
          ∙ (ap (λ q. and_then q go) (sym called)
          ∙ (ap (λ k. and_then (remaining fs w s t r) k) (sym (levels_last fs w cells p b.levels.items next))
          ∙ ap (λ (ls : List Level). and_then (remaining fs w s t r) (levels_rest fs w cells p ls)) (sym c.in_ok-push.ensures.items))))
          (moves_alike st (plan.Hear e) (plan.Call (Own e.first) None (e.event ∷ []) e.depth) below go
          (ap (λ q. and_then q below) (and_then_assoc (invoke (Own e.first) None (e.event ∷ []) e.depth st) (after (λ v q. handlers e.others e q)) (dispatch_end e))
          ∙ and_then_assoc (invoke (Own e.first) None (e.event ∷ []) e.depth st) (λ o u. and_then (after (λ v q. handlers e.others e q) o u) (dispatch_end e)) below));
      fine = λ fs s p fine levels. (
        c.in_ok-task.ensures.fine fs s p (subst (FineHearing w s.cells p) (sym same) fine),
        subst (FineLevels fs w s.cells p) (sym c.in_ok-push.ensures.items) (fine_push fs w s.cells p b.levels.items next levels fine),
      );
      near = omega (arith, c.in_ok-task.ensures.free, ap levels_free c.in_ok-push.ensures.items, free_last b.levels.items next);
    }
