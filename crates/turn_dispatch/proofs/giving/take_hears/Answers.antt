use Rattle.std.proofs.Common.{◌≡◌, ◌+◌, ◌<◌, ◌≤◌, [], ◌∷◌, length, arith, ap, ◌∙◌, refl, subst, sym}
use Rattle.std.specs.Prelude.{None, get_or}
use Rattle.std.proofs.lemmas.Result.{IfOk-weaker}
use Rattle.widget_meaning.specs.Values.{Own}
use Rattle.widget_meaning.specs.Dispatch.{bubble_on}
use Rattle.widget_meaning.specs.Plan as plan
use Rattle.widget_meaning.specs.Plan.{Do, Ret, and_then}
use Rattle.js_flow.specs.Views.{completion_of}
use Rattle.native_image.specs.Image.{beside}
use Rattle.native_image.proofs.Joint.{rest}
use Rattle.js_steps.specs.Answered.{remaining}
use Rattle.turn_dispatch.specs.declared.level.Hearing.{Hearing}
use Rattle.turn_dispatch.specs.declared.level.Level.TheVariants as level
use Rattle.turn_dispatch.specs.Held.{FineHearing}
use Rattle.turn_dispatch.specs.Levels.{functions_of, hearing_of, hears_on}
use Rattle.turn_dispatch.specs.declared.calls.Took.TheVariants as took
use Rattle.turn_dispatch.specs.Turns.{bubbled_of, outside_of, turn_image}
use Rattle.turn_dispatch.proofs.Kept.{sound_same}
use Rattle.turn_dispatch.proofs.Taken.{by_value, hears_end, hears_next, hears_other, taken_back, taken_on}
use Rattle.turn_dispatch.proofs.giving.take_hears.Goals as goal

pub returns-then-not-is_value-clause-taken : goal.returns-then-not-is_value-clause-taken
returns-then-not-is_value-clause-taken c =
    let w = c.args.site.now.id.index in
    let p = c.args.site.now.page.now in
    let l = c.args.site.now.around.now in
    let s = c.args.store.now in
    let ds = c.args.calls.now.dispatches.items in
    taken_on w p l s s c.args.calls.now (record { levels = c.args.calls.now.levels; dispatches = c.close.new.dispatches }) (sound_same w p s) (level.Hears c.args.at.0 c.args.at.1) c.args.how (took.Gives c.args.how) refl
    (λ fs x lev.
    hears_other w s.cells p c.args.at.0.value c.args.at.1 c.args.how (turn_image fs x w s p l ds) (sym c.is_value.ensures ∙ c.if-not-is_value.true)
    ∙ ap (Ret (completion_of w s.cells c.args.how)) (c.close.ensures fs x w s p l).0)
    (λ fs lev. c.requires.how) (omega arith) (omega arith)

pub returns-then-next-len-clause-taken : goal.returns-then-next-len-clause-taken
returns-then-next-len-clause-taken c =
    let w = c.args.site.now.id.index in
    let p = c.args.site.now.page.now in
    let l = c.args.site.now.around.now in
    let s = c.args.store.now in
    let h = c.args.at.0.value in
    let n = c.args.at.1 in
    let t = c.in_ok-task.task in
    let ds = c.args.calls.now.dispatches.items in
    let same = c.deref-then-next-len.ensures in
    let v = by_value w s.cells c.args.how (sym c.is_value.ensures ∙ c.if-not-is_value.false) in
    let lt : n < length h.handlers.items = omega (arith, c.if-next-len.true, c.len.ensures, ap (λ (g : Hearing). length g.handlers.items) c.deref.ensures) in
    taken_back w p l s s c.args.calls.now (record { levels = c.push.new.self; dispatches = c.args.calls.now.dispatches }) (sound_same w p s) (level.Hears c.args.at.0 n) (level.Hears c.args.at.0 (n + 1)) c.args.how (took.Runs t)
    c.in_ok-push.ensures.items
    (λ fs x lev.
    let r = rest w c.args.site.now.id.small (outside_of x ds) (beside s p l (bubbled_of ds)) in
    let u = turn_image fs x w s p l ds in
    let called = subst (λ (g : Hearing). remaining fs w s t.value r ≡ Do (plan.Call (Own (get_or (functions_of w s.cells p g) n 0)) None ((hearing_of w s.cells p g).event ∷ []) g.dispatch.depth) u Ret) same
    (c.in_ok-task.ensures.plan fs s p r (subst (FineHearing w s.cells p) (sym same) lev)) in
    ap (λ o. hears_on w s.cells p h n o u) v.1 ∙ (hears_next w s.cells p h n v.0 u lt ∙ ap (λ q. and_then q (hears_on w s.cells p h (n + 1))) (sym called)))
    (λ fs lev. (c.in_ok-task.ensures.fine fs s p (subst (FineHearing w s.cells p) (sym same) lev), lev))
    (omega (arith, c.in_ok-task.ensures.free)) (λ g. absurd g)

pub returns-clause-taken : goal.returns-clause-taken
returns-clause-taken c =
    let w = c.args.site.now.id.index in
    let p = c.args.site.now.page.now in
    let l = c.args.site.now.around.now in
    let s = c.args.store.now in
    let new = c.end_dispatch.new.store in
    let h = c.args.at.0.value in
    let n = c.args.at.1 in
    let ds = c.args.calls.now.dispatches.items in
    let left = c.close-bubbled.new.dispatches.items in
    let v = by_value w s.cells c.args.how (sym c.is_value.ensures ∙ c.if-not-is_value.false) in
    let le : length h.handlers.items ≤ n = omega (arith, c.if-next-len.false, c.len.ensures, ap (λ (g : Hearing). length g.handlers.items) c.deref.ensures) in
    IfOk-weaker c.end_dispatch.result _ _
    (λ t next. taken_on w p l s new c.args.calls.now (record { levels = c.args.calls.now.levels; dispatches = c.close-bubbled.new.dispatches }) c.end_dispatch.ensures.kept (level.Hears c.args.at.0 n) c.args.how t refl
    (λ fs x lev.
    let u = turn_image fs x w s p l ds in
    let closed = c.close-bubbled.ensures fs x w s p l in
    ap (λ o. hears_on w s.cells p h n o u) v.1
    ∙ (hears_end w s.cells p h n v.0 u le
    ∙ ((λ j. bubble_on (closed.1 j) (hearing_of w s.cells p h) (closed.0 j)) ∙ next.plan fs (outside_of x left) (bubbled_of left))))
    (λ fs lev. next.fine fs) (omega (arith, next.near)) (omega arith))
    c.end_dispatch.ensures.next
