use Rattle.std.proofs.Common.{sym, ap, ◌∙◌, subst, arith}
use Rattle.std.specs.Prelude.{Option}
use Rattle.std.proofs.lemmas.Result.{IfOk-weaker}
use Rattle.widget_meaning.specs.Plan.{and_then}
use Rattle.js_flow.specs.declared.job.Completion.{Completion}
use Rattle.js_flow.specs.declared.job.Next.{Next}
use Rattle.js_flow.specs.declared.job.Next.TheVariants as next
use Rattle.js_flow.specs.Frames.{rest}
use Rattle.js_flow.specs.Left.{all_frames}
use Rattle.js_direct.specs.Comes.{FineCame, IsNative, came, came_free}
use Rattle.js_direct.specs.Going.{end_of, how_of}
use Rattle.js_direct.proofs.Parts.{left_all, left_fine, left_free_all}
use Rattle.js_direct.proofs.going.put_run.Goals as goal

pub returns-in-Some-clause-plan : goal.returns-in-Some-clause-plan
returns-in-Some-clause-plan c = λ fs w cells s.
    left_all fs w cells c.give.new.self c.args.flow.now (next.Give c.in-Some.how) s c.give.ensures
    ∙ ap (λ (x : Option Completion). and_then (came fs w cells (how_of x) (end_of x) c.args.run s) (rest fs w cells (all_frames c.args.flow.now))) (sym c.in-Some.is)

pub returns-in-Some-clause-fine : goal.returns-in-Some-clause-fine
returns-in-Some-clause-fine c = λ fs w cells h k.
    let f = subst (λ (x : Option Completion). FineCame fs w cells (how_of x) (end_of x) c.args.run) c.in-Some.is h in
    left_fine fs w cells c.give.new.self c.args.flow.now (next.Give c.in-Some.how) c.give.ensures k f.0

pub returns-in-Some-clause-free : goal.returns-in-Some-clause-free
returns-in-Some-clause-free c = λ fs w.
    omega (arith, left_free_all c.give.new.self c.args.flow.now (next.Give c.in-Some.how) c.give.ensures, ap (λ (x : Option Completion). came_free fs w (how_of x) c.args.run) c.in-Some.is)

pub returns-in-None-clause-fine : goal.returns-in-None-clause-fine
returns-in-None-clause-fine c =
    IfOk-weaker c.put_waits.result _ _
    (λ k h fs w cells f g.
    let x = subst (λ (o : Option Completion). FineCame fs w cells (how_of o) (end_of o) c.args.run) c.in-None.is f in
    h fs w cells x.0 x.1 g)
    c.put_waits.ensures.fine

pub returns-in-Some-clause-native : goal.returns-in-Some-clause-native
returns-in-Some-clause-native c = λ fs w cells h x. subst (λ (n : Next). IsNative n) (ap (λ l. l.next) c.give.ensures) x
