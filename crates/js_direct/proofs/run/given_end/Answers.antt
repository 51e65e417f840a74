use Rattle.std.proofs.Common.{refl, arith, ap, ◌∙◌, subst}
use Rattle.widget_meaning.specs.Plan.{Ret}
use Rattle.js_image.specs.Image.{image}
use Rattle.js_flow.specs.declared.job.Completion.{Completion}
use Rattle.js_flow.specs.declared.job.Completion.TheVariants as completion
use Rattle.js_flow.specs.declared.job.Next.TheVariants as next
use Rattle.js_flow.specs.Fine.{FineCompletion}
use Rattle.js_flow.specs.Views.{completion_of}
use Rattle.js_direct.specs.declared.run.Ended.TheVariants as ended
use Rattle.js_direct.proofs.Parts.{gives, leaves}
use Rattle.js_direct.proofs.run.given_end.Goals as goal

pub returns-in-Is-clause-comes : goal.returns-in-Is-clause-comes
returns-in-Is-clause-comes c = λ fs w s h.
    gives fs w s s 1 _ c.args.run.now c.args.run.now ended.Is (completion.Is c.in-Is.value) tt refl c.requires.waits (λ r. ap (λ q. Ret (completion_of w s.cells q) (image fs r w s)) c.in-Is.is)
    (subst (λ (q : Completion). FineCompletion w s.cells q) c.in-Is.is h) (omega arith)

pub returns-in-Return-clause-comes : goal.returns-in-Return-clause-comes
returns-in-Return-clause-comes c = λ fs w s h.
    gives fs w s s 1 _ c.args.run.now c.args.run.now ended.Return (completion.Return c.in-Return.value) tt refl c.requires.waits (λ r. ap (λ q. Ret (completion_of w s.cells q) (image fs r w s)) c.in-Return.is)
    (subst (λ (q : Completion). FineCompletion w s.cells q) c.in-Return.is h) (omega arith)

pub returns-in-Throw-clause-comes : goal.returns-in-Throw-clause-comes
returns-in-Throw-clause-comes c = λ fs w s h.
    gives fs w s s 1 _ c.args.run.now c.args.run.now ended.Threw (completion.Throw c.in-Throw.value) tt refl c.requires.waits (λ r. ap (λ q. Ret (completion_of w s.cells q) (image fs r w s)) c.in-Throw.is)
    (subst (λ (q : Completion). FineCompletion w s.cells q) c.in-Throw.is h) (omega arith)

pub returns-in-Normal-clause-comes : goal.returns-in-Normal-clause-comes
returns-in-Normal-clause-comes c = λ fs w s h.
    gives fs w s s 1 _ c.args.run.now c.args.run.now ended.Normal completion.Normal tt refl c.requires.waits (λ r. ap (λ q. Ret (completion_of w s.cells q) (image fs r w s)) c.in-Normal.is)
    (subst (λ (q : Completion). FineCompletion w s.cells q) c.in-Normal.is h) (omega arith)

pub returns-in-Break-clause-comes : goal.returns-in-Break-clause-comes
returns-in-Break-clause-comes c = λ fs w s h.
    gives fs w s s 1 _ c.args.run.now c.args.run.now ended.Break completion.Break tt refl c.requires.waits (λ r. ap (λ q. Ret (completion_of w s.cells q) (image fs r w s)) c.in-Break.is)
    (subst (λ (q : Completion). FineCompletion w s.cells q) c.in-Break.is h) (omega arith)

pub returns-in-Continue-clause-comes : goal.returns-in-Continue-clause-comes
returns-in-Continue-clause-comes c = λ fs w s h.
    gives fs w s s 1 _ c.args.run.now c.args.run.now ended.Continue completion.Continue tt refl c.requires.waits (λ r. ap (λ q. Ret (completion_of w s.cells q) (image fs r w s)) c.in-Continue.is)
    (subst (λ (q : Completion). FineCompletion w s.cells q) c.in-Continue.is h) (omega arith)

pub returns-in-Refers-clause-comes : goal.returns-in-Refers-clause-comes
returns-in-Refers-clause-comes c = λ fs w s h.
    leaves fs w s s 1 _ c.args.run.now c.set_next.new.run ended.Left _ (next.Give (completion.Refers c.in-Refers.of)) refl c.set_next.ensures.units
    (ap (λ v. v.items) c.set_next.ensures.waits ∙ c.requires.waits) c.set_next.ensures.next (λ r. ap (λ q. Ret (completion_of w s.cells q) (image fs r w s)) c.in-Refers.is)
    (subst (λ (q : Completion). FineCompletion w s.cells q) c.in-Refers.is h) (omega arith)
