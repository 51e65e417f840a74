use Rattle.std.proofs.Common.{refl, sym, ap, ◌∙◌, subst, arith}
use Rattle.js_flow.specs.declared.job.Next.{Next}
use Rattle.js_flow.specs.Frames.{next_plan}
use Rattle.js_flow.specs.Free.{next_free}
use Rattle.js_direct.specs.Comes.{Comes, FineWith}
use Rattle.js_direct.specs.declared.run.Ended.TheVariants as ended
use Rattle.js_direct.proofs.Parts.{leaves}
use Rattle.js_direct.proofs.run.given.Goals as goal

pub returns-in-Give-clause-comes : goal.returns-in-Give-clause-comes
returns-in-Give-clause-comes c = λ fs w s.
    subst (λ (n : Next). FineWith fs w s.cells n → Comes fs w s s (next_free n) (next_plan fs w s.cells n) c.args.run.now c.given_end.new.run c.given_end.result c.given_end.new.out) (sym c.in-Give.is)
    (c.given_end.ensures.comes fs w s)

pub returns-in_default-clause-comes : goal.returns-in_default-clause-comes
returns-in_default-clause-comes c = λ fs w s h.
    leaves fs w s s _ _ c.args.run.now c.set_next.new.run ended.Left _ c.args.next refl c.set_next.ensures.units (ap (λ v. v.items) c.set_next.ensures.waits ∙ c.requires.waits) c.set_next.ensures.next
    (λ r. refl) h (omega arith)
