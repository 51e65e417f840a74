use Rattle.std.proofs.Common.{refl, ap, ◌∙◌, arith}
use Rattle.js_flow.specs.declared.job.Next.TheVariants as next
use Rattle.js_direct.specs.declared.run.Ended.TheVariants as ended
use Rattle.js_direct.proofs.Parts.{leaves}
use Rattle.js_direct.proofs.run.stop.Goals as goal

pub returns-clause-comes : goal.returns-clause-comes
returns-clause-comes c = λ fs w s v. leaves fs w s s 0 _ c.args.run.now c.set_next.new.run ended.Left _ (next.Stop c.args.cause) refl c.set_next.ensures.units (ap (λ v. v.items) c.set_next.ensures.waits ∙ c.requires.waits) c.set_next.ensures.next (λ r. refl) tt (omega arith)
