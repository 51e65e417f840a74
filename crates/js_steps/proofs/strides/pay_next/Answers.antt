use Rattle.std.proofs.Common.{sym, subst}
use Rattle.js_flow.specs.declared.job.Next.{Next}
use Rattle.js_steps.specs.Tolls.{IsTolled}
use Rattle.js_steps.proofs.Tolls.{as_go}
use Rattle.js_steps.proofs.strides.pay_next.Goals as goal

pub returns-in-Go : goal.returns-in-Go
returns-in-Go c = subst (λ (n : Next). IsTolled c.args.bound.units c.args.bound.first c.args.meter.now c.charged.new.meter n c.charged.result) (sym c.in-Go.is) (as_go _ _ _ _ c.in-Go.field-0 _ c.charged.ensures)
