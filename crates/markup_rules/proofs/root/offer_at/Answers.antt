use Rattle.std.proofs.Common.{sym, subst}
use Rattle.first_breach.specs.Breaches.{Nothing}
use Rattle.first_breach.specs.Narrowing.{Narrows}
use Rattle.markup_rules.specs.Rows.{Perhaps}
use Rattle.markup_rules.proofs.Steps.{narrows_sure}
use Rattle.markup_rules.proofs.root.offer_at.Goals as goal

pub returns-in-Some : goal.returns-in-Some
returns-in-Some c = subst (λ p. Narrows (Perhaps c.args.rule p) c.args.best Nothing c.offer.result) (sym c.in-Some.is) (narrows_sure c.offer.ensures)
