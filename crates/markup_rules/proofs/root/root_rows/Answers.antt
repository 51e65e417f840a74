use Rattle.std.proofs.Common.{subst, ◌∙◌, true, ap, map, refl}
use Rattle.first_breach.specs.Breaches.{Nothing}
use Rattle.first_breach.specs.Narrowing.{Narrows}
use Rattle.first_breach.proofs.Narrowing.{narrows_both, narrows_along}
use Rattle.markup_rules.specs.Parts.{element_of}
use Rattle.markup_rules.specs.Rows.{Perhaps, Disordered}
use Rattle.markup_rules.proofs.Bodies.{early_scripts}
use Rattle.markup_rules.proofs.root.root_rows.Goals as goal

pub returns : goal.returns
returns c = narrows_both (subst (λ p. Narrows (Perhaps 3 p) c.args.best Nothing c.offer_at-best.result) c.misnamed.ensures c.offer_at-best.ensures)
    (narrows_both (subst (λ p. Narrows (Perhaps 4 p) c.offer_at-best.result Nothing c.offer_at-best-2.result) c.unended.ensures c.offer_at-best-2.ensures)
    (narrows_both (subst (λ l. Narrows (Disordered true l) c.offer_at-best-2.result Nothing c.disordered-best.result)
    (ap (map element_of) c.before_last.ensures ∙ early_scripts c.deref.result.now _ _ (ap (map element_of) c.deref.ensures.value ∙ c.in_ok-scripts.ensures) refl)
    c.disordered-best.ensures)
    (narrows_along c.is_crowded.ensures c.offer.ensures)))
