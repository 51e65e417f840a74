use Rattle.std.proofs.Common.{subst, ◌∙◌}
use Rattle.first_breach.specs.Breaches.{Nothing, Each}
use Rattle.first_breach.specs.Narrowing.{Narrows}
use Rattle.first_breach.proofs.Narrowing.{narrows_both, narrows_along}
use Rattle.markup_rules.specs.Rows.{AttributeRows, MarkupRows, Twice}
use Rattle.markup_rules.specs.Parts.{element_of}
use Rattle.markup_rules.proofs.Steps.{if_ok_then}
use Rattle.markup_rules.proofs.rows.markup_rows.Goals as goal

pub returns : goal.returns
returns c = if_ok_then c.all_attribute_rows.result _ (Narrows (MarkupRows (element_of c.args.part.now)) c.args.best Nothing)
    (λ b h. narrows_both (narrows_along c.is_foreign.ensures c.offer-best.ensures)
    (narrows_both (subst (λ l. Narrows (Twice 7 l) c.offer-best.result Nothing c.in_ok-best.best) (c.deref.ensures.value ∙ c.in_ok-names.ensures) c.in_ok-best.ensures)
    (subst (λ s. Narrows (Each (AttributeRows s) c.args.part.now.attrs.now) c.in_ok-best.best Nothing b) c.is_word-of_script.ensures h)))
    c.all_attribute_rows.ensures
