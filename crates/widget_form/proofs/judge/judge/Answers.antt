use Rattle.std.proofs.Common.{subst, ap, ◌∙◌, map}
use Rattle.first_breach.specs.Breaches.{Nothing, Each}
use Rattle.first_breach.specs.Narrowing.{Narrows}
use Rattle.first_breach.proofs.Narrowing.{narrows_both}
use Rattle.markup_rules.specs.Parts.{element_of}
use Rattle.markup_rules.specs.Rows.{OtherRows, MarkupRows, SlotRows}
use Rattle.widget_form.proofs.judge.judge.Goals as goal

pub returns : goal.returns
returns c = narrows_both c.in_ok-best.ensures
    (narrows_both c.in_ok-best-2.ensures
    (narrows_both (subst (λ l. Narrows (Each (OtherRows c.args.slot.now.name.now) l) c.in_ok-best-2.best Nothing c.in_ok-best-3.best) (ap (map element_of) c.deref-2.ensures.value ∙ c.in_ok-others.ensures) c.in_ok-best-3.ensures)
    (narrows_both (subst (λ l. Narrows (Each MarkupRows l) c.in_ok-best-3.best Nothing c.in_ok-best-4.best) (ap (map element_of) c.deref-3.ensures.value ∙ c.in_ok-all.ensures) c.in_ok-best-4.ensures)
    (subst (λ l. Narrows (Each (SlotRows c.args.slot.now.name.now c.args.slot.now.libs.now) l) c.in_ok-best-4.best Nothing c.all_slot_rows.result) (ap (map element_of) c.deref-4.ensures.value ∙ c.in_ok-all.ensures) c.all_slot_rows.ensures))))
