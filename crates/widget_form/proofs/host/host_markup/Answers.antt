use Rattle.std.proofs.Common.{subst, ap, ◌∙◌, map, sym, None}
use Rattle.std.specs.List.{list_all}
use Rattle.first_breach.specs.Breaches.{Nothing, Each}
use Rattle.first_breach.specs.Narrowing.{Narrows}
use Rattle.plain_tree.specs.Plains.{placed_all}
use Rattle.markup_rules.specs.Parts.{element_of}
use Rattle.markup_rules.specs.Rows.{MarkupRows, is_free}
use Rattle.widget_form.proofs.Splitting.{host_clean, host_broken}
use Rattle.widget_form.proofs.host.host_markup.Goals as goal

pub returns-in-Some : goal.returns-in-Some
returns-in-Some c = host_broken (placed_all c.args.content.now) (map element_of c.deref-2.result.now) c.in-Some.field-0 (ap (map element_of) c.deref-2.ensures.value ∙ c.in_ok-all.ensures)
    (subst (λ o. Narrows (Each MarkupRows (map element_of c.deref-2.result.now)) None Nothing o) c.in-Some.is c.in_ok-all_markup_rows.ensures)

pub returns : goal.returns
returns c = host_clean (placed_all c.args.content.now) (map element_of c.deref-2.result.now) (ap (map element_of) c.deref-2.ensures.value ∙ c.in_ok-all.ensures)
    (c.if-not-are_free.ensures ∙ ap (λ l. list_all is_free (map element_of l)) (c.deref.ensures.value ∙ sym c.deref-2.ensures.value))
    (subst (λ o. Narrows (Each MarkupRows (map element_of c.deref-2.result.now)) None Nothing o) c.in-None.is c.in_ok-all_markup_rows.ensures)
