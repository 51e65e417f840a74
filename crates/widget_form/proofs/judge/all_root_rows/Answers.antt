use Rattle.std.proofs.Common.{subst, sym}
use Rattle.first_breach.specs.Breaches.{Nothing, Each}
use Rattle.first_breach.specs.Narrowing.{Narrows}
use Rattle.first_breach.proofs.Narrowing.{each_one}
use Rattle.plain_tree.specs.Plains.{placed_all}
use Rattle.markup_rules.specs.Elements.{roots}
use Rattle.markup_rules.specs.Rows.{RootRows}
use Rattle.markup_rules.proofs.Steps.{if_ok_then}
use Rattle.widget_form.proofs.judge.all_root_rows.Goals as goal

pub returns-in-Some : goal.returns-in-Some
returns-in-Some c = if_ok_then c.root_rows.result _ (Narrows (Each (RootRows c.args.name.now) (roots (placed_all c.args.content.now))) c.args.best Nothing)
    (λ b h. subst (λ l. Narrows (Each (RootRows c.args.name.now) l) c.args.best Nothing b) (sym c.in-Some.ensures) (each_one (RootRows c.args.name.now) _ c.args.best b h))
    c.root_rows.ensures
