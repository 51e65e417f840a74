use Rattle.std.proofs.Common.{◌≡◌, sym, subst, ◌∙◌, ap}
use Rattle.std.specs.Prelude.{map}
use Rattle.first_breach.specs.Breaches.{Nothing, Each}
use Rattle.first_breach.specs.Narrowing.{Narrows}
use Rattle.js_tree.specs.Plain.{ExprAt}
use Rattle.js_tree.specs.Parts.{AnExpr}
use Rattle.js_tree.specs.Trees.{trees}
use Rattle.js_tree.specs.Forest.{plain_form, properties_at}
use Rattle.node_rules.specs.Names.{placed, properties, keys}
use Rattle.node_rules.specs.Sets.{PropertyRow}
use Rattle.node_rules.proofs.Lists.{keys_at}
use Rattle.adsafe_rules.proofs.rows.property_rules.Goals as goal

pub returns-in-Object : goal.returns-in-Object
returns-in-Object c =
    let f = trees c.args.tree.now in
    let ps = c.in-Object.list.items in
    let e : map (λ p. p.0) c.deref.result.now ≡ keys (properties_at f ps) = ap (map (λ p. p.0)) c.deref.ensures.value ∙ sym (keys_at f ps) in
    subst (λ n. Narrows (Each PropertyRow (properties (AnExpr (ExprAt c.args.at c.args.places.now (plain_form f n))))) c.args.best Nothing c.key_names.result) (sym c.in-Object.is)
    (subst (λ l. Narrows (Each PropertyRow (placed c.args.at c.args.places.now l)) c.args.best Nothing c.key_names.result) e c.key_names.ensures)
