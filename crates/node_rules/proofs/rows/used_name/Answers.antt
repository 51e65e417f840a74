use Rattle.std.proofs.Common.{sym, subst}
use Rattle.first_breach.specs.Breaches.{Nothing, Each}
use Rattle.first_breach.specs.Narrowing.{Narrows}
use Rattle.first_breach.proofs.Narrowing.{each_one}
use Rattle.js_tree.specs.Plain.{ExprAt}
use Rattle.js_tree.specs.Forest.{plain_form}
use Rattle.node_rules.specs.Names.{named, variable}
use Rattle.node_rules.specs.Enclosing.{env_of}
use Rattle.node_rules.specs.Sets.{UseRow}
use Rattle.node_rules.proofs.rows.used_name.Goals as goal

pub returns-in-Name : goal.returns-in-Name
returns-in-Name c = λ f names known.
    let Row = UseRow (env_of f c.args.enclosing.now.stack.items) in
    subst (λ n. Narrows (Each Row (variable (ExprAt c.args.at names (plain_form f n)))) c.args.best Nothing c.used.result) (sym c.in-Name.is)
    (each_one Row (named c.in-Name.name c.args.at) _ _ (c.used.ensures f known))
