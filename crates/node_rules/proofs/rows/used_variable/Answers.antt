use Rattle.std.proofs.Common.{Bool, [], ◌∷◌, sym, subst}
use Rattle.std.specs.Prelude.{if◌then◌else◌}
use Rattle.first_breach.specs.Breaches.{Nothing, Each}
use Rattle.first_breach.specs.Narrowing.{Narrows}
use Rattle.js_tree.specs.Plain.{StmtAt}
use Rattle.js_tree.specs.Parts.{AStmt}
use Rattle.js_tree.specs.Forest.{plain_stmt_form}
use Rattle.node_rules.specs.Names.{placed, uses}
use Rattle.node_rules.specs.Enclosing.{env_of}
use Rattle.node_rules.specs.Sets.{UseRow}
use Rattle.node_rules.proofs.Placing.{placed_one}
use Rattle.node_rules.proofs.rows.used_variable.Goals as goal

pub returns-else-declared : goal.returns-else-declared
returns-else-declared c = λ f known.
    let Row = UseRow (env_of f c.args.enclosing.now.stack.items) in
    let at = c.args.at in
    let places = c.args.places.now in
    let x = c.in-ForIn.name in
    subst (λ n. Narrows (Each Row (uses (AStmt (StmtAt at places (plain_stmt_form f n))))) c.args.best Nothing c.used.result) (sym c.in-ForIn.is)
    (subst (λ (d : Bool). Narrows (Each Row (if d then [] else placed at places (x ∷ []))) c.args.best Nothing c.used.result) (sym c.if-declared.false)
    (placed_one Row _ _ at places x c.place_at.result c.place_at.ensures (c.used.ensures f known)))
