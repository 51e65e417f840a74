use Rattle.std.proofs.Common.{◌≡◌, sym, subst, ◌∙◌, ap}
use Rattle.std.specs.Prelude.{map}
use Rattle.first_breach.specs.Breaches.{Nothing, Each}
use Rattle.first_breach.specs.Narrowing.{Narrows}
use Rattle.js_tree.specs.Plain.{StmtAt}
use Rattle.js_tree.specs.Parts.{AStmt}
use Rattle.js_tree.specs.Forest.{plain_stmt_form, decls_at}
use Rattle.node_rules.specs.Names.{binders, decl_name, declared_names}
use Rattle.node_rules.specs.Sets.{BinderRow}
use Rattle.node_rules.proofs.Lists.{names_at}
use Rattle.node_rules.proofs.rows.bound_variables.Goals as goal

pub returns-in-Var : goal.returns-in-Var
returns-in-Var c = λ f.
    let ds = c.in-Var.decls.items in
    let e : map decl_name c.deref.result.now ≡ declared_names (decls_at f ds) = ap (map decl_name) c.deref.ensures.value ∙ sym (names_at f ds) in
    subst (λ n. Narrows (Each BinderRow (binders (AStmt (StmtAt c.args.at c.args.places.now (plain_stmt_form f n))))) c.args.best Nothing c.bound_decls.result) (sym c.in-Var.is)
    (subst (λ l. Narrows (Each BinderRow l) c.args.best Nothing c.bound_decls.result) e c.bound_decls.ensures)

pub returns-in-For : goal.returns-in-For
returns-in-For c = λ f.
    subst (λ n. Narrows (Each BinderRow (binders (AStmt (StmtAt c.args.at c.args.places.now (plain_stmt_form f n))))) c.args.best Nothing c.bound_first.result) (sym c.in-For.is) (c.bound_first.ensures f)
