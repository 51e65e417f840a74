use Rattle.std.proofs.Common.{sym, ap, subst, ◌∙◌}
use Rattle.js_tree.specs.Trees.{trees}
use Rattle.std.specs.Prelude.{◌≡◌, ℕ, ◌+◌, ◌<◌, ◌^◌, List, [], ◌∷◌, MatchOption, drop, option_copied}
use Rattle.js_tree.specs.Forest.{AreStmtParts, IsOptional, optional_at, plain_stmt, stmt_at}
use Rattle.js_tree.specs.Plain.{OptionalExpr, stmt_names, stmt_place}
use Rattle.js_tree.specs.declared.nodes.Stmt.{Stmt as Node}
use Rattle.js_flow.specs.Parts.{decls_of}
use Rattle.js_flow.proofs.Listing.{listed}
use Rattle.js_flow.proofs.lists.declaration_at.Goals as goal

pub returns-in-Var : goal.returns-in-Var
returns-in-Var c =
    let f = trees c.args.tree.now in
    let s = stmt_at f c.args.id in
    let ids = c.in-Var.list.items in
    let parts = subst (λ (q : Node). AreStmtParts f q) c.in-Var.is c.stmt.ensures.parts in
    let same = sym (ap decls_of c.stmt.ensures.same) ∙ ap (λ q. decls_of (plain_stmt f q (stmt_place s) (stmt_names s))) c.in-Var.is ∙ c.lists_agree.ensures.decls f ids in
    listed (λ d. (d.name, optional_at f d.init)) (λ d. IsOptional f d.init) ids c.args.n (decls_of s) same parts (option_copied c.decl_in.result) c.decl_in.ensures.value c.decl_in.ensures.room

pub returns-in-For : goal.returns-in-For
returns-in-For c =
    let f = trees c.args.tree.now in
    let s = stmt_at f c.args.id in
    let parts = subst (λ (q : Node). AreStmtParts f q) c.in-For.is c.stmt.ensures.parts in
    let same = sym (ap (λ q. decls_of (plain_stmt f q (stmt_place s) (stmt_names s))) c.in-For.is) ∙ ap decls_of c.stmt.ensures.same in
    subst (λ (l : List (List ℕ × OptionalExpr)). MatchOption (option_copied c.init_decl.result) (drop c.args.n l ≡ [])
    (λ d. IsOptional f d.init × (c.args.n + 1 < 2 ^ 64) × (drop c.args.n l ≡ (d.name, optional_at f d.init) ∷ drop (c.args.n + 1) l))) same (c.init_decl.ensures f parts.0)
