-- Lists of plain trees, in order of the text.
use Rattle.std.specs.Prelude.{ℕ, List, [], ◌∷◌, ◌++◌}
use Rattle.js_tree.specs.Plain.{Expr, Exprs, NoExprs, AndExpr, OptionalExpr, Stmt, Stmts, NoStmts, AndStmt, Fun, Funs, NoFuns, AndFun, Properties, NoProperties, AndProperty, Decls, NoDecls, AndDecl, Clauses, NoClauses, AndClause}

-- the expressions of a list
abbrev pub expr_list : Exprs → List Expr
expr_list NoExprs = []
expr_list (AndExpr es e) = expr_list es ++ e ∷ []

-- the statements of a block
abbrev pub stmt_list : Stmts → List Stmt
stmt_list NoStmts = []
stmt_list (AndStmt ss s) = stmt_list ss ++ s ∷ []

-- declared functions
abbrev pub fun_list : Funs → List Fun
fun_list NoFuns = []
fun_list (AndFun gs g) = fun_list gs ++ g ∷ []

-- keys and values of an object literal
abbrev pub property_list : Properties → List (List ℕ × Expr)
property_list NoProperties = []
property_list (AndProperty ps key e) = property_list ps ++ (key, e) ∷ []

-- declared variables and what they begin with
abbrev pub decl_list : Decls → List (List ℕ × OptionalExpr)
decl_list NoDecls = []
decl_list (AndDecl ds name at e) = decl_list ds ++ (name, e) ∷ []

-- the clauses of a `switch`
abbrev pub clause_list : Clauses → List (OptionalExpr × List Stmt)
clause_list NoClauses = []
clause_list (AndClause cs test body) = clause_list cs ++ (test, stmt_list body) ∷ []
