-- The call with which a script hands over its function, found part by part.
use Rattle.std.specs.Prelude.{◌≡◌, ℕ, List, Option, None, Some, MatchOption}
use Rattle.js_tree.specs.Plain as tree
use Rattle.js_tree.specs.Plain.{Expr, Exprs, Fun, Stmt, Stmts}
use Rattle.js_tree.specs.Forest.{Forest, IsFun, fun_at}
use Rattle.page_load.specs.declared.opening.Opening.{Opening}

-- a text
abbrev pub text_of : Expr → Option (List ℕ)
text_of (tree.ExprAt at names (tree.Str x)) = Some x
text_of e = None

-- a function
abbrev pub function_of : Expr → Option Fun
function_of (tree.ExprAt at names (tree.Function f)) = Some f
function_of e = None

-- both, where both are there
abbrev pub both : Option (List ℕ) → Option Fun → Option (List ℕ × Fun)
both (Some x) (Some f) = Some (x, f)
both x f = None

-- of two arguments
abbrev pub arguments_parts : Exprs → Option (List ℕ × Fun)
arguments_parts (tree.AndExpr (tree.AndExpr tree.NoExprs x) f) = both (text_of x) (function_of f)
arguments_parts es = None

-- of a call
abbrev pub expression_parts : Expr → Option (List ℕ × Fun)
expression_parts (tree.ExprAt at names (tree.Call callee args)) = arguments_parts args
expression_parts e = None

-- of a statement
abbrev pub statement_parts : Stmt → Option (List ℕ × Fun)
statement_parts (tree.StmtAt at names (tree.Only e)) = expression_parts e
statement_parts s = None

-- of a program of one statement
abbrev pub program_parts : Stmts → Option (List ℕ × Fun)
program_parts (tree.AndStmt tree.NoStmts s) = statement_parts s
program_parts ss = None

-- what is handed over: a function of the tree, under this name
abbrev pub IsHanded : Forest → Option (List ℕ × Fun) → Option Opening → Type 0
IsHanded f parts o = MatchOption o (parts ≡ None) (λ h. IsFun f h.fun × (parts ≡ Some (h.name, fun_at f h.fun)))
