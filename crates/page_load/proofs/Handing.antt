-- What a program hands over, part by part.
use Rattle.std.proofs.Common.{◌≡◌, ℕ, List, [], ◌∷◌, refl, sym, ap, ◌∙◌, length, get_or, Option, None, Some, arith}
use Rattle.js_tree.specs.declared.nodes.ExprId.{ExprId}
use Rattle.js_tree.specs.declared.nodes.StmtId.{StmtId}
use Rattle.js_tree.specs.Plain as tree
use Rattle.js_tree.specs.Plain.{Expr, Exprs, Fun, Stmt, Stmts}
use Rattle.js_tree.specs.Forest.{Forest, expr_at, exprs_at, exprs_more, stmt_at, stmts_at, stmts_more}
use Rattle.widget_meaning.specs.Alone.{call_parts}
use Rattle.page_load.specs.Opening.{arguments_parts, both, function_of, program_parts, statement_parts, text_of}

-- ## The definition, part by part

two : (a : ℕ) (xs : List ℕ) (b : ℕ) (bs : List ℕ) (callee x f : Expr) → call_parts (tree.AndStmt tree.NoStmts (tree.StmtAt a xs (tree.Only (tree.ExprAt b bs (tree.Call callee (tree.AndExpr (tree.AndExpr tree.NoExprs x) f)))))) ≡ both (text_of x) (function_of f)
two a xs b bs callee (tree.ExprAt c cs (tree.Str t)) (tree.ExprAt d ds (tree.Function g)) = refl
two a xs b bs callee (tree.ExprAt c cs (tree.Str t)) (tree.ExprAt d ds form) = refl
two a xs b bs callee (tree.ExprAt c cs form) f = refl

pub parts_agree : (ss : Stmts) → call_parts ss ≡ program_parts ss
parts_agree tree.NoStmts = refl
parts_agree (tree.AndStmt (tree.AndStmt ss s) t) = refl
parts_agree (tree.AndStmt tree.NoStmts (tree.StmtAt a xs (tree.Only (tree.ExprAt b bs (tree.Call callee tree.NoExprs))))) = refl
parts_agree (tree.AndStmt tree.NoStmts (tree.StmtAt a xs (tree.Only (tree.ExprAt b bs (tree.Call callee (tree.AndExpr tree.NoExprs x)))))) = refl
parts_agree (tree.AndStmt tree.NoStmts (tree.StmtAt a xs (tree.Only (tree.ExprAt b bs (tree.Call callee (tree.AndExpr (tree.AndExpr tree.NoExprs x) f)))))) = two a xs b bs callee x f
parts_agree (tree.AndStmt tree.NoStmts (tree.StmtAt a xs (tree.Only (tree.ExprAt b bs (tree.Call callee (tree.AndExpr (tree.AndExpr (tree.AndExpr es y) x) f)))))) = refl
parts_agree (tree.AndStmt tree.NoStmts (tree.StmtAt a xs (tree.Only (tree.ExprAt b bs form)))) = refl
parts_agree (tree.AndStmt tree.NoStmts (tree.StmtAt a xs form)) = refl

-- where the second is there or not
pub both_none : (x : Option (List ℕ)) (f : Option Fun) → f ≡ None → both x f ≡ None
both_none None f e = refl
both_none (Some t) f e = ap (both (Some t)) e

pub both_some : (x : Option (List ℕ)) (f : Option Fun) (t : List ℕ) (g : Fun) → x ≡ Some t → f ≡ Some g → both x f ≡ Some (t, g)
both_some x f t g e d = λ j. both (e j) (d j)

-- ## Lists of another length

more_statements : (f : Forest) (before : Stmts) (a b : Stmt) (ids : List StmtId) → program_parts (stmts_more f (tree.AndStmt (tree.AndStmt before a) b) ids) ≡ None
more_statements f before a b [] = refl
more_statements f before a b (i ∷ ids) = more_statements f (tree.AndStmt before a) b (stmt_at f i) ids

not_one : (f : Forest) (ids : List StmtId) → (length ids ≡ 1 → ⊥) → program_parts (stmts_at f ids) ≡ None
not_one f [] h = refl
not_one f (i ∷ []) h = absurd (h refl)
not_one f (i ∷ j ∷ ids) h = more_statements f tree.NoStmts (stmt_at f i) (stmt_at f j) ids

-- of a program of no statement or of several
pub none_of_program : (f : Forest) (ids : List StmtId) (ss : Stmts) → stmts_at f ids ≡ ss → (length ids ≡ 1 → ⊥) → call_parts ss ≡ None
none_of_program f ids ss is h = parts_agree ss ∙ ap program_parts (sym is) ∙ not_one f ids h

more_arguments : (f : Forest) (before : Exprs) (a b c : Expr) (ids : List ExprId) → arguments_parts (exprs_more f (tree.AndExpr (tree.AndExpr (tree.AndExpr before a) b) c) ids) ≡ None
more_arguments f before a b c [] = refl
more_arguments f before a b c (i ∷ ids) = more_arguments f (tree.AndExpr before a) b c (expr_at f i) ids

-- of arguments that are not two
pub none_of_arguments : (f : Forest) (ids : List ExprId) → (length ids ≡ 2 → ⊥) → arguments_parts (exprs_at f ids) ≡ None
none_of_arguments f [] h = refl
none_of_arguments f (i ∷ []) h = refl
none_of_arguments f (i ∷ j ∷ []) h = absurd (h refl)
none_of_arguments f (i ∷ j ∷ k ∷ ids) h = more_arguments f tree.NoExprs (expr_at f i) (expr_at f j) (expr_at f k) ids

list_one : {A : Type 0} (xs : List A) (d : A) → length xs ≡ 1 → xs ≡ get_or xs 0 d ∷ []
list_one [] d e = absurd (omega arith)
list_one (x ∷ []) d e = refl
list_one (x ∷ y ∷ xs) d e = absurd (omega arith)

list_two : {A : Type 0} (xs : List A) (d f : A) → length xs ≡ 2 → xs ≡ get_or xs 0 d ∷ get_or xs 1 f ∷ []
list_two [] d f e = absurd (omega arith)
list_two (x ∷ []) d f e = absurd (omega arith)
list_two (x ∷ y ∷ []) d f e = refl
list_two (x ∷ y ∷ z ∷ xs) d f e = absurd (omega arith)

-- of one statement
pub one_statement : (f : Forest) (ids : List StmtId) (ss : Stmts) (d : StmtId) → stmts_at f ids ≡ ss → length ids ≡ 1 → call_parts ss ≡ statement_parts (stmt_at f (get_or ids 0 d))
one_statement f ids ss d is e = parts_agree ss ∙ ap program_parts (sym is ∙ ap (stmts_at f) (list_one ids d e))

-- of two arguments
pub two_arguments : (f : Forest) (ids : List ExprId) (d e : ExprId) → length ids ≡ 2 → arguments_parts (exprs_at f ids) ≡ both (text_of (expr_at f (get_or ids 0 d))) (function_of (expr_at f (get_or ids 1 e)))
two_arguments f ids d e long = ap (λ l. arguments_parts (exprs_at f l)) (list_two ids d e long)
