-- The parts of a node have fewer nodes.
use Rattle.std.proofs.Common.{◌≡◌, ℕ, ◌+◌, ◌<◌, ◌≤◌, List, [], ◌∷◌, ◌++◌, refl, Bool, true, false, arith}
use Rattle.std.specs.Prelude.{if◌then◌else◌}
use Rattle.js_tree.specs.Plain.{Expr, ExprAt, ExprForm, Num, Str, Name, Constant, Array, Object, Function, Dot, Sub, Call, New, Step, Unary, Binary, And, Or, Cond, Assign, Comma, Exprs, NoExprs, AndExpr, OptionalExpr, NoExpr, SomeExpr, Properties, NoProperties, AndProperty, Decls, NoDecls, AndDecl, ForInit, DeclsFirst, ExprsFirst, Stmt, StmtAt, StmtForm, Var, Only, If, While, DoWhile, For, ForIn, Continue, Break, Return, Throw, With, Switch, Try, Label, Stmts, NoStmts, AndStmt, OptionalBlock, NoBlock, SomeBlock, Catch, NoCatch, CatchAs, Clauses, NoClauses, AndClause, FunAt, Funs, NoFuns, AndFun}
use Rattle.js_tree.specs.Parts.{Spot, AnExpr, AStmt, AFun, exprs_spots, stmts_spots, funs_spots, optional_spots, properties_spots, decls_spots, init_spots, catch_spots, block_spots, expr_size, form_size, exprs_size, optional_size, properties_size, decls_size, init_size, stmt_size, stmt_form_size, stmts_size, block_size, catch_size, clauses_size, fun_size, funs_size, spot_size, spots_size}
use Rattle.node_rules.specs.Forms.{is_allowed_callee, is_directive}
use Rattle.node_rules.specs.Parts.{tests, bodies, after_directive, expr_parts_of, stmt_parts_outside, stmt_parts_inside, outer, inner}
use Rattle.node_rules.specs.Binding.{blocks}

pub spots_append : (a b : List Spot) → spots_size (a ++ b) ≡ spots_size a + spots_size b
spots_append [] b = omega arith
spots_append (x ∷ a) b = omega (arith, spots_append a b)

exprs_are : (xs : Exprs) → spots_size (exprs_spots xs) ≡ exprs_size xs
unfolding exprs_size
exprs_are NoExprs = refl
exprs_are (AndExpr xs x) = omega (arith, spots_append (exprs_spots xs) (AnExpr x ∷ []), exprs_are xs)

pub stmts_are : (xs : Stmts) → spots_size (stmts_spots xs) ≡ stmts_size xs
unfolding stmts_size
stmts_are NoStmts = refl
stmts_are (AndStmt xs x) = omega (arith, spots_append (stmts_spots xs) (AStmt x ∷ []), stmts_are xs)

funs_are : (xs : Funs) → spots_size (funs_spots xs) ≡ funs_size xs
unfolding funs_size
funs_are NoFuns = refl
funs_are (AndFun xs x) = omega (arith, spots_append (funs_spots xs) (AFun x ∷ []), funs_are xs)

optional_is : (e : OptionalExpr) → spots_size (optional_spots e) ≡ optional_size e
unfolding optional_size
optional_is NoExpr = refl
optional_is (SomeExpr e) = omega arith

properties_are : (ps : Properties) → spots_size (properties_spots ps) ≡ properties_size ps
unfolding properties_size
properties_are NoProperties = refl
properties_are (AndProperty ps key e) = omega (arith, spots_append (properties_spots ps) (AnExpr e ∷ []), properties_are ps)

decls_are : (ds : Decls) → spots_size (decls_spots ds) ≡ decls_size ds
unfolding decls_size
decls_are NoDecls = refl
decls_are (AndDecl ds x at e) = omega (arith, spots_append (decls_spots ds) (optional_spots e), decls_are ds, optional_is e)

init_is : (first : ForInit) → spots_size (init_spots first) ≡ init_size first
unfolding init_size
init_is (DeclsFirst ds) = decls_are ds
init_is (ExprsFirst xs) = exprs_are xs

catch_is : (caught : Catch) → spots_size (catch_spots caught) ≡ catch_size caught
unfolding catch_size
catch_is NoCatch = refl
catch_is (CatchAs x body) = stmts_are body

block_is : (last : OptionalBlock) → spots_size (block_spots last) ≡ block_size last
unfolding block_size
block_is NoBlock = refl
block_is (SomeBlock body) = stmts_are body

clauses_are : (cs : Clauses) → spots_size (tests cs) + spots_size (bodies cs) ≡ clauses_size cs
unfolding clauses_size
clauses_are NoClauses = refl
clauses_are (AndClause cs test body) = omega (arith, spots_append (tests cs) (optional_spots test), spots_append (bodies cs) (stmts_spots body), clauses_are cs, optional_is test, stmts_are body)

-- the blocks of a statement
pub blocks_less : (at : ℕ) (names : List ℕ) (form : StmtForm) → spots_size (blocks form) < stmt_size (StmtAt at names form)
unfolding stmt_size stmt_form_size
blocks_less at names (If e a b) = omega (arith, spots_append (stmts_spots a) (stmts_spots b), stmts_are a, stmts_are b)
blocks_less at names (While e body) = omega (arith, stmts_are body)
blocks_less at names (DoWhile e body) = omega (arith, stmts_are body)
blocks_less at names (For first test next body) = omega (arith, stmts_are body)
blocks_less at names (ForIn declared x e body) = omega (arith, stmts_are body)
blocks_less at names (With e body) = omega (arith, stmts_are body)
blocks_less at names (Switch e cs) = omega (arith, clauses_are cs)
blocks_less at names (Try body caught last) = omega (arith, spots_append (stmts_spots body) (catch_spots caught ++ block_spots last), spots_append (catch_spots caught) (block_spots last), stmts_are body, catch_is caught, block_is last)
blocks_less at names (Label x s) = omega arith
blocks_less at names form = omega arith

-- the parts of an expression
callee_less : (b : Bool) (e : Expr) (xs : List Spot) → spots_size ((if b then [] else AnExpr e ∷ []) ++ xs) ≤ expr_size e + spots_size xs
callee_less true e xs = omega arith
callee_less false e xs = omega arith

expr_parts_less : (form : ExprForm) → spots_size (expr_parts_of form) ≤ form_size form
unfolding form_size
expr_parts_less (Num x) = omega arith
expr_parts_less (Str x) = omega arith
expr_parts_less (Name x) = omega arith
expr_parts_less (Constant w) = omega arith
expr_parts_less (Array xs) = omega (arith, exprs_are xs)
expr_parts_less (Object ps) = omega (arith, properties_are ps)
expr_parts_less (Function g) = omega arith
expr_parts_less (Dot e x) = omega arith
expr_parts_less (Sub a b) = omega arith
expr_parts_less (Call e xs) = omega (arith, callee_less (is_allowed_callee e) e (exprs_spots xs), exprs_are xs)
expr_parts_less (New e xs) = omega (arith, exprs_are xs)
expr_parts_less (Step op e) = omega arith
expr_parts_less (Unary op e) = omega arith
expr_parts_less (Binary op a b) = omega arith
expr_parts_less (And a b) = omega arith
expr_parts_less (Or a b) = omega arith
expr_parts_less (Cond a b c) = omega arith
expr_parts_less (Assign op a b) = omega arith
expr_parts_less (Comma a b) = omega arith

-- those of a statement
stmt_parts_less : (form : StmtForm) → spots_size (stmt_parts_outside form) + spots_size (stmt_parts_inside form) ≤ stmt_form_size form
unfolding stmt_form_size
stmt_parts_less (Var ds) = omega (arith, decls_are ds)
stmt_parts_less (Only e) = omega arith
stmt_parts_less (If e a b) = omega (arith, spots_append (stmts_spots a) (stmts_spots b), stmts_are a, stmts_are b)
stmt_parts_less (While e body) = omega (arith, stmts_are body)
stmt_parts_less (DoWhile e body) = omega (arith, stmts_are body)
stmt_parts_less (For first test next body) = omega (arith, spots_append (init_spots first) (optional_spots test ++ exprs_spots next), spots_append (optional_spots test) (exprs_spots next), init_is first, optional_is test, exprs_are next, stmts_are body)
stmt_parts_less (ForIn declared x e body) = omega (arith, stmts_are body)
stmt_parts_less (Continue x) = omega arith
stmt_parts_less (Break x) = omega arith
stmt_parts_less (Return e) = omega (arith, optional_is e)
stmt_parts_less (Throw e) = omega arith
stmt_parts_less (With e body) = omega (arith, stmts_are body)
stmt_parts_less (Switch e cs) = omega (arith, clauses_are cs)
stmt_parts_less (Try body caught last) = omega (arith, spots_append (stmts_spots body) (block_spots last), stmts_are body, catch_is caught, block_is last)
stmt_parts_less (Label x s) = omega arith

-- and those of a function
directive_less : (b : Bool) (s : Stmt) (rest : List Spot) → spots_size (if b then rest else AStmt s ∷ rest) ≤ stmt_size s + spots_size rest
directive_less true s rest = omega arith
directive_less false s rest = omega arith

after_less : (spots : List Spot) → spots_size (after_directive spots) ≤ spots_size spots
after_less [] = omega arith
after_less (AnExpr e ∷ rest) = omega arith
after_less (AStmt s ∷ rest) = omega (arith, directive_less (is_directive s) s rest)
after_less (AFun g ∷ rest) = omega arith

pub parts_less : (n : Spot) → spots_size (outer n) + spots_size (inner n) < spot_size n
unfolding expr_size stmt_size fun_size
parts_less (AnExpr (ExprAt at names form)) = omega (arith, expr_parts_less form)
parts_less (AStmt (StmtAt at names form)) = omega (arith, stmt_parts_less form)
parts_less (AFun (FunAt at names own params body funs)) = omega (arith, spots_append (funs_spots funs) (after_directive (stmts_spots body)), after_less (stmts_spots body), funs_are funs, stmts_are body)
