-- Trees in which `new` and the operator `in` stand only where that may be.
use Rattle.js_tree.specs.declared.nodes.BinOp.{BinOp}
use Rattle.js_tree.specs.declared.nodes.BinOp.TheVariants as bin
use Rattle.js_tree.specs.Plain.{Expr, ExprAt, ExprForm, Num, Str, Name, Constant, Array, Object, Function, Dot, Sub, Call, New, Step, Unary, Binary, And, Or, Cond, Assign, Comma, Exprs, NoExprs, AndExpr, OptionalExpr, NoExpr, SomeExpr, Properties, NoProperties, AndProperty, Decls, NoDecls, AndDecl, ForInit, DeclsFirst, ExprsFirst, Stmt, StmtAt, StmtForm, Var, Only, If, While, DoWhile, For, ForIn, Continue, Break, Return, Throw, With, Switch, Try, Label, Stmts, NoStmts, AndStmt, OptionalBlock, NoBlock, SomeBlock, Catch, NoCatch, CatchAs, Clauses, NoClauses, AndClause, Fun, FunAt, Funs, NoFuns, AndFun}
use Rattle.tidy_laws.specs.Tame.{IsNotIn, TameExpr, TameForm, TameExprs, TameOptional, TameProperties, TameDecls, TameInit, TameStmt, TameStmtForm, TameStmts, TameBlock, TameCatch, TameClauses, TameFun, TameFuns}

abbrev pub MayBe : Type 0 → BinOp → Type 0
MayBe L bin.In = L
MayBe L op = Unit {0}

may : (op : BinOp) → MayBe (Unit {0}) op
may bin.In = tt
may op = tt

may_so : (op : BinOp) → IsNotIn op → MayBe ⊥ op
may_so bin.In h = h
may_so op h = tt

unfoldable mutual
  pub MildExpr : Type 0 → Expr → Type 0
  MildExpr L (ExprAt at names form) = MildForm L form

  pub MildForm : Type 0 → ExprForm → Type 0
  MildForm L (Num text) = Unit {0}
  MildForm L (Str text) = Unit {0}
  MildForm L (Name text) = Unit {0}
  MildForm L (Constant w) = Unit {0}
  MildForm L (Array xs) = MildExprs L xs
  MildForm L (Object ps) = MildProperties L ps
  MildForm L (Function f) = MildFun L f
  MildForm L (Dot e text) = MildExpr L e
  MildForm L (Sub e i) = MildExpr L e × MildExpr L i
  MildForm L (Call e xs) = MildExpr L e × MildExprs L xs
  MildForm L (New e xs) = L × MildExpr L e × MildExprs L xs
  MildForm L (Step op e) = MildExpr L e
  MildForm L (Unary op e) = MildExpr L e
  MildForm L (Binary op a b) = MayBe L op × MildExpr L a × MildExpr L b
  MildForm L (And a b) = MildExpr L a × MildExpr L b
  MildForm L (Or a b) = MildExpr L a × MildExpr L b
  MildForm L (Cond a b c) = MildExpr L a × MildExpr L b × MildExpr L c
  MildForm L (Assign op a b) = MildExpr L a × MildExpr L b
  MildForm L (Comma a b) = MildExpr L a × MildExpr L b

  pub MildExprs : Type 0 → Exprs → Type 0
  MildExprs L NoExprs = Unit {0}
  MildExprs L (AndExpr xs x) = MildExprs L xs × MildExpr L x

  pub MildOptional : Type 0 → OptionalExpr → Type 0
  MildOptional L NoExpr = Unit {0}
  MildOptional L (SomeExpr e) = MildExpr L e

  pub MildProperties : Type 0 → Properties → Type 0
  MildProperties L NoProperties = Unit {0}
  MildProperties L (AndProperty ps key e) = MildProperties L ps × MildExpr L e

  pub MildDecls : Type 0 → Decls → Type 0
  MildDecls L NoDecls = Unit {0}
  MildDecls L (AndDecl ds text at v) = MildDecls L ds × MildOptional L v

  pub MildInit : Type 0 → ForInit → Type 0
  MildInit L (DeclsFirst ds) = MildDecls L ds
  MildInit L (ExprsFirst xs) = MildExprs L xs

  pub MildStmt : Type 0 → Stmt → Type 0
  MildStmt L (StmtAt at names form) = MildStmtForm L form

  pub MildStmtForm : Type 0 → StmtForm → Type 0
  MildStmtForm L (Var ds) = MildDecls L ds
  MildStmtForm L (Only e) = MildExpr L e
  MildStmtForm L (If e a b) = MildExpr L e × MildStmts L a × MildStmts L b
  MildStmtForm L (While e body) = MildExpr L e × MildStmts L body
  MildStmtForm L (DoWhile e body) = MildExpr L e × MildStmts L body
  MildStmtForm L (For init test next body) = MildInit L init × MildOptional L test × MildExprs L next × MildStmts L body
  MildStmtForm L (ForIn declared text e body) = MildExpr L e × MildStmts L body
  MildStmtForm L (Continue label) = Unit {0}
  MildStmtForm L (Break label) = Unit {0}
  MildStmtForm L (Return v) = MildOptional L v
  MildStmtForm L (Throw e) = MildExpr L e
  MildStmtForm L (With e body) = MildExpr L e × MildStmts L body
  MildStmtForm L (Switch e cs) = MildExpr L e × MildClauses L cs
  MildStmtForm L (Try body caught last) = MildStmts L body × MildCatch L caught × MildBlock L last
  MildStmtForm L (Label text s) = MildStmt L s

  pub MildStmts : Type 0 → Stmts → Type 0
  MildStmts L NoStmts = Unit {0}
  MildStmts L (AndStmt ss s) = MildStmts L ss × MildStmt L s

  pub MildBlock : Type 0 → OptionalBlock → Type 0
  MildBlock L NoBlock = Unit {0}
  MildBlock L (SomeBlock ss) = MildStmts L ss

  pub MildCatch : Type 0 → Catch → Type 0
  MildCatch L NoCatch = Unit {0}
  MildCatch L (CatchAs text ss) = MildStmts L ss

  pub MildClauses : Type 0 → Clauses → Type 0
  MildClauses L NoClauses = Unit {0}
  MildClauses L (AndClause cs test ss) = MildClauses L cs × MildOptional L test × MildStmts L ss

  pub MildFun : Type 0 → Fun → Type 0
  MildFun L (FunAt at names own params body funs) = MildStmts L body × MildFuns L funs

  pub MildFuns : Type 0 → Funs → Type 0
  MildFuns L NoFuns = Unit {0}
  MildFuns L (AndFun fs f) = MildFuns L fs × MildFun L f

-- everywhere
mutual
  unfolding MildExpr

  any_expr : (x : Expr) → MildExpr (Unit {0}) x
  any_expr (ExprAt at names form) = any_form form

  any_form : (x : ExprForm) → MildForm (Unit {0}) x
  any_form (Num text) = tt
  any_form (Str text) = tt
  any_form (Name text) = tt
  any_form (Constant w) = tt
  any_form (Array xs) = any_exprs xs
  any_form (Object ps) = any_properties ps
  any_form (Function f) = any_fun f
  any_form (Dot e text) = any_expr e
  any_form (Sub e i) = (any_expr e, any_expr i)
  any_form (Call e xs) = (any_expr e, any_exprs xs)
  any_form (New e xs) = (tt, any_expr e, any_exprs xs)
  any_form (Step op e) = any_expr e
  any_form (Unary op e) = any_expr e
  any_form (Binary op a b) = (may op, any_expr a, any_expr b)
  any_form (And a b) = (any_expr a, any_expr b)
  any_form (Or a b) = (any_expr a, any_expr b)
  any_form (Cond a b c) = (any_expr a, any_expr b, any_expr c)
  any_form (Assign op a b) = (any_expr a, any_expr b)
  any_form (Comma a b) = (any_expr a, any_expr b)

  any_exprs : (x : Exprs) → MildExprs (Unit {0}) x
  any_exprs NoExprs = tt
  any_exprs (AndExpr xs x) = (any_exprs xs, any_expr x)

  any_optional : (x : OptionalExpr) → MildOptional (Unit {0}) x
  any_optional NoExpr = tt
  any_optional (SomeExpr e) = any_expr e

  any_properties : (x : Properties) → MildProperties (Unit {0}) x
  any_properties NoProperties = tt
  any_properties (AndProperty ps key e) = (any_properties ps, any_expr e)

  any_decls : (x : Decls) → MildDecls (Unit {0}) x
  any_decls NoDecls = tt
  any_decls (AndDecl ds text at v) = (any_decls ds, any_optional v)

  any_init : (x : ForInit) → MildInit (Unit {0}) x
  any_init (DeclsFirst ds) = any_decls ds
  any_init (ExprsFirst xs) = any_exprs xs

  any_stmt : (x : Stmt) → MildStmt (Unit {0}) x
  any_stmt (StmtAt at names form) = any_stmt_form form

  any_stmt_form : (x : StmtForm) → MildStmtForm (Unit {0}) x
  any_stmt_form (Var ds) = any_decls ds
  any_stmt_form (Only e) = any_expr e
  any_stmt_form (If e a b) = (any_expr e, any_stmts a, any_stmts b)
  any_stmt_form (While e body) = (any_expr e, any_stmts body)
  any_stmt_form (DoWhile e body) = (any_expr e, any_stmts body)
  any_stmt_form (For init test next body) = (any_init init, any_optional test, any_exprs next, any_stmts body)
  any_stmt_form (ForIn declared text e body) = (any_expr e, any_stmts body)
  any_stmt_form (Continue label) = tt
  any_stmt_form (Break label) = tt
  any_stmt_form (Return v) = any_optional v
  any_stmt_form (Throw e) = any_expr e
  any_stmt_form (With e body) = (any_expr e, any_stmts body)
  any_stmt_form (Switch e cs) = (any_expr e, any_clauses cs)
  any_stmt_form (Try body caught last) = (any_stmts body, any_catch caught, any_block last)
  any_stmt_form (Label text s) = any_stmt s

  pub any_stmts : (x : Stmts) → MildStmts (Unit {0}) x
  any_stmts NoStmts = tt
  any_stmts (AndStmt ss s) = (any_stmts ss, any_stmt s)

  any_block : (x : OptionalBlock) → MildBlock (Unit {0}) x
  any_block NoBlock = tt
  any_block (SomeBlock ss) = any_stmts ss

  any_catch : (x : Catch) → MildCatch (Unit {0}) x
  any_catch NoCatch = tt
  any_catch (CatchAs text ss) = any_stmts ss

  any_clauses : (x : Clauses) → MildClauses (Unit {0}) x
  any_clauses NoClauses = tt
  any_clauses (AndClause cs test ss) = (any_clauses cs, any_optional test, any_stmts ss)

  any_fun : (x : Fun) → MildFun (Unit {0}) x
  any_fun (FunAt at names own params body funs) = (any_stmts body, any_funs funs)

  any_funs : (x : Funs) → MildFuns (Unit {0}) x
  any_funs NoFuns = tt
  any_funs (AndFun fs f) = (any_funs fs, any_fun f)

-- nowhere
mutual
  unfolding MildExpr TameExpr

  tame_expr : (x : Expr) → TameExpr x → MildExpr ⊥ x
  tame_expr (ExprAt at names form) h = tame_form form h

  tame_form : (x : ExprForm) → TameForm x → MildForm ⊥ x
  tame_form (Num text) h = tt
  tame_form (Str text) h = tt
  tame_form (Name text) h = tt
  tame_form (Constant w) h = tt
  tame_form (Array xs) h = tame_exprs xs h
  tame_form (Object ps) h = tame_properties ps h
  tame_form (Function f) h = tame_fun f h
  tame_form (Dot e text) h = tame_expr e h
  tame_form (Sub e i) h = (tame_expr e h.0, tame_expr i h.1)
  tame_form (Call e xs) h = (tame_expr e h.0, tame_exprs xs h.1)
  tame_form (New e xs) h = absurd h
  tame_form (Step op e) h = tame_expr e h
  tame_form (Unary op e) h = tame_expr e h
  tame_form (Binary op a b) h = (may_so op h.0, tame_expr a h.1, tame_expr b h.2)
  tame_form (And a b) h = (tame_expr a h.0, tame_expr b h.1)
  tame_form (Or a b) h = (tame_expr a h.0, tame_expr b h.1)
  tame_form (Cond a b c) h = (tame_expr a h.0, tame_expr b h.1, tame_expr c h.2)
  tame_form (Assign op a b) h = (tame_expr a h.0, tame_expr b h.1)
  tame_form (Comma a b) h = (tame_expr a h.0, tame_expr b h.1)

  tame_exprs : (x : Exprs) → TameExprs x → MildExprs ⊥ x
  tame_exprs NoExprs h = tt
  tame_exprs (AndExpr xs x) h = (tame_exprs xs h.0, tame_expr x h.1)

  tame_optional : (x : OptionalExpr) → TameOptional x → MildOptional ⊥ x
  tame_optional NoExpr h = tt
  tame_optional (SomeExpr e) h = tame_expr e h

  tame_properties : (x : Properties) → TameProperties x → MildProperties ⊥ x
  tame_properties NoProperties h = tt
  tame_properties (AndProperty ps key e) h = (tame_properties ps h.0, tame_expr e h.1)

  tame_decls : (x : Decls) → TameDecls x → MildDecls ⊥ x
  tame_decls NoDecls h = tt
  tame_decls (AndDecl ds text at v) h = (tame_decls ds h.0, tame_optional v h.1)

  tame_init : (x : ForInit) → TameInit x → MildInit ⊥ x
  tame_init (DeclsFirst ds) h = tame_decls ds h
  tame_init (ExprsFirst xs) h = tame_exprs xs h

  tame_stmt : (x : Stmt) → TameStmt x → MildStmt ⊥ x
  tame_stmt (StmtAt at names form) h = tame_stmt_form form h

  tame_stmt_form : (x : StmtForm) → TameStmtForm x → MildStmtForm ⊥ x
  tame_stmt_form (Var ds) h = tame_decls ds h
  tame_stmt_form (Only e) h = tame_expr e h
  tame_stmt_form (If e a b) h = (tame_expr e h.0, tame_stmts a h.1, tame_stmts b h.2)
  tame_stmt_form (While e body) h = (tame_expr e h.0, tame_stmts body h.1)
  tame_stmt_form (DoWhile e body) h = (tame_expr e h.0, tame_stmts body h.1)
  tame_stmt_form (For init test next body) h = (tame_init init h.0, tame_optional test h.1, tame_exprs next h.2, tame_stmts body h.3)
  tame_stmt_form (ForIn declared text e body) h = (tame_expr e h.0, tame_stmts body h.1)
  tame_stmt_form (Continue label) h = tt
  tame_stmt_form (Break label) h = tt
  tame_stmt_form (Return v) h = tame_optional v h
  tame_stmt_form (Throw e) h = tame_expr e h
  tame_stmt_form (With e body) h = (tame_expr e h.0, tame_stmts body h.1)
  tame_stmt_form (Switch e cs) h = (tame_expr e h.0, tame_clauses cs h.1)
  tame_stmt_form (Try body caught last) h = (tame_stmts body h.0, tame_catch caught h.1, tame_block last h.2)
  tame_stmt_form (Label text s) h = tame_stmt s h

  pub tame_stmts : (x : Stmts) → TameStmts x → MildStmts ⊥ x
  tame_stmts NoStmts h = tt
  tame_stmts (AndStmt ss s) h = (tame_stmts ss h.0, tame_stmt s h.1)

  tame_block : (x : OptionalBlock) → TameBlock x → MildBlock ⊥ x
  tame_block NoBlock h = tt
  tame_block (SomeBlock ss) h = tame_stmts ss h

  tame_catch : (x : Catch) → TameCatch x → MildCatch ⊥ x
  tame_catch NoCatch h = tt
  tame_catch (CatchAs text ss) h = tame_stmts ss h

  tame_clauses : (x : Clauses) → TameClauses x → MildClauses ⊥ x
  tame_clauses NoClauses h = tt
  tame_clauses (AndClause cs test ss) h = (tame_clauses cs h.0, tame_optional test h.1, tame_stmts ss h.2)

  tame_fun : (x : Fun) → TameFun x → MildFun ⊥ x
  tame_fun (FunAt at names own params body funs) h = (tame_stmts body h.0, tame_funs funs h.1)

  tame_funs : (x : Funs) → TameFuns x → MildFuns ⊥ x
  tame_funs NoFuns h = tt
  tame_funs (AndFun fs f) h = (tame_funs fs h.0, tame_fun f h.1)
