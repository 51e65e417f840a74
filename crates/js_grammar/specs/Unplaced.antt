-- Tokens and trees with their places forgotten: each place is 0.
use Rattle.std.specs.Prelude.{ℕ, List, [], ◌∷◌}
use Rattle.js_grammar.specs.declared.Sign.{Sign}
use Rattle.js_grammar.specs.Grammar.{Deep}
use Rattle.js_tree.specs.Plain.{Expr, ExprAt, ExprForm, Num, Str, Name, Constant, Array, Object, Function, Dot, Sub, Call, New, Step, Unary, Binary, And, Or, Cond, Assign, Comma, Exprs, NoExprs, AndExpr, OptionalExpr, NoExpr, SomeExpr, Properties, NoProperties, AndProperty, Decls, NoDecls, AndDecl, ForInit, DeclsFirst, ExprsFirst, Stmt, StmtAt, StmtForm, Var, Only, If, While, DoWhile, For, ForIn, Continue, Break, Return, Throw, With, Switch, Try, Label, Stmts, NoStmts, AndStmt, OptionalBlock, NoBlock, SomeBlock, Catch, NoCatch, CatchAs, Clauses, NoClauses, AndClause, Fun, FunAt, Funs, NoFuns, AndFun}

-- what the tokens are, wherever they stand: the sign and the text of each
abbrev pub spellings : List Deep → List (Sign × List ℕ)
spellings [] = []
spellings (((s, x), d) ∷ ts) = (s, x.text) ∷ spellings ts

-- as many zeros as places
abbrev pub zeros : List ℕ → List ℕ
zeros [] = []
zeros (at ∷ ats) = 0 ∷ zeros ats

unfoldable mutual
  pub unplaced_expr : Expr → Expr
  unplaced_expr (ExprAt at names form) = ExprAt 0 (zeros names) (unplaced_form form)

  pub unplaced_form : ExprForm → ExprForm
  unplaced_form (Num text) = Num text
  unplaced_form (Str text) = Str text
  unplaced_form (Name text) = Name text
  unplaced_form (Constant w) = Constant w
  unplaced_form (Array xs) = Array (unplaced_exprs xs)
  unplaced_form (Object ps) = Object (unplaced_properties ps)
  unplaced_form (Function f) = Function (unplaced_fun f)
  unplaced_form (Dot e text) = Dot (unplaced_expr e) text
  unplaced_form (Sub e i) = Sub (unplaced_expr e) (unplaced_expr i)
  unplaced_form (Call e xs) = Call (unplaced_expr e) (unplaced_exprs xs)
  unplaced_form (New e xs) = New (unplaced_expr e) (unplaced_exprs xs)
  unplaced_form (Step o e) = Step o (unplaced_expr e)
  unplaced_form (Unary o e) = Unary o (unplaced_expr e)
  unplaced_form (Binary o a c) = Binary o (unplaced_expr a) (unplaced_expr c)
  unplaced_form (And a c) = And (unplaced_expr a) (unplaced_expr c)
  unplaced_form (Or a c) = Or (unplaced_expr a) (unplaced_expr c)
  unplaced_form (Cond a c e) = Cond (unplaced_expr a) (unplaced_expr c) (unplaced_expr e)
  unplaced_form (Assign o a c) = Assign o (unplaced_expr a) (unplaced_expr c)
  unplaced_form (Comma a c) = Comma (unplaced_expr a) (unplaced_expr c)

  pub unplaced_exprs : Exprs → Exprs
  unplaced_exprs NoExprs = NoExprs
  unplaced_exprs (AndExpr xs x) = AndExpr (unplaced_exprs xs) (unplaced_expr x)

  pub unplaced_optional : OptionalExpr → OptionalExpr
  unplaced_optional NoExpr = NoExpr
  unplaced_optional (SomeExpr e) = SomeExpr (unplaced_expr e)

  pub unplaced_properties : Properties → Properties
  unplaced_properties NoProperties = NoProperties
  unplaced_properties (AndProperty ps key e) = AndProperty (unplaced_properties ps) key (unplaced_expr e)

  pub unplaced_decls : Decls → Decls
  unplaced_decls NoDecls = NoDecls
  unplaced_decls (AndDecl ds text at e) = AndDecl (unplaced_decls ds) text 0 (unplaced_optional e)

  pub unplaced_init : ForInit → ForInit
  unplaced_init (DeclsFirst ds) = DeclsFirst (unplaced_decls ds)
  unplaced_init (ExprsFirst xs) = ExprsFirst (unplaced_exprs xs)

  pub unplaced_stmt : Stmt → Stmt
  unplaced_stmt (StmtAt at names form) = StmtAt 0 (zeros names) (unplaced_stmt_form form)

  pub unplaced_stmt_form : StmtForm → StmtForm
  unplaced_stmt_form (Var ds) = Var (unplaced_decls ds)
  unplaced_stmt_form (Only e) = Only (unplaced_expr e)
  unplaced_stmt_form (If e a b) = If (unplaced_expr e) (unplaced_stmts a) (unplaced_stmts b)
  unplaced_stmt_form (While e body) = While (unplaced_expr e) (unplaced_stmts body)
  unplaced_stmt_form (DoWhile e body) = DoWhile (unplaced_expr e) (unplaced_stmts body)
  unplaced_stmt_form (For i test xs body) = For (unplaced_init i) (unplaced_optional test) (unplaced_exprs xs) (unplaced_stmts body)
  unplaced_stmt_form (ForIn declared text e body) = ForIn declared text (unplaced_expr e) (unplaced_stmts body)
  unplaced_stmt_form (Continue label) = Continue label
  unplaced_stmt_form (Break label) = Break label
  unplaced_stmt_form (Return e) = Return (unplaced_optional e)
  unplaced_stmt_form (Throw e) = Throw (unplaced_expr e)
  unplaced_stmt_form (With e body) = With (unplaced_expr e) (unplaced_stmts body)
  unplaced_stmt_form (Switch e cs) = Switch (unplaced_expr e) (unplaced_clauses cs)
  unplaced_stmt_form (Try body caught last) = Try (unplaced_stmts body) (unplaced_catch caught) (unplaced_block last)
  unplaced_stmt_form (Label text s) = Label text (unplaced_stmt s)

  pub unplaced_stmts : Stmts → Stmts
  unplaced_stmts NoStmts = NoStmts
  unplaced_stmts (AndStmt ss s) = AndStmt (unplaced_stmts ss) (unplaced_stmt s)

  pub unplaced_block : OptionalBlock → OptionalBlock
  unplaced_block NoBlock = NoBlock
  unplaced_block (SomeBlock ss) = SomeBlock (unplaced_stmts ss)

  pub unplaced_catch : Catch → Catch
  unplaced_catch NoCatch = NoCatch
  unplaced_catch (CatchAs text ss) = CatchAs text (unplaced_stmts ss)

  pub unplaced_clauses : Clauses → Clauses
  unplaced_clauses NoClauses = NoClauses
  unplaced_clauses (AndClause cs test ss) = AndClause (unplaced_clauses cs) (unplaced_optional test) (unplaced_stmts ss)

  pub unplaced_fun : Fun → Fun
  unplaced_fun (FunAt at names own params body funs) = FunAt 0 (zeros names) own params (unplaced_stmts body) (unplaced_funs funs)

  pub unplaced_funs : Funs → Funs
  unplaced_funs NoFuns = NoFuns
  unplaced_funs (AndFun fs f) = AndFun (unplaced_funs fs) (unplaced_fun f)
