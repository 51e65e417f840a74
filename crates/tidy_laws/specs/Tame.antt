-- Trees in which neither `new` nor the operator `in` stands. (Both get parentheses in the tidied text where none need have stood.)
use Rattle.js_tree.specs.declared.nodes.BinOp.{BinOp}
use Rattle.js_tree.specs.declared.nodes.BinOp.TheVariants as bin
use Rattle.js_tree.specs.Plain.{Expr, ExprAt, ExprForm, Num, Str, Name, Constant, Array, Object, Function, Dot, Sub, Call, New, Step, Unary, Binary, And, Or, Cond, Assign, Comma, Exprs, NoExprs, AndExpr, OptionalExpr, NoExpr, SomeExpr, Properties, NoProperties, AndProperty, Decls, NoDecls, AndDecl, ForInit, DeclsFirst, ExprsFirst, Stmt, StmtAt, StmtForm, Var, Only, If, While, DoWhile, For, ForIn, Continue, Break, Return, Throw, With, Switch, Try, Label, Stmts, NoStmts, AndStmt, OptionalBlock, NoBlock, SomeBlock, Catch, NoCatch, CatchAs, Clauses, NoClauses, AndClause, Fun, FunAt, Funs, NoFuns, AndFun}

-- another operator
abbrev pub IsNotIn : BinOp → Type 0
IsNotIn bin.In = ⊥
IsNotIn op = Unit {0}

-- it stands in no part
unfoldable mutual
  pub TameExpr : Expr → Type 0
  TameExpr (ExprAt at names form) = TameForm form

  pub TameForm : ExprForm → Type 0
  TameForm (Num text) = Unit {0}
  TameForm (Str text) = Unit {0}
  TameForm (Name text) = Unit {0}
  TameForm (Constant w) = Unit {0}
  TameForm (Array xs) = TameExprs xs
  TameForm (Object ps) = TameProperties ps
  TameForm (Function f) = TameFun f
  TameForm (Dot e text) = TameExpr e
  TameForm (Sub e i) = TameExpr e × TameExpr i
  TameForm (Call e xs) = TameExpr e × TameExprs xs
  TameForm (New e xs) = ⊥
  TameForm (Step op e) = TameExpr e
  TameForm (Unary op e) = TameExpr e
  TameForm (Binary op a b) = IsNotIn op × TameExpr a × TameExpr b
  TameForm (And a b) = TameExpr a × TameExpr b
  TameForm (Or a b) = TameExpr a × TameExpr b
  TameForm (Cond a b c) = TameExpr a × TameExpr b × TameExpr c
  TameForm (Assign op a b) = TameExpr a × TameExpr b
  TameForm (Comma a b) = TameExpr a × TameExpr b

  pub TameExprs : Exprs → Type 0
  TameExprs NoExprs = Unit {0}
  TameExprs (AndExpr xs x) = TameExprs xs × TameExpr x

  pub TameOptional : OptionalExpr → Type 0
  TameOptional NoExpr = Unit {0}
  TameOptional (SomeExpr e) = TameExpr e

  pub TameProperties : Properties → Type 0
  TameProperties NoProperties = Unit {0}
  TameProperties (AndProperty ps key e) = TameProperties ps × TameExpr e

  pub TameDecls : Decls → Type 0
  TameDecls NoDecls = Unit {0}
  TameDecls (AndDecl ds text at v) = TameDecls ds × TameOptional v

  pub TameInit : ForInit → Type 0
  TameInit (DeclsFirst ds) = TameDecls ds
  TameInit (ExprsFirst xs) = TameExprs xs

  pub TameStmt : Stmt → Type 0
  TameStmt (StmtAt at names form) = TameStmtForm form

  pub TameStmtForm : StmtForm → Type 0
  TameStmtForm (Var ds) = TameDecls ds
  TameStmtForm (Only e) = TameExpr e
  TameStmtForm (If e a b) = TameExpr e × TameStmts a × TameStmts b
  TameStmtForm (While e body) = TameExpr e × TameStmts body
  TameStmtForm (DoWhile e body) = TameExpr e × TameStmts body
  TameStmtForm (For init test next body) = TameInit init × TameOptional test × TameExprs next × TameStmts body
  TameStmtForm (ForIn declared text e body) = TameExpr e × TameStmts body
  TameStmtForm (Continue label) = Unit {0}
  TameStmtForm (Break label) = Unit {0}
  TameStmtForm (Return v) = TameOptional v
  TameStmtForm (Throw e) = TameExpr e
  TameStmtForm (With e body) = TameExpr e × TameStmts body
  TameStmtForm (Switch e cs) = TameExpr e × TameClauses cs
  TameStmtForm (Try body caught last) = TameStmts body × TameCatch caught × TameBlock last
  TameStmtForm (Label text s) = TameStmt s

  pub TameStmts : Stmts → Type 0
  TameStmts NoStmts = Unit {0}
  TameStmts (AndStmt ss s) = TameStmts ss × TameStmt s

  pub TameBlock : OptionalBlock → Type 0
  TameBlock NoBlock = Unit {0}
  TameBlock (SomeBlock ss) = TameStmts ss

  pub TameCatch : Catch → Type 0
  TameCatch NoCatch = Unit {0}
  TameCatch (CatchAs text ss) = TameStmts ss

  pub TameClauses : Clauses → Type 0
  TameClauses NoClauses = Unit {0}
  TameClauses (AndClause cs test ss) = TameClauses cs × TameOptional test × TameStmts ss

  pub TameFun : Fun → Type 0
  TameFun (FunAt at names own params body funs) = TameStmts body × TameFuns funs

  pub TameFuns : Funs → Type 0
  TameFuns NoFuns = Unit {0}
  TameFuns (AndFun fs f) = TameFuns fs × TameFun f
