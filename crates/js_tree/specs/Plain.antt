-- Parse trees as plain data, with no numbers of nodes. A text is its list of units.
use Rattle.std.specs.Prelude.{ℕ, List, Option, Bool}
use Rattle.js_tree.specs.declared.nodes.Word.{Word}
use Rattle.js_tree.specs.declared.nodes.StepOp.{StepOp}
use Rattle.js_tree.specs.declared.nodes.UnOp.{UnOp}
use Rattle.js_tree.specs.declared.nodes.BinOp.{BinOp}
use Rattle.js_tree.specs.declared.nodes.AssignOp.{AssignOp}

-- A node has the place of its first token, and the places of its own names in the order of the text: the property after a dot, the keys of an object literal, the name and the parameters of a function, the variable of a `for-in`, a label, and the name of a `catch`. A name as an expression stands at its node's place. Lists grow at their end.
mutual
  pub data Expr : Type 0 where
    ExprAt : ℕ → List ℕ → ExprForm → Expr

  pub data ExprForm : Type 0 where
    Num : List ℕ → ExprForm
    Str : List ℕ → ExprForm
    Name : List ℕ → ExprForm
    Constant : Word → ExprForm
    Array : Exprs → ExprForm
    Object : Properties → ExprForm
    Function : Fun → ExprForm
    Dot : Expr → List ℕ → ExprForm
    Sub : Expr → Expr → ExprForm
    Call : Expr → Exprs → ExprForm
    New : Expr → Exprs → ExprForm
    Step : StepOp → Expr → ExprForm
    Unary : UnOp → Expr → ExprForm
    Binary : BinOp → Expr → Expr → ExprForm
    And : Expr → Expr → ExprForm
    Or : Expr → Expr → ExprForm
    Cond : Expr → Expr → Expr → ExprForm
    Assign : AssignOp → Expr → Expr → ExprForm
    Comma : Expr → Expr → ExprForm

  pub data Exprs : Type 0 where
    NoExprs : Exprs
    AndExpr : Exprs → Expr → Exprs

  pub data OptionalExpr : Type 0 where
    NoExpr : OptionalExpr
    SomeExpr : Expr → OptionalExpr

  -- keys and values of an object literal
  pub data Properties : Type 0 where
    NoProperties : Properties
    AndProperty : Properties → List ℕ → Expr → Properties

  -- declared variables, each with its place
  pub data Decls : Type 0 where
    NoDecls : Decls
    AndDecl : Decls → List ℕ → ℕ → OptionalExpr → Decls

  pub data ForInit : Type 0 where
    DeclsFirst : Decls → ForInit
    ExprsFirst : Exprs → ForInit

  pub data Stmt : Type 0 where
    StmtAt : ℕ → List ℕ → StmtForm → Stmt

  pub data StmtForm : Type 0 where
    Var : Decls → StmtForm
    Only : Expr → StmtForm
    If : Expr → Stmts → Stmts → StmtForm
    While : Expr → Stmts → StmtForm
    DoWhile : Expr → Stmts → StmtForm
    For : ForInit → OptionalExpr → Exprs → Stmts → StmtForm
    ForIn : Bool → List ℕ → Expr → Stmts → StmtForm
    Continue : Option (List ℕ) → StmtForm
    Break : Option (List ℕ) → StmtForm
    Return : OptionalExpr → StmtForm
    Throw : Expr → StmtForm
    With : Expr → Stmts → StmtForm
    Switch : Expr → Clauses → StmtForm
    Try : Stmts → Catch → OptionalBlock → StmtForm
    Label : List ℕ → Stmt → StmtForm

  pub data Stmts : Type 0 where
    NoStmts : Stmts
    AndStmt : Stmts → Stmt → Stmts

  pub data OptionalBlock : Type 0 where
    NoBlock : OptionalBlock
    SomeBlock : Stmts → OptionalBlock

  pub data Catch : Type 0 where
    NoCatch : Catch
    CatchAs : List ℕ → Stmts → Catch

  -- clauses of a `switch`; `default` has no test
  pub data Clauses : Type 0 where
    NoClauses : Clauses
    AndClause : Clauses → OptionalExpr → Stmts → Clauses

  -- a function: its place, the places of its names, its own name, its parameters, its statements, its declarations
  pub data Fun : Type 0 where
    FunAt : ℕ → List ℕ → Option (List ℕ) → List (List ℕ) → Stmts → Funs → Fun

  pub data Funs : Type 0 where
    NoFuns : Funs
    AndFun : Funs → Fun → Funs

-- the place of an expression
abbrev pub expr_place : Expr → ℕ
expr_place (ExprAt at names form) = at

-- the place of a statement
abbrev pub stmt_place : Stmt → ℕ
stmt_place (StmtAt at names form) = at

-- the place of a function
abbrev pub fun_place : Fun → ℕ
fun_place (FunAt at names name params body funs) = at

-- the places of a node's own names
abbrev pub expr_names : Expr → List ℕ
expr_names (ExprAt at names form) = names

abbrev pub stmt_names : Stmt → List ℕ
stmt_names (StmtAt at names form) = names

abbrev pub fun_names : Fun → List ℕ
fun_names (FunAt at names name params body funs) = names
