-- Ordinary values: texts of 16-bit units, and numbers within the numbers. Where texts stand in scripts, in pages and in
-- what is given to a widget.
use Rattle.std.specs.Prelude.{ℕ, ◌<◌, length, unsigned_abs, List, Option, Some, None, ⊤}
use Rattle.std.specs.List.{AllByRecursion}
use Rattle.js_tree.specs.Plain as tree
use Rattle.js_tree.specs.Plain.{Expr, ExprForm, Exprs, OptionalExpr, Properties, Decls, ForInit, Stmt, StmtForm, Stmts, OptionalBlock, Catch, Clauses, Fun, Funs}
use Rattle.plain_tree.specs.Trees.{Label, TextOf, ElementOf, End, Node}
use Rattle.widget_meaning.specs.Limits.{past_units, past_numbers}
use Rattle.widget_meaning.specs.Values.{Value, Undefined, Null, Truth, NaN, Num, Text, Own, Host}
use Rattle.widget_meaning.specs.OwnState.{Pairs}
use Rattle.widget_meaning.specs.Trees.{Trees}
use Rattle.widget_meaning.specs.Items.{Item, Occurs, Advance}
use Rattle.widget_meaning.specs.Alone.{Content}

-- each unit has 16 bits
abbrev pub AreUnits : List ℕ → Type 0
AreUnits t = AllByRecursion (λ u. u < past_units) t

-- a text: of such units, and shorter than the numbers are great
abbrev pub IsText : List ℕ → Type 0
IsText t = AreUnits t × (length t < past_numbers)

-- units in each of these
abbrev pub AreAllUnits : List (List ℕ) → Type 0
AreAllUnits ts = AllByRecursion AreUnits ts

-- each of these texts
abbrev pub AreTexts : List (List ℕ) → Type 0
AreTexts ts = AllByRecursion IsText ts

-- a text, if there is one
abbrev pub MaybeText : Option (List ℕ) → Type 0
MaybeText None = ⊤
MaybeText (Some t) = IsText t

-- units, if there are any
abbrev pub MaybeUnits : Option (List ℕ) → Type 0
MaybeUnits None = ⊤
MaybeUnits (Some t) = AreUnits t

-- an ordinary value: a text is one, and a number is within the numbers
abbrev pub IsOrdinaryValue : Value → Type 0
IsOrdinaryValue Undefined = ⊤
IsOrdinaryValue Null = ⊤
IsOrdinaryValue (Truth b) = ⊤
IsOrdinaryValue NaN = ⊤
IsOrdinaryValue (Num z) = unsigned_abs z < past_numbers
IsOrdinaryValue (Text t) = IsText t
IsOrdinaryValue (Own n) = ⊤
IsOrdinaryValue (Host h) = ⊤

-- each name
abbrev pub AreNames : Pairs → Type 0
AreNames ps = AllByRecursion (λ p. IsText p.0) ps

-- ## Scripts: the strings, the names behind a dot and the keys of objects are texts

abbrev mutual
  -- an expression
  pub ExprHasTexts : Expr → Type 0
  ExprHasTexts (tree.ExprAt at names form) = FormHasTexts form

  -- its form
  pub FormHasTexts : ExprForm → Type 0
  FormHasTexts (tree.Num t) = ⊤
  FormHasTexts (tree.Str t) = IsText t
  FormHasTexts (tree.Name x) = ⊤
  FormHasTexts (tree.Constant w) = ⊤
  FormHasTexts (tree.Array es) = ExprsHaveTexts es
  FormHasTexts (tree.Object qs) = PropertiesHaveTexts qs
  FormHasTexts (tree.Function f) = FunHasTexts f
  FormHasTexts (tree.Dot e x) = ExprHasTexts e × IsText x
  FormHasTexts (tree.Sub e i) = ExprHasTexts e × ExprHasTexts i
  FormHasTexts (tree.Call e es) = ExprHasTexts e × ExprsHaveTexts es
  FormHasTexts (tree.New e es) = ExprHasTexts e × ExprsHaveTexts es
  FormHasTexts (tree.Step op e) = ExprHasTexts e
  FormHasTexts (tree.Unary op e) = ExprHasTexts e
  FormHasTexts (tree.Binary op a b) = ExprHasTexts a × ExprHasTexts b
  FormHasTexts (tree.And a b) = ExprHasTexts a × ExprHasTexts b
  FormHasTexts (tree.Or a b) = ExprHasTexts a × ExprHasTexts b
  FormHasTexts (tree.Cond a b c) = ExprHasTexts a × (ExprHasTexts b × ExprHasTexts c)
  FormHasTexts (tree.Assign op e v) = ExprHasTexts e × ExprHasTexts v
  FormHasTexts (tree.Comma a b) = ExprHasTexts a × ExprHasTexts b

  -- expressions in a row
  pub ExprsHaveTexts : Exprs → Type 0
  ExprsHaveTexts tree.NoExprs = ⊤
  ExprsHaveTexts (tree.AndExpr es e) = ExprsHaveTexts es × ExprHasTexts e

  -- an expression, if there is one
  pub OptionHasTexts : OptionalExpr → Type 0
  OptionHasTexts tree.NoExpr = ⊤
  OptionHasTexts (tree.SomeExpr e) = ExprHasTexts e

  -- keys and values
  pub PropertiesHaveTexts : Properties → Type 0
  PropertiesHaveTexts tree.NoProperties = ⊤
  PropertiesHaveTexts (tree.AndProperty qs x e) = PropertiesHaveTexts qs × (IsText x × ExprHasTexts e)

  -- declared variables
  pub DeclsHaveTexts : Decls → Type 0
  DeclsHaveTexts tree.NoDecls = ⊤
  DeclsHaveTexts (tree.AndDecl ds x at e) = DeclsHaveTexts ds × OptionHasTexts e

  -- the first part of a `for`
  pub InitHasTexts : ForInit → Type 0
  InitHasTexts (tree.DeclsFirst ds) = DeclsHaveTexts ds
  InitHasTexts (tree.ExprsFirst es) = ExprsHaveTexts es

  -- a statement
  pub StmtHasTexts : Stmt → Type 0
  StmtHasTexts (tree.StmtAt at names form) = StmtFormHasTexts form

  -- its form
  pub StmtFormHasTexts : StmtForm → Type 0
  StmtFormHasTexts (tree.Var ds) = DeclsHaveTexts ds
  StmtFormHasTexts (tree.Only e) = ExprHasTexts e
  StmtFormHasTexts (tree.If e a b) = ExprHasTexts e × (StmtsHaveTexts a × StmtsHaveTexts b)
  StmtFormHasTexts (tree.While e b) = ExprHasTexts e × StmtsHaveTexts b
  StmtFormHasTexts (tree.DoWhile e b) = ExprHasTexts e × StmtsHaveTexts b
  StmtFormHasTexts (tree.For first test next b) =
      InitHasTexts first × (OptionHasTexts test × (ExprsHaveTexts next × StmtsHaveTexts b))
  StmtFormHasTexts (tree.ForIn is_declared x e b) = ExprHasTexts e × StmtsHaveTexts b
  StmtFormHasTexts (tree.Continue x) = ⊤
  StmtFormHasTexts (tree.Break x) = ⊤
  StmtFormHasTexts (tree.Return e) = OptionHasTexts e
  StmtFormHasTexts (tree.Throw e) = ExprHasTexts e
  StmtFormHasTexts (tree.With e b) = ExprHasTexts e × StmtsHaveTexts b
  StmtFormHasTexts (tree.Switch e cs) = ExprHasTexts e × ClausesHaveTexts cs
  StmtFormHasTexts (tree.Try a c b) = StmtsHaveTexts a × (CatchHasTexts c × BlockHasTexts b)
  StmtFormHasTexts (tree.Label x s) = StmtHasTexts s

  -- statements in a row
  pub StmtsHaveTexts : Stmts → Type 0
  StmtsHaveTexts tree.NoStmts = ⊤
  StmtsHaveTexts (tree.AndStmt ss s) = StmtsHaveTexts ss × StmtHasTexts s

  -- the block of a `finally`
  pub BlockHasTexts : OptionalBlock → Type 0
  BlockHasTexts tree.NoBlock = ⊤
  BlockHasTexts (tree.SomeBlock ss) = StmtsHaveTexts ss

  -- a `catch`
  pub CatchHasTexts : Catch → Type 0
  CatchHasTexts tree.NoCatch = ⊤
  CatchHasTexts (tree.CatchAs x ss) = StmtsHaveTexts ss

  -- the clauses of a `switch`
  pub ClausesHaveTexts : Clauses → Type 0
  ClausesHaveTexts tree.NoClauses = ⊤
  ClausesHaveTexts (tree.AndClause cs test ss) = ClausesHaveTexts cs × (OptionHasTexts test × StmtsHaveTexts ss)

  -- a function
  pub FunHasTexts : Fun → Type 0
  FunHasTexts (tree.FunAt at names name params body funs) = StmtsHaveTexts body × FunsHaveTexts funs

  -- declared functions
  pub FunsHaveTexts : Funs → Type 0
  FunsHaveTexts tree.NoFuns = ⊤
  FunsHaveTexts (tree.AndFun fs f) = FunsHaveTexts fs × FunHasTexts f

-- ## Pages: tags, values of attributes and text nodes are of 16-bit units

-- a node
abbrev pub LabelHasTexts : Label → Type 0
LabelHasTexts (TextOf t) = AreUnits t
LabelHasTexts (ElementOf tag attrs) = AreUnits tag × AllByRecursion (λ a. AreUnits a.1) attrs

-- each node
abbrev pub PageHasTexts : Trees → Type 0
PageHasTexts End = ⊤
PageHasTexts (Node n l ks ts) = LabelHasTexts l × (PageHasTexts ks × PageHasTexts ts)

-- ## What a widget is given

-- its subtree, its libraries and its script
pub record ContentHasTexts (w : Content) : Type 0 where
  pub page : PageHasTexts w.root
  pub libraries : AllByRecursion StmtsHaveTexts w.libraries
  pub script : StmtsHaveTexts w.script

-- an item: the type and the value of an event
abbrev pub ItemHasTexts : Item → Type 0
ItemHasTexts (Occurs e) = IsText e.kind × MaybeText e.value
ItemHasTexts (Advance d) = ⊤
