-- The one spelling of a plain tree: its tokens, with parentheses only where the grammar needs them.
use Rattle.std.specs.Prelude.{ℕ, ◌+◌, List, [], ◌∷◌, ◌++◌, Option, Some, None, Bool, true, false, nat_lt, ◌&&◌, ◌||◌, if◌then◌else◌, map, codes}
use Rattle.js_tree.specs.declared.nodes.StepOp.{StepOp}
use Rattle.js_tree.specs.declared.nodes.StepOp.TheVariants as step
use Rattle.js_tree.specs.declared.nodes.BinOp.{BinOp}
use Rattle.js_tree.specs.declared.nodes.BinOp.TheVariants as bin
use Rattle.js_tree.specs.Plain.{
  Expr,
  ExprAt,
  ExprForm,
  Num,
  Str,
  Name,
  Constant,
  Array,
  Object,
  Function,
  Dot,
  Sub,
  Call,
  New,
  Step,
  Unary,
  Binary,
  And,
  Or,
  Cond,
  Assign,
  Comma,
  Exprs,
  NoExprs,
  AndExpr,
  OptionalExpr,
  NoExpr,
  SomeExpr,
  Properties,
  NoProperties,
  AndProperty,
  Decls,
  NoDecls,
  AndDecl,
  ForInit,
  DeclsFirst,
  ExprsFirst,
  Stmt,
  StmtAt,
  StmtForm,
  Var,
  Only,
  If,
  While,
  DoWhile,
  For,
  ForIn,
  Continue,
  Break,
  Return,
  Throw,
  With,
  Switch,
  Try,
  Label,
  Stmts,
  NoStmts,
  AndStmt,
  OptionalBlock,
  NoBlock,
  SomeBlock,
  Catch,
  NoCatch,
  CatchAs,
  Clauses,
  NoClauses,
  AndClause,
  Fun,
  FunAt,
  Funs,
  NoFuns,
  AndFun,
}
use Rattle.js_pieces.specs.declared.levels.TheConstants.{WHOLE, ASSIGNMENT, OR, AND, BIT_OR, BIT_XOR, BIT_AND, EQUALITY, RELATION, SHIFT, SUM, PRODUCT, UNARY, STEP, CHAIN, PRIMARY, LOOSE}
use Rattle.js_pieces.specs.Spelling.{name_bytes, string_bytes, word_bytes, unary_bytes, binary_bytes, assign_bytes}

-- tokens, each as its bytes
abbrev pub Tokens : Type 0
Tokens = List (List ℕ)

-- one after the other
abbrev pub flat : List Tokens → Tokens
flat [] = []
flat (x ∷ xs) = x ++ flat xs

-- each after a comma
abbrev pub more : List Tokens → Tokens
more [] = []
more (x ∷ xs) = codes "," ∷ (x ++ more xs)

-- between commas
abbrev pub listed : List Tokens → Tokens
listed [] = []
listed (x ∷ xs) = x ++ more xs

-- one token
abbrev pub mark : List ℕ → Tokens
mark bytes = bytes ∷ []

-- a name or a number
abbrev pub name : List ℕ → Tokens
name text = name_bytes text ∷ []

-- a string in its quotes
abbrev pub quoted : List ℕ → Tokens
quoted text = string_bytes text ∷ []

-- how tight an operator binds its operands
abbrev pub operator_level : BinOp → ℕ
operator_level bin.Mul = PRODUCT
operator_level bin.Div = PRODUCT
operator_level bin.Rem = PRODUCT
operator_level bin.Add = SUM
operator_level bin.Sub = SUM
operator_level bin.ShiftLeft = SHIFT
operator_level bin.ShiftRight = SHIFT
operator_level bin.ShiftRightZero = SHIFT
operator_level bin.Less = RELATION
operator_level bin.Greater = RELATION
operator_level bin.LessEqual = RELATION
operator_level bin.GreaterEqual = RELATION
operator_level bin.InstanceOf = RELATION
operator_level bin.In = RELATION
operator_level bin.Equal = EQUALITY
operator_level bin.NotEqual = EQUALITY
operator_level bin.Same = EQUALITY
operator_level bin.NotSame = EQUALITY
operator_level bin.BitAnd = BIT_AND
operator_level bin.BitXor = BIT_XOR
operator_level bin.BitOr = BIT_OR

-- how tight a step binds
abbrev pub step_level : StepOp → ℕ
step_level step.PreInc = UNARY
step_level step.PreDec = UNARY
step_level step.PostInc = STEP
step_level step.PostDec = STEP

-- an operator `in` stands in parentheses everywhere, since it does not stand free in the head of a `for`
abbrev pub binary_level : BinOp → ℕ
binary_level bin.In = LOOSE
binary_level op = operator_level op

-- how tight a form binds
abbrev pub level_of : ExprForm → ℕ
level_of (Dot e text) = CHAIN
level_of (Sub a b) = CHAIN
level_of (Call e xs) = CHAIN
level_of (New e xs) = CHAIN
level_of (Step op e) = step_level op
level_of (Unary op e) = UNARY
level_of (Binary op a b) = binary_level op
level_of (And a b) = AND
level_of (Or a b) = OR
level_of (Cond a b c) = ASSIGNMENT
level_of (Assign op a b) = ASSIGNMENT
level_of (Comma a b) = WHOLE
level_of _ = PRIMARY

-- it begins with `{` or `function`
abbrev pub is_opening : ExprForm → Bool
is_opening (Object ps) = true
is_opening (Function g) = true
is_opening _ = false

-- Parentheses stand where a tighter form is asked for, and round what no statement begins with. `first` says that a statement begins here.
abbrev pub is_enclosed : Bool → ℕ → ExprForm → Bool
is_enclosed first level form = nat_lt (level_of form) level || (first && is_opening form)

-- an expression in parentheses
abbrev pub enclosed : Tokens → Tokens
enclosed ts = flat (mark (codes "(") ∷ ts ∷ mark (codes ")") ∷ [])

-- a block
abbrev pub braced : Tokens → Tokens
braced ts = flat (mark (codes "{") ∷ ts ∷ mark (codes "}") ∷ [])

-- a name, where there is one
abbrev pub label_tokens : Option (List ℕ) → Tokens
label_tokens None = []
label_tokens (Some label) = name label

-- the variable of a `for-in` is declared there, or not
abbrev pub var_tokens : Bool → Tokens
var_tokens declared = if declared then mark (codes "var") else []

-- a statement is an `if`
abbrev pub is_if : Stmt → Bool
is_if (StmtAt at names (If e a b)) = true
is_if _ = false

-- an `else` part that is one `if` stands without braces, and an empty one is left out
abbrev pub else_tokens : Stmts → Tokens → Tokens
else_tokens NoStmts ts = []
else_tokens (AndStmt NoStmts s) ts = if is_if s then flat (mark (codes "else") ∷ ts ∷ []) else flat (mark (codes "else") ∷ braced ts ∷ [])
else_tokens _ ts = flat (mark (codes "else") ∷ braced ts ∷ [])

-- the rows of the grammar
unfoldable mutual
  pub expr_tokens : Bool → ℕ → Expr → Tokens
  expr_tokens first level (ExprAt at names form) = if is_enclosed first level form then enclosed (form_tokens false form) else form_tokens first form

  pub form_tokens : Bool → ExprForm → Tokens
  form_tokens first (Num text) = name text
  form_tokens first (Str text) = quoted text
  form_tokens first (Name text) = name text
  form_tokens first (Constant w) = mark (word_bytes w)
  form_tokens first (Array xs) = flat (mark (codes "[") ∷ listed (exprs_tokens xs) ∷ mark (codes "]") ∷ [])
  form_tokens first (Object ps) = flat (mark (codes "{") ∷ listed (properties_tokens ps) ∷ mark (codes "}") ∷ [])
  form_tokens first (Function g) = flat (fun_tokens g ∷ [])
  form_tokens first (Dot e text) = flat (expr_tokens first CHAIN e ∷ mark (codes ".") ∷ name text ∷ [])
  form_tokens first (Sub a b) = flat (expr_tokens first CHAIN a ∷ mark (codes "[") ∷ expr_tokens false WHOLE b ∷ mark (codes "]") ∷ [])
  form_tokens first (Call e xs) = flat (expr_tokens first CHAIN e ∷ mark (codes "(") ∷ listed (exprs_tokens xs) ∷ mark (codes ")") ∷ [])
  form_tokens first (New e xs) = flat (mark (codes "new") ∷ expr_tokens false PRIMARY e ∷ mark (codes "(") ∷ listed (exprs_tokens xs) ∷ mark (codes ")") ∷ [])
  form_tokens first (Step step.PreInc e) = flat (mark (codes "++") ∷ expr_tokens false UNARY e ∷ [])
  form_tokens first (Step step.PreDec e) = flat (mark (codes "--") ∷ expr_tokens false UNARY e ∷ [])
  form_tokens first (Step step.PostInc e) = flat (expr_tokens first CHAIN e ∷ mark (codes "++") ∷ [])
  form_tokens first (Step step.PostDec e) = flat (expr_tokens first CHAIN e ∷ mark (codes "--") ∷ [])
  form_tokens first (Unary op e) = flat (mark (unary_bytes op) ∷ expr_tokens false UNARY e ∷ [])
  form_tokens first (Binary op a b) = flat (expr_tokens first (operator_level op) a ∷ mark (binary_bytes op) ∷ expr_tokens false (operator_level op + 1) b ∷ [])
  form_tokens first (And a b) = flat (expr_tokens first AND a ∷ mark (codes "&&") ∷ expr_tokens false BIT_OR b ∷ [])
  form_tokens first (Or a b) = flat (expr_tokens first OR a ∷ mark (codes "||") ∷ expr_tokens false AND b ∷ [])
  form_tokens first (Cond a b c) = flat (expr_tokens first OR a ∷ mark (codes "?") ∷ expr_tokens false ASSIGNMENT b ∷ mark (codes ":") ∷ expr_tokens false ASSIGNMENT c ∷ [])
  form_tokens first (Assign op a b) = flat (expr_tokens first CHAIN a ∷ mark (assign_bytes op) ∷ expr_tokens false ASSIGNMENT b ∷ [])
  form_tokens first (Comma a b) = flat (expr_tokens first WHOLE a ∷ mark (codes ",") ∷ expr_tokens false ASSIGNMENT b ∷ [])

  -- the tokens of each in a list
  pub exprs_tokens : Exprs → List Tokens
  exprs_tokens NoExprs = []
  exprs_tokens (AndExpr xs x) = exprs_tokens xs ++ expr_tokens false ASSIGNMENT x ∷ []

  pub properties_tokens : Properties → List Tokens
  properties_tokens NoProperties = []
  properties_tokens (AndProperty ps key e) = properties_tokens ps ++ flat (quoted key ∷ mark (codes ":") ∷ expr_tokens false ASSIGNMENT e ∷ []) ∷ []

  pub decls_tokens : Decls → List Tokens
  decls_tokens NoDecls = []
  decls_tokens (AndDecl ds text at e) = decls_tokens ds ++ flat (name text ∷ value_tokens e ∷ []) ∷ []

  pub value_tokens : OptionalExpr → Tokens
  value_tokens NoExpr = []
  value_tokens (SomeExpr e) = flat (mark (codes "=") ∷ expr_tokens false ASSIGNMENT e ∷ [])

  pub optional_tokens : OptionalExpr → Tokens
  optional_tokens NoExpr = []
  optional_tokens (SomeExpr e) = flat (expr_tokens false WHOLE e ∷ [])

  pub init_tokens : ForInit → Tokens
  init_tokens (DeclsFirst ds) = flat (mark (codes "var") ∷ listed (decls_tokens ds) ∷ [])
  init_tokens (ExprsFirst xs) = flat (listed (exprs_tokens xs) ∷ [])

  pub stmt_tokens : Stmt → Tokens
  stmt_tokens (StmtAt at names form) = stmt_form_tokens form

  pub stmt_form_tokens : StmtForm → Tokens
  stmt_form_tokens (Var ds) = flat (mark (codes "var") ∷ listed (decls_tokens ds) ∷ mark (codes ";") ∷ [])
  stmt_form_tokens (Only e) = flat (expr_tokens true WHOLE e ∷ mark (codes ";") ∷ [])
  stmt_form_tokens (If e a b) = flat (mark (codes "if") ∷ enclosed (expr_tokens false WHOLE e) ∷ braced (stmts_tokens a) ∷ else_tokens b (stmts_tokens b) ∷ [])
  stmt_form_tokens (While e body) = flat (mark (codes "while") ∷ enclosed (expr_tokens false WHOLE e) ∷ braced (stmts_tokens body) ∷ [])
  stmt_form_tokens (DoWhile e body) = flat (mark (codes "do") ∷ braced (stmts_tokens body) ∷ mark (codes "while") ∷ enclosed (expr_tokens false WHOLE e) ∷ mark (codes ";") ∷ [])
  stmt_form_tokens (For init test next body) = flat (mark (codes "for") ∷ mark (codes "(") ∷ init_tokens init ∷ mark (codes ";") ∷ optional_tokens test ∷ mark (codes ";") ∷ listed (exprs_tokens next) ∷ mark (codes ")") ∷ braced (stmts_tokens body) ∷ [])
  stmt_form_tokens (ForIn declared text e body) = flat (mark (codes "for") ∷ mark (codes "(") ∷ var_tokens declared ∷ name text ∷ mark (codes "in") ∷ expr_tokens false WHOLE e ∷ mark (codes ")") ∷ braced (stmts_tokens body) ∷ [])
  stmt_form_tokens (Continue label) = flat (mark (codes "continue") ∷ label_tokens label ∷ mark (codes ";") ∷ [])
  stmt_form_tokens (Break label) = flat (mark (codes "break") ∷ label_tokens label ∷ mark (codes ";") ∷ [])
  stmt_form_tokens (Return e) = flat (mark (codes "return") ∷ optional_tokens e ∷ mark (codes ";") ∷ [])
  stmt_form_tokens (Throw e) = flat (mark (codes "throw") ∷ expr_tokens false WHOLE e ∷ mark (codes ";") ∷ [])
  stmt_form_tokens (With e body) = flat (mark (codes "with") ∷ enclosed (expr_tokens false WHOLE e) ∷ braced (stmts_tokens body) ∷ [])
  stmt_form_tokens (Switch e cs) = flat (mark (codes "switch") ∷ enclosed (expr_tokens false WHOLE e) ∷ mark (codes "{") ∷ clauses_tokens cs ∷ mark (codes "}") ∷ [])
  stmt_form_tokens (Try body caught last) = flat (mark (codes "try") ∷ braced (stmts_tokens body) ∷ catch_tokens caught ∷ last_tokens last ∷ [])
  stmt_form_tokens (Label text s) = flat (name text ∷ mark (codes ":") ∷ stmt_tokens s ∷ [])

  pub stmts_tokens : Stmts → Tokens
  stmts_tokens NoStmts = []
  stmts_tokens (AndStmt ss s) = stmts_tokens ss ++ stmt_tokens s

  pub catch_tokens : Catch → Tokens
  catch_tokens NoCatch = []
  catch_tokens (CatchAs text body) = flat (mark (codes "catch") ∷ mark (codes "(") ∷ name text ∷ mark (codes ")") ∷ braced (stmts_tokens body) ∷ [])

  pub last_tokens : OptionalBlock → Tokens
  last_tokens NoBlock = []
  last_tokens (SomeBlock body) = flat (mark (codes "finally") ∷ braced (stmts_tokens body) ∷ [])

  pub clauses_tokens : Clauses → Tokens
  clauses_tokens NoClauses = []
  clauses_tokens (AndClause cs test body) = clauses_tokens cs ++ flat (test_tokens test ∷ mark (codes ":") ∷ stmts_tokens body ∷ [])

  pub test_tokens : OptionalExpr → Tokens
  test_tokens NoExpr = mark (codes "default")
  test_tokens (SomeExpr e) = flat (mark (codes "case") ∷ expr_tokens false WHOLE e ∷ [])

  -- the declarations come before the statements
  pub fun_tokens : Fun → Tokens
  fun_tokens (FunAt at names own params body funs) = flat (mark (codes "function") ∷ label_tokens own ∷ mark (codes "(") ∷ listed (map name params) ∷ mark (codes ")") ∷ mark (codes "{") ∷ funs_tokens funs ∷ stmts_tokens body ∷ mark (codes "}") ∷ [])

  pub funs_tokens : Funs → Tokens
  funs_tokens NoFuns = []
  funs_tokens (AndFun gs g) = funs_tokens gs ++ fun_tokens g

-- a space before each token, the first one apart, and a line feed at the end
abbrev pub spaced : Bool → Tokens → List ℕ
spaced begun [] = 10 ∷ []
spaced begun (t ∷ ts) = (if begun then 32 ∷ [] else []) ++ (t ++ spaced true ts)

-- the text of a program
abbrev pub tidy : Stmts → List ℕ
tidy program = spaced false (stmts_tokens program)
