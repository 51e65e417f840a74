-- Which tokens spell which tree (ECMA-262 3rd edition, sections 11 to 14).
use Rattle.std.specs.Prelude.{◌≡◌, ℕ, suc, List, [], ◌∷◌, ◌++◌, Bool, true, false, Option, Some, None}
use Rattle.js_grammar.specs.declared.Sign.{Sign}
use Rattle.js_grammar.specs.declared.Sign.TheVariants as sign
use Rattle.js_grammar.specs.declared.Infix.{Infix}
use Rattle.js_grammar.specs.declared.Prefix.{Prefix}
use Rattle.js_grammar.specs.Tables.{infix_of, level_of, joined, prefix_of, prefixed, step_of, assign_of, is_tail, opens_other, is_key}
use Rattle.exact_refusals.specs.Places.{signs}
use Rattle.js_tree.specs.declared.nodes.Word.TheVariants as word
use Rattle.js_tree.specs.declared.nodes.StepOp.{StepOp}
use Rattle.js_tree.specs.declared.nodes.AssignOp.{AssignOp}
use Rattle.js_tree.specs.Plain.{Expr, Exprs, ExprAt, Num, Str, Name, Constant, Array, Object, Function, Dot, Sub, Call, New, Step, Cond, Assign, Comma, NoExprs, AndExpr, OptionalExpr, NoExpr, SomeExpr, Properties, NoProperties, AndProperty, Decls, NoDecls, AndDecl, DeclsFirst, ExprsFirst, Stmt, StmtAt, Var, Only, If, While, DoWhile, For, ForIn, Continue, Break, Return, Throw, With, Switch, Try, Label, Stmts, NoStmts, AndStmt, NoBlock, SomeBlock, NoCatch, CatchAs, Clauses, NoClauses, AndClause, Fun, FunAt, Funs, NoFuns, AndFun, expr_place}

-- the units of a token, and its byte offset
pub record Lexeme : Type 0 where
  pub text : List ℕ
  pub at : ℕ

abbrev pub Token : Type 0
Token = Sign × Lexeme

-- a token with its depth: the number of links in which it stands
abbrev pub Deep : Type 0
Deep = Token × ℕ

-- A level of expressions, from the tightest. `Operators b n` has the operators of levels below n; where b is true, no `in` stands in it outside brackets.
pub data Level : Type 0 where
  Primary : Level
  -- what `new` makes
  Operand : Level
  -- what an assignment may have on its left side, up to `New`
  LeftHand : Level
  Unary : Level
  Operators : Bool → ℕ → Level
  Assignment : Bool → Level
  Whole : Level

-- what tokens may spell
pub data Thing : Type 0 where
  -- an expression of a level
  An : Level → Expr → Thing
  -- assignment expressions between commas
  Items : Bool → Exprs → Thing
  -- keys with values between commas, and the places of the keys
  Keys : Properties → List ℕ → Thing
  -- an expression or nothing
  Maybe : OptionalExpr → Thing
  -- names between commas
  Names : List Lexeme → Thing
  -- a function from its `(` on, with its word and its own name
  Code : Lexeme → Option Lexeme → Fun → Thing
  -- the value of a declared variable, or nothing
  Init : Bool → OptionalExpr → Thing
  -- declared variables between commas
  Vars : Bool → Decls → Thing
  -- one statement
  A : Stmt → Thing
  -- statements
  Statements : Stmts → Thing
  -- statements in braces
  Block : Stmts → Thing
  -- the clauses of a `switch`
  Cases : Clauses → Thing
  -- statements and function declarations
  Body : Stmts → Funs → Thing

-- the units of the names
abbrev pub texts : List Lexeme → List (List ℕ)
texts [] = []
texts (x ∷ xs) = x.text ∷ texts xs

-- the places of the names
abbrev pub places : List Lexeme → List ℕ
places [] = []
places (x ∷ xs) = x.at ∷ places xs

abbrev pub own_text : Option Lexeme → Option (List ℕ)
own_text None = None
own_text (Some x) = Some x.text

abbrev pub own_places : Option Lexeme → List ℕ → List ℕ
own_places None ps = ps
own_places (Some x) ps = x.at ∷ ps

-- a function with its word, its own name and its parameters
abbrev pub fun_of : Lexeme → Option Lexeme → List Lexeme → Stmts → Funs → Fun
fun_of word own params body funs = FunAt word.at (own_places own (places params)) (own_text own) (texts params) body funs

-- the next token goes on with the operand of a `new`
abbrev pub goes_on : List Deep → Bool
goes_on (((s, x), d) ∷ ts) = is_tail s
goes_on [] = false

-- there is a `default` among the clauses
abbrev pub has_default : Clauses → Bool
has_default NoClauses = false
has_default (AndClause cs NoExpr body) = true
has_default (AndClause cs (SomeExpr e) body) = has_default cs

-- `Spells thing d ts rest`: what stands in ts before rest spells the thing, d links deep
pub data Spells : Thing → ℕ → List Deep → List Deep → Type 0 where
  -- primary expressions (11.1)
  name : {x : Lexeme} {d : ℕ} {rest : List Deep} → Spells (An Primary (ExprAt x.at [] (Name x.text))) d (((sign.Name, x), d) ∷ rest) rest
  number : {x : Lexeme} {d : ℕ} {rest : List Deep} → Spells (An Primary (ExprAt x.at [] (Num x.text))) d (((sign.Number, x), d) ∷ rest) rest
  string : {x : Lexeme} {d : ℕ} {rest : List Deep} → Spells (An Primary (ExprAt x.at [] (Str x.text))) d (((sign.Str, x), d) ∷ rest) rest
  this : {x : Lexeme} {d : ℕ} {rest : List Deep} → Spells (An Primary (ExprAt x.at [] (Constant word.This))) d (((sign.This, x), d) ∷ rest) rest
  null : {x : Lexeme} {d : ℕ} {rest : List Deep} → Spells (An Primary (ExprAt x.at [] (Constant word.Null))) d (((sign.Null, x), d) ∷ rest) rest
  true_word : {x : Lexeme} {d : ℕ} {rest : List Deep} → Spells (An Primary (ExprAt x.at [] (Constant word.True))) d (((sign.True, x), d) ∷ rest) rest
  false_word : {x : Lexeme} {d : ℕ} {rest : List Deep} → Spells (An Primary (ExprAt x.at [] (Constant word.False))) d (((sign.False, x), d) ∷ rest) rest
  paren : {p q : Lexeme} {e : Expr} {d : ℕ} {ts rest : List Deep} →
      Spells (An Whole e) (suc d) ts (((sign.Close, q), suc d) ∷ rest) →
      Spells (An Primary e) d (((sign.Open, p), suc d) ∷ ts) rest
  array : {p q : Lexeme} {xs : Exprs} {d : ℕ} {ts rest : List Deep} →
      Spells (Items false xs) (suc d) ts (((sign.CloseSquare, q), suc d) ∷ rest) →
      Spells (An Primary (ExprAt p.at [] (Array xs))) d (((sign.OpenSquare, p), suc d) ∷ ts) rest
  object : {p q : Lexeme} {ps : Properties} {at : List ℕ} {d : ℕ} {ts rest : List Deep} →
      Spells (Keys ps at) (suc d) ts (((sign.CloseBrace, q), suc d) ∷ rest) →
      Spells (An Primary (ExprAt p.at at (Object ps))) d (((sign.OpenBrace, p), suc d) ∷ ts) rest
  unnamed : {w : Lexeme} {f : Fun} {d : ℕ} {ts rest : List Deep} →
      Spells (Code w None f) d ts rest →
      Spells (An Primary (ExprAt w.at [] (Function f))) d (((sign.Function, w), d) ∷ ts) rest
  named : {w x : Lexeme} {f : Fun} {d : ℕ} {ts rest : List Deep} →
      Spells (Code w (Some x) f) d ts rest →
      Spells (An Primary (ExprAt w.at [] (Function f))) d (((sign.Function, w), d) ∷ ((sign.Name, x), d) ∷ ts) rest
  -- the operand of `new`: a primary with properties and subscripts (11.2)
  operand : {e : Expr} {d : ℕ} {ts rest : List Deep} → Spells (An Primary e) d ts rest → Spells (An Operand e) d ts rest
  operand_dot : {e : Expr} {p x : Lexeme} {d : ℕ} {ts rest : List Deep} →
      Spells (An Operand e) d ts (((sign.Point, p), d) ∷ ((sign.Name, x), d) ∷ rest) →
      Spells (An Operand (ExprAt (expr_place e) (x.at ∷ []) (Dot e x.text))) d ts rest
  operand_sub : {e i : Expr} {p q : Lexeme} {d : ℕ} {ts us rest : List Deep} →
      Spells (An Operand e) d ts (((sign.OpenSquare, p), suc d) ∷ us) →
      Spells (An Whole i) (suc d) us (((sign.CloseSquare, q), suc d) ∷ rest) →
      Spells (An Operand (ExprAt (expr_place e) [] (Sub e i))) d ts rest
  -- left-hand forms (11.2)
  left_hand : {e : Expr} {d : ℕ} {ts rest : List Deep} → Spells (An Primary e) d ts rest → Spells (An LeftHand e) d ts rest
  dot : {e : Expr} {p x : Lexeme} {d : ℕ} {ts rest : List Deep} →
      Spells (An LeftHand e) d ts (((sign.Point, p), d) ∷ ((sign.Name, x), d) ∷ rest) →
      Spells (An LeftHand (ExprAt (expr_place e) (x.at ∷ []) (Dot e x.text))) d ts rest
  sub : {e i : Expr} {p q : Lexeme} {d : ℕ} {ts us rest : List Deep} →
      Spells (An LeftHand e) d ts (((sign.OpenSquare, p), suc d) ∷ us) →
      Spells (An Whole i) (suc d) us (((sign.CloseSquare, q), suc d) ∷ rest) →
      Spells (An LeftHand (ExprAt (expr_place e) [] (Sub e i))) d ts rest
  call : {f : Expr} {xs : Exprs} {p q : Lexeme} {d : ℕ} {ts us rest : List Deep} →
      Spells (An LeftHand f) d ts (((sign.Open, p), suc d) ∷ us) →
      Spells (Items false xs) (suc d) us (((sign.Close, q), suc d) ∷ rest) →
      Spells (An LeftHand (ExprAt (expr_place f) [] (Call f xs))) d ts rest
  -- `new` takes the longest operand, and the list behind it
  new_with : {f : Expr} {xs : Exprs} {w p q : Lexeme} {d : ℕ} {ts us rest : List Deep} →
      Spells (An Operand f) d ts (((sign.Open, p), suc d) ∷ us) →
      Spells (Items false xs) (suc d) us (((sign.Close, q), suc d) ∷ rest) →
      Spells (An LeftHand (ExprAt w.at [] (New f xs))) d (((sign.New, w), d) ∷ ts) rest
  new_alone : {f : Expr} {w : Lexeme} {d : ℕ} {ts rest : List Deep} →
      Spells (An Operand f) d ts rest → goes_on rest ≡ false →
      Spells (An LeftHand (ExprAt w.at [] (New f NoExprs))) d (((sign.New, w), d) ∷ ts) rest
  -- steps and prefix operators (11.3, 11.4)
  unary : {e : Expr} {d : ℕ} {ts rest : List Deep} → Spells (An LeftHand e) d ts rest → Spells (An Unary e) d ts rest
  post_step : {e : Expr} {s : Sign} {p : Lexeme} {o : StepOp} {d : ℕ} {ts rest : List Deep} →
      step_of s ≡ Some o → Spells (An LeftHand e) d ts (((s, p), d) ∷ rest) →
      Spells (An Unary (ExprAt (expr_place e) [] (Step o e))) d ts rest
  before_operand : {e : Expr} {s : Sign} {w : Lexeme} {o : Prefix} {d : ℕ} {ts rest : List Deep} →
      prefix_of s ≡ Some o → Spells (An Unary e) (suc d) ts rest →
      Spells (An Unary (ExprAt w.at [] (prefixed o e))) d (((s, w), suc d) ∷ ts) rest
  -- operators between two operands, from left to right (11.5 to 11.11)
  operators : {b : Bool} {e : Expr} {d : ℕ} {ts rest : List Deep} → Spells (An Unary e) d ts rest → Spells (An (Operators b 0) e) d ts rest
  looser : {b : Bool} {n : ℕ} {e : Expr} {d : ℕ} {ts rest : List Deep} → Spells (An (Operators b n) e) d ts rest → Spells (An (Operators b (suc n)) e) d ts rest
  between : {b : Bool} {a c : Expr} {s : Sign} {p : Lexeme} {o : Infix} {d : ℕ} {ts us rest : List Deep} →
      infix_of s b ≡ Some o →
      Spells (An (Operators b (suc (level_of o))) a) d ts (((s, p), d) ∷ us) → Spells (An (Operators b (level_of o)) c) d us rest →
      Spells (An (Operators b (suc (level_of o))) (ExprAt (expr_place a) [] (joined o a c))) d ts rest
  -- conditions and assignments, from right to left (11.12, 11.13)
  assignment : {b : Bool} {e : Expr} {d : ℕ} {ts rest : List Deep} → Spells (An (Operators b 10) e) d ts rest → Spells (An (Assignment b) e) d ts rest
  choice : {b : Bool} {a c e : Expr} {p q : Lexeme} {d : ℕ} {ts us vs rest : List Deep} →
      Spells (An (Operators b 10) a) d ts (((sign.Question, p), suc d) ∷ us) →
      Spells (An (Assignment b) c) (suc d) us (((sign.Colon, q), suc d) ∷ vs) →
      Spells (An (Assignment b) e) (suc d) vs rest →
      Spells (An (Assignment b) (ExprAt (expr_place a) [] (Cond a c e))) d ts rest
  assign : {b : Bool} {a e : Expr} {s : Sign} {p : Lexeme} {o : AssignOp} {d : ℕ} {ts us rest : List Deep} →
      assign_of s ≡ Some o →
      Spells (An LeftHand a) d ts (((s, p), suc d) ∷ us) → Spells (An (Assignment b) e) (suc d) us rest →
      Spells (An (Assignment b) (ExprAt (expr_place a) [] (Assign o a e))) d ts rest
  -- commas (11.14)
  whole : {e : Expr} {d : ℕ} {ts rest : List Deep} → Spells (An (Assignment false) e) d ts rest → Spells (An Whole e) d ts rest
  comma : {a e : Expr} {p : Lexeme} {d : ℕ} {ts us rest : List Deep} →
      Spells (An Whole a) d ts (((sign.Comma, p), d) ∷ us) → Spells (An (Assignment false) e) d us rest →
      Spells (An Whole (ExprAt (expr_place a) [] (Comma a e))) d ts rest
  -- lists between commas, none trailing
  no_items : {b : Bool} {d : ℕ} {rest : List Deep} → Spells (Items b NoExprs) d rest rest
  first_item : {b : Bool} {e : Expr} {d : ℕ} {ts rest : List Deep} → Spells (An (Assignment b) e) d ts rest → Spells (Items b (AndExpr NoExprs e)) d ts rest
  next_item : {b : Bool} {x e : Expr} {xs : Exprs} {p : Lexeme} {d : ℕ} {ts us rest : List Deep} →
      Spells (Items b (AndExpr xs x)) d ts (((sign.Comma, p), d) ∷ us) → Spells (An (Assignment b) e) d us rest →
      Spells (Items b (AndExpr (AndExpr xs x) e)) d ts rest
  no_keys : {d : ℕ} {rest : List Deep} → Spells (Keys NoProperties []) d rest rest
  first_key : {e : Expr} {s : Sign} {x q : Lexeme} {d : ℕ} {ts rest : List Deep} →
      is_key s x.text ≡ true → Spells (An (Assignment false) e) d ts rest →
      Spells (Keys (AndProperty NoProperties x.text e) (x.at ∷ [])) d (((s, x), d) ∷ ((sign.Colon, q), d) ∷ ts) rest
  next_key : {ps : Properties} {n : List ℕ} {v e : Expr} {at : List ℕ} {s : Sign} {p x q : Lexeme} {d : ℕ} {ts us rest : List Deep} →
      Spells (Keys (AndProperty ps n v) at) d ts (((sign.Comma, p), d) ∷ ((s, x), d) ∷ ((sign.Colon, q), d) ∷ us) →
      is_key s x.text ≡ true → Spells (An (Assignment false) e) d us rest →
      Spells (Keys (AndProperty (AndProperty ps n v) x.text e) (at ++ x.at ∷ [])) d ts rest
  nothing : {d : ℕ} {rest : List Deep} → Spells (Maybe NoExpr) d rest rest
  something : {e : Expr} {d : ℕ} {ts rest : List Deep} → Spells (An Whole e) d ts rest → Spells (Maybe (SomeExpr e)) d ts rest
  -- functions (13)
  no_names : {d : ℕ} {rest : List Deep} → Spells (Names []) d rest rest
  first_name : {x : Lexeme} {d : ℕ} {rest : List Deep} → Spells (Names (x ∷ [])) d (((sign.Name, x), d) ∷ rest) rest
  next_name : {y p x : Lexeme} {xs : List Lexeme} {d : ℕ} {ts rest : List Deep} →
      Spells (Names (y ∷ xs)) d ts (((sign.Comma, p), d) ∷ ((sign.Name, x), d) ∷ rest) →
      Spells (Names (y ∷ xs ++ x ∷ [])) d ts rest
  code : {w : Lexeme} {own : Option Lexeme} {params : List Lexeme} {body : Stmts} {funs : Funs} {o c l r : Lexeme} {d : ℕ} {ts us rest : List Deep} →
      Spells (Names params) (suc d) ts (((sign.Close, c), suc d) ∷ ((sign.OpenBrace, l), suc d) ∷ us) →
      Spells (Body body funs) (suc d) us (((sign.CloseBrace, r), suc d) ∷ rest) →
      Spells (Code w own (fun_of w own params body funs)) d (((sign.Open, o), suc d) ∷ ts) rest
  empty_body : {d : ℕ} {rest : List Deep} → Spells (Body NoStmts NoFuns) d rest rest
  body_statement : {ss : Stmts} {fs : Funs} {s : Stmt} {d : ℕ} {ts us rest : List Deep} →
      Spells (Body ss fs) d ts us → Spells (A s) d us rest →
      Spells (Body (AndStmt ss s) fs) d ts rest
  body_function : {ss : Stmts} {fs : Funs} {f : Fun} {w x : Lexeme} {d : ℕ} {ts us rest : List Deep} →
      Spells (Body ss fs) d ts (((sign.Function, w), d) ∷ ((sign.Name, x), d) ∷ us) → Spells (Code w (Some x) f) d us rest →
      Spells (Body ss (AndFun fs f)) d ts rest
  -- statements one after the other, and blocks (12.1)
  no_statement : {d : ℕ} {rest : List Deep} → Spells (Statements NoStmts) d rest rest
  next_statement : {ss : Stmts} {s : Stmt} {d : ℕ} {ts us rest : List Deep} →
      Spells (Statements ss) d ts us → Spells (A s) d us rest →
      Spells (Statements (AndStmt ss s)) d ts rest
  block : {ss : Stmts} {l r : Lexeme} {d : ℕ} {ts rest : List Deep} →
      Spells (Statements ss) (suc d) ts (((sign.CloseBrace, r), suc d) ∷ rest) →
      Spells (Block ss) d (((sign.OpenBrace, l), suc d) ∷ ts) rest
  -- variables (12.2)
  no_init : {b : Bool} {d : ℕ} {rest : List Deep} → Spells (Init b NoExpr) d rest rest
  init : {b : Bool} {e : Expr} {p : Lexeme} {d : ℕ} {ts rest : List Deep} →
      Spells (An (Assignment b) e) d ts rest → Spells (Init b (SomeExpr e)) d (((sign.Assign, p), d) ∷ ts) rest
  first_var : {b : Bool} {v : OptionalExpr} {x : Lexeme} {d : ℕ} {ts rest : List Deep} →
      Spells (Init b v) d ts rest → Spells (Vars b (AndDecl NoDecls x.text x.at v)) d (((sign.Name, x), d) ∷ ts) rest
  next_var : {b : Bool} {ds : Decls} {n : List ℕ} {at : ℕ} {u v : OptionalExpr} {p x : Lexeme} {d : ℕ} {ts us rest : List Deep} →
      Spells (Vars b (AndDecl ds n at u)) d ts (((sign.Comma, p), d) ∷ ((sign.Name, x), d) ∷ us) → Spells (Init b v) d us rest →
      Spells (Vars b (AndDecl (AndDecl ds n at u) x.text x.at v)) d ts rest
  variables : {ds : Decls} {w m : Lexeme} {d : ℕ} {ts rest : List Deep} →
      Spells (Vars false ds) d ts (((sign.Semicolon, m), d) ∷ rest) →
      Spells (A (StmtAt w.at [] (Var ds))) d (((sign.Var, w), d) ∷ ts) rest
  -- an expression (12.4)
  only : {e : Expr} {s : Sign} {x m : Lexeme} {d n : ℕ} {ts rest : List Deep} →
      opens_other s ≡ false → Spells (An Whole e) d (((s, x), n) ∷ ts) (((sign.Semicolon, m), d) ∷ rest) →
      Spells (A (StmtAt x.at [] (Only e))) d (((s, x), n) ∷ ts) rest
  -- `if` (12.5); an `if` behind an `else` is one link deeper
  if_alone : {e : Expr} {ss : Stmts} {w p q : Lexeme} {d : ℕ} {ts us rest : List Deep} →
      Spells (An Whole e) (suc d) ts (((sign.Close, q), suc d) ∷ us) → Spells (Block ss) d us rest →
      Spells (A (StmtAt w.at [] (If e ss NoStmts))) d (((sign.If, w), d) ∷ ((sign.Open, p), suc d) ∷ ts) rest
  if_else : {e : Expr} {ss os : Stmts} {w p q l : Lexeme} {d : ℕ} {ts us vs rest : List Deep} →
      Spells (An Whole e) (suc d) ts (((sign.Close, q), suc d) ∷ us) → Spells (Block ss) d us (((sign.Else, l), d) ∷ vs) → Spells (Block os) d vs rest →
      Spells (A (StmtAt w.at [] (If e ss os))) d (((sign.If, w), d) ∷ ((sign.Open, p), suc d) ∷ ts) rest
  else_if : {e : Expr} {ss : Stmts} {s : Stmt} {w p q l v : Lexeme} {d : ℕ} {ts us vs rest : List Deep} →
      Spells (An Whole e) (suc d) ts (((sign.Close, q), suc d) ∷ us) → Spells (Block ss) d us (((sign.Else, l), d) ∷ ((sign.If, v), suc d) ∷ vs) → Spells (A s) (suc d) (((sign.If, v), suc d) ∷ vs) rest →
      Spells (A (StmtAt w.at [] (If e ss (AndStmt NoStmts s)))) d (((sign.If, w), d) ∷ ((sign.Open, p), suc d) ∷ ts) rest
  -- loops (12.6)
  while_loop : {e : Expr} {ss : Stmts} {w p q : Lexeme} {d : ℕ} {ts us rest : List Deep} →
      Spells (An Whole e) (suc d) ts (((sign.Close, q), suc d) ∷ us) → Spells (Block ss) d us rest →
      Spells (A (StmtAt w.at [] (While e ss))) d (((sign.While, w), d) ∷ ((sign.Open, p), suc d) ∷ ts) rest
  do_loop : {e : Expr} {ss : Stmts} {w l p q m : Lexeme} {d : ℕ} {ts us rest : List Deep} →
      Spells (Block ss) d ts (((sign.While, l), d) ∷ ((sign.Open, p), suc d) ∷ us) →
      Spells (An Whole e) (suc d) us (((sign.Close, q), suc d) ∷ ((sign.Semicolon, m), d) ∷ rest) →
      Spells (A (StmtAt w.at [] (DoWhile e ss))) d (((sign.Do, w), d) ∷ ts) rest
  for_vars : {ds : Decls} {test : OptionalExpr} {xs : Exprs} {ss : Stmts} {w p v m l q : Lexeme} {d : ℕ} {ts us vs ws rest : List Deep} →
      Spells (Vars true ds) (suc d) ts (((sign.Semicolon, m), suc d) ∷ us) →
      Spells (Maybe test) (suc d) us (((sign.Semicolon, l), suc d) ∷ vs) →
      Spells (Items false xs) (suc d) vs (((sign.Close, q), suc d) ∷ ws) → Spells (Block ss) d ws rest →
      Spells (A (StmtAt w.at [] (For (DeclsFirst ds) test xs ss))) d (((sign.For, w), d) ∷ ((sign.Open, p), suc d) ∷ ((sign.Var, v), suc d) ∷ ts) rest
  for_items : {is : Exprs} {test : OptionalExpr} {xs : Exprs} {ss : Stmts} {w p m l q : Lexeme} {d : ℕ} {ts us vs ws rest : List Deep} →
      Spells (Items true is) (suc d) ts (((sign.Semicolon, m), suc d) ∷ us) →
      Spells (Maybe test) (suc d) us (((sign.Semicolon, l), suc d) ∷ vs) →
      Spells (Items false xs) (suc d) vs (((sign.Close, q), suc d) ∷ ws) → Spells (Block ss) d ws rest →
      Spells (A (StmtAt w.at [] (For (ExprsFirst is) test xs ss))) d (((sign.For, w), d) ∷ ((sign.Open, p), suc d) ∷ ts) rest
  for_in : {e : Expr} {ss : Stmts} {w p x l q : Lexeme} {d : ℕ} {ts us rest : List Deep} →
      Spells (An Whole e) (suc d) ts (((sign.Close, q), suc d) ∷ us) → Spells (Block ss) d us rest →
      Spells (A (StmtAt w.at (x.at ∷ []) (ForIn false x.text e ss))) d (((sign.For, w), d) ∷ ((sign.Open, p), suc d) ∷ ((sign.Name, x), suc d) ∷ ((sign.In, l), suc d) ∷ ts) rest
  for_var_in : {e : Expr} {ss : Stmts} {w p v x l q : Lexeme} {d : ℕ} {ts us rest : List Deep} →
      Spells (An Whole e) (suc d) ts (((sign.Close, q), suc d) ∷ us) → Spells (Block ss) d us rest →
      Spells (A (StmtAt w.at (x.at ∷ []) (ForIn true x.text e ss))) d (((sign.For, w), d) ∷ ((sign.Open, p), suc d) ∷ ((sign.Var, v), suc d) ∷ ((sign.Name, x), suc d) ∷ ((sign.In, l), suc d) ∷ ts) rest
  -- jumps (12.7 to 12.9, 12.13)
  continue_loop : {w m : Lexeme} {d : ℕ} {rest : List Deep} →
      Spells (A (StmtAt w.at [] (Continue None))) d (((sign.Continue, w), d) ∷ ((sign.Semicolon, m), d) ∷ rest) rest
  continue_label : {w x m : Lexeme} {d : ℕ} {rest : List Deep} →
      Spells (A (StmtAt w.at (x.at ∷ []) (Continue (Some x.text)))) d (((sign.Continue, w), d) ∷ ((sign.Name, x), d) ∷ ((sign.Semicolon, m), d) ∷ rest) rest
  break_loop : {w m : Lexeme} {d : ℕ} {rest : List Deep} →
      Spells (A (StmtAt w.at [] (Break None))) d (((sign.Break, w), d) ∷ ((sign.Semicolon, m), d) ∷ rest) rest
  break_label : {w x m : Lexeme} {d : ℕ} {rest : List Deep} →
      Spells (A (StmtAt w.at (x.at ∷ []) (Break (Some x.text)))) d (((sign.Break, w), d) ∷ ((sign.Name, x), d) ∷ ((sign.Semicolon, m), d) ∷ rest) rest
  returns : {v : OptionalExpr} {w m : Lexeme} {d : ℕ} {ts rest : List Deep} →
      Spells (Maybe v) d ts (((sign.Semicolon, m), d) ∷ rest) →
      Spells (A (StmtAt w.at [] (Return v))) d (((sign.Return, w), d) ∷ ts) rest
  throws : {e : Expr} {w m : Lexeme} {d : ℕ} {ts rest : List Deep} →
      Spells (An Whole e) d ts (((sign.Semicolon, m), d) ∷ rest) →
      Spells (A (StmtAt w.at [] (Throw e))) d (((sign.Throw, w), d) ∷ ts) rest
  -- `with` (12.10)
  with_object : {e : Expr} {ss : Stmts} {w p q : Lexeme} {d : ℕ} {ts us rest : List Deep} →
      Spells (An Whole e) (suc d) ts (((sign.Close, q), suc d) ∷ us) → Spells (Block ss) d us rest →
      Spells (A (StmtAt w.at [] (With e ss))) d (((sign.With, w), d) ∷ ((sign.Open, p), suc d) ∷ ts) rest
  -- `switch` (12.11)
  switch : {e : Expr} {cs : Clauses} {w p q l r : Lexeme} {d : ℕ} {ts us rest : List Deep} →
      Spells (An Whole e) (suc d) ts (((sign.Close, q), suc d) ∷ ((sign.OpenBrace, l), suc d) ∷ us) →
      Spells (Cases cs) (suc d) us (((sign.CloseBrace, r), suc d) ∷ rest) →
      Spells (A (StmtAt w.at [] (Switch e cs))) d (((sign.Switch, w), d) ∷ ((sign.Open, p), suc d) ∷ ts) rest
  no_case : {d : ℕ} {rest : List Deep} → Spells (Cases NoClauses) d rest rest
  next_case : {cs : Clauses} {e : Expr} {ss : Stmts} {w q : Lexeme} {d : ℕ} {ts us vs rest : List Deep} →
      Spells (Cases cs) d ts (((sign.Case, w), d) ∷ us) → Spells (An Whole e) d us (((sign.Colon, q), d) ∷ vs) → Spells (Statements ss) d vs rest →
      Spells (Cases (AndClause cs (SomeExpr e) ss)) d ts rest
  default_case : {cs : Clauses} {ss : Stmts} {w q : Lexeme} {d : ℕ} {ts us rest : List Deep} →
      has_default cs ≡ false → Spells (Cases cs) d ts (((sign.Default, w), d) ∷ ((sign.Colon, q), d) ∷ us) → Spells (Statements ss) d us rest →
      Spells (Cases (AndClause cs NoExpr ss)) d ts rest
  -- labels (12.12)
  label : {s : Stmt} {x q : Lexeme} {d : ℕ} {ts rest : List Deep} →
      Spells (A s) d ts rest →
      Spells (A (StmtAt x.at (x.at ∷ []) (Label x.text s))) d (((sign.Name, x), d) ∷ ((sign.Colon, q), d) ∷ ts) rest
  -- `try` (12.14)
  try_catch : {ss cs : Stmts} {w c p x q : Lexeme} {d : ℕ} {ts us rest : List Deep} →
      Spells (Block ss) d ts (((sign.Catch, c), d) ∷ ((sign.Open, p), suc d) ∷ ((sign.Name, x), suc d) ∷ ((sign.Close, q), suc d) ∷ us) → Spells (Block cs) d us rest →
      Spells (A (StmtAt w.at (x.at ∷ []) (Try ss (CatchAs x.text cs) NoBlock))) d (((sign.Try, w), d) ∷ ts) rest
  try_finally : {ss fs : Stmts} {w f : Lexeme} {d : ℕ} {ts us rest : List Deep} →
      Spells (Block ss) d ts (((sign.Finally, f), d) ∷ us) → Spells (Block fs) d us rest →
      Spells (A (StmtAt w.at [] (Try ss NoCatch (SomeBlock fs)))) d (((sign.Try, w), d) ∷ ts) rest
  try_both : {ss cs fs : Stmts} {w c p x q f : Lexeme} {d : ℕ} {ts us vs rest : List Deep} →
      Spells (Block ss) d ts (((sign.Catch, c), d) ∷ ((sign.Open, p), suc d) ∷ ((sign.Name, x), suc d) ∷ ((sign.Close, q), suc d) ∷ us) →
      Spells (Block cs) d us (((sign.Finally, f), d) ∷ vs) → Spells (Block fs) d vs rest →
      Spells (A (StmtAt w.at (x.at ∷ []) (Try ss (CatchAs x.text cs) (SomeBlock fs)))) d (((sign.Try, w), d) ∷ ts) rest

-- a program (14): statements, and the end of the text
abbrev pub IsProgram : List Deep → Stmts → Type 0
IsProgram ts ss = (end : Lexeme) × Spells (Statements ss) 0 ts (((sign.End, end), 0) ∷ [])

-- some program, of any depth, begins with these tokens
abbrev pub Begins : List Token → Type 0
Begins ts = (front more : List Deep) × (p : Stmts) × (signs front ≡ ts) × IsProgram (front ++ more) p
