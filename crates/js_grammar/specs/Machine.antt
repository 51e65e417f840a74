-- What has still to come: a machine that takes one token at a time. It is there for proofs alone.
use Rattle.std.specs.Prelude.{ℕ, suc, List, [], ◌∷◌, ◌++◌, Bool, true, false, Option, Some, None, nat_lt, cond as choose}
use Rattle.js_grammar.specs.declared.Sign.{Sign}
use Rattle.js_grammar.specs.declared.Sign.TheVariants as sign
use Rattle.js_grammar.specs.declared.Infix.{Infix}
use Rattle.js_grammar.specs.declared.Prefix.{Prefix}
use Rattle.js_grammar.specs.Tables.{infix_of, level_of, joined, prefix_of, prefixed, step_of, assign_of, is_key}
use Rattle.js_grammar.specs.Grammar.{Lexeme, Token, fun_of, has_default}
use Rattle.exact_refusals.specs.Judge.{Outcome, judge}
use Rattle.js_tree.specs.declared.nodes.Word.TheVariants as word
use Rattle.js_tree.specs.declared.nodes.StepOp.{StepOp}
use Rattle.js_tree.specs.declared.nodes.AssignOp.{AssignOp}
use Rattle.js_tree.specs.Plain.{Expr, Exprs, ExprAt, Num, Str, Name, Constant, Array, Object, Function, Dot, Sub, Call, New, Step as StepOf, Cond, Assign, Comma, NoExprs, AndExpr, OptionalExpr, NoExpr, SomeExpr, Properties, NoProperties, AndProperty, Decls, NoDecls, AndDecl, ForInit, DeclsFirst, ExprsFirst, Stmt, StmtAt, Var, Only, If, While, DoWhile, For, ForIn, Continue, Break, Return, Throw, With, Switch, Try, Label, Stmts, NoStmts, AndStmt, NoBlock, SomeBlock, Catch, NoCatch, CatchAs, Clauses, NoClauses, AndClause, Fun, Funs, NoFuns, AndFun, expr_place}

-- A frame says what is still to come. Its first number is the depth of the row to which it belongs; what stands behind that row's bracket is one deeper. A lexeme `w` is the row's first word.
pub data Frame : Type 0 where
  -- these wait for a token
  PrimaryAt : ℕ → Frame
  UnaryAt : ℕ → Frame
  DotName : ℕ → Expr → Frame
  ItemsAt : Bool → ℕ → Frame
  FirstKey : ℕ → Frame
  NextKey : ℕ → Properties → List ℕ → Frame
  KeyColon : ℕ → Properties → List ℕ → List ℕ → Frame
  FunName : ℕ → Lexeme → Frame
  FunOpen : ℕ → Lexeme → Option Lexeme → Frame
  FirstName : ℕ → Frame
  MoreNames : ℕ → List Lexeme → Frame
  NextName : ℕ → List Lexeme → Frame
  FunBody : ℕ → Lexeme → Option Lexeme → List Lexeme → Frame
  DeclName : ℕ → Lexeme → Stmts → Funs → Frame
  Statement : ℕ → Frame
  MaybeLabel : ℕ → Lexeme → Frame
  BlockAt : ℕ → Frame
  Test : ℕ → Frame
  Ended : ℕ → Stmt → Frame
  VarName : Bool → ℕ → Decls → Frame
  VarTail : Bool → ℕ → Decls → Lexeme → Frame
  AfterIf : ℕ → Lexeme → Expr → Stmts → Frame
  AfterElse : ℕ → Lexeme → Expr → Stmts → Frame
  AfterDo : ℕ → Lexeme → Stmts → Frame
  ForOpen : ℕ → Lexeme → Frame
  ForFirst : ℕ → Lexeme → Frame
  ForVar : ℕ → Lexeme → Frame
  ForVarName : ℕ → Lexeme → Lexeme → Frame
  ForName : ℕ → Lexeme → Lexeme → Frame
  ForTest : ℕ → Lexeme → ForInit → Frame
  AfterContinue : ℕ → Lexeme → Frame
  AfterBreak : ℕ → Lexeme → Frame
  AfterReturn : ℕ → Lexeme → Frame
  SwitchOpen : ℕ → Lexeme → Expr → Frame
  FirstCase : ℕ → Frame
  DefaultColon : ℕ → Clauses → Frame
  AfterTry : ℕ → Lexeme → Stmts → Frame
  CatchOpen : ℕ → Lexeme → Stmts → Frame
  CatchName : ℕ → Lexeme → Stmts → Frame
  CatchClose : ℕ → Lexeme → Stmts → Lexeme → Frame
  AfterCatch : ℕ → Lexeme → Stmts → Lexeme → Stmts → Frame
  -- these wait for an expression
  Paren : ℕ → Frame
  Tail : ℕ → Frame
  NewTail : ℕ → Lexeme → Frame
  Index : ℕ → Expr → Frame
  Target : ℕ → Frame
  Prefixed : Lexeme → Prefix → Frame
  Rest : Bool → ℕ → ℕ → Frame
  Right : Infix → Expr → Frame
  Choice : Bool → ℕ → Frame
  Second : Bool → ℕ → Expr → Frame
  Third : Expr → Expr → Frame
  Assigned : AssignOp → Expr → Frame
  Commas : ℕ → Frame
  CommaRight : Expr → Frame
  MoreItems : Bool → ℕ → Exprs → Frame
  Value : ℕ → Properties → List ℕ → List ℕ → Frame
  Semi : ℕ → Lexeme → Frame
  ReturnSemi : ℕ → Lexeme → Frame
  ThrowSemi : ℕ → Lexeme → Frame
  VarInit : Bool → ℕ → Decls → Lexeme → Frame
  IfTest : ℕ → Lexeme → Frame
  WhileTest : ℕ → Lexeme → Frame
  DoTest : ℕ → Lexeme → Stmts → Frame
  WithTest : ℕ → Lexeme → Frame
  SwitchTest : ℕ → Lexeme → Frame
  ForOver : ℕ → Lexeme → Bool → Lexeme → Frame
  ForTestEnd : ℕ → Lexeme → ForInit → Frame
  CaseTest : ℕ → Clauses → Frame
  -- these wait for a list of expressions
  ArrayEnd : ℕ → Lexeme → Frame
  CallEnd : ℕ → Expr → Frame
  NewEnd : ℕ → Lexeme → Expr → Frame
  ForItemsEnd : ℕ → Lexeme → Frame
  ForEnd : ℕ → Lexeme → ForInit → OptionalExpr → Frame
  -- these wait for keys, for names, for declared variables, for clauses
  ObjectEnd : ℕ → Lexeme → Frame
  NamesEnd : ℕ → Lexeme → Option Lexeme → Frame
  VarEnd : ℕ → Lexeme → Frame
  ForVarEnd : ℕ → Lexeme → Frame
  SwitchEnd : ℕ → Lexeme → Expr → Frame
  -- these wait for a statement, or for what ends the list
  InBlock : ℕ → Stmts → Frame
  InBody : ℕ → Stmts → Funs → Frame
  Labelled : Lexeme → Frame
  ElseIf : Lexeme → Expr → Stmts → Frame
  -- these wait for the statements of a block
  IfBlock : ℕ → Lexeme → Expr → Frame
  ElseBlock : Lexeme → Expr → Stmts → Frame
  WhileBlock : Lexeme → Expr → Frame
  DoBlock : ℕ → Lexeme → Frame
  WithBlock : Lexeme → Expr → Frame
  ForBlock : Lexeme → ForInit → OptionalExpr → Exprs → Frame
  ForInBlock : Lexeme → Bool → Lexeme → Expr → Frame
  TryBlock : ℕ → Lexeme → Frame
  CatchBlock : ℕ → Lexeme → Stmts → Lexeme → Frame
  FinallyBlock : Lexeme → List ℕ → Stmts → Catch → Frame
  -- this waits for the statements of a clause
  InCase : ℕ → Clauses → OptionalExpr → Frame
  -- this waits for the body of a function
  FunEnd : Lexeme → Option Lexeme → List Lexeme → Frame
  -- these wait for a function
  FunExpr : Lexeme → Frame
  Declare : ℕ → Stmts → Funs → Frame

pub data State : Type 0 where
  Wants : List Frame → State
  Gives : Expr → List Frame → State
  Did : Stmt → List Frame → State
  Done : Stmts → State

-- the depth of the token that is taken, and what comes then
abbrev pub Step : Type 0
Step = Option (ℕ × State)

-- an assignment expression, d links deep
abbrev pub expr : Bool → ℕ → List Frame → List Frame
expr b d k = UnaryAt d ∷ Rest b 10 d ∷ Choice b d ∷ k

-- a whole expression, d links deep
abbrev pub whole : ℕ → List Frame → List Frame
whole d k = expr false d (Commas d ∷ k)

-- the tails of an assignment expression, behind its first primary
abbrev pub tails : Bool → ℕ → List Frame → List Frame
tails b d k = Tail d ∷ Target d ∷ Rest b 10 d ∷ Choice b d ∷ k

-- ## Expressions

-- the first token of a primary expression
abbrev pub primary : ℕ → List Frame → Token → Step
primary d k (sign.Name, x) = Some (d, Gives (ExprAt x.at [] (Name x.text)) k)
primary d k (sign.Number, x) = Some (d, Gives (ExprAt x.at [] (Num x.text)) k)
primary d k (sign.Str, x) = Some (d, Gives (ExprAt x.at [] (Str x.text)) k)
primary d k (sign.This, x) = Some (d, Gives (ExprAt x.at [] (Constant word.This)) k)
primary d k (sign.Null, x) = Some (d, Gives (ExprAt x.at [] (Constant word.Null)) k)
primary d k (sign.True, x) = Some (d, Gives (ExprAt x.at [] (Constant word.True)) k)
primary d k (sign.False, x) = Some (d, Gives (ExprAt x.at [] (Constant word.False)) k)
primary d k (sign.Open, x) = Some (suc d, Wants (whole (suc d) (Paren d ∷ k)))
primary d k (sign.OpenSquare, x) = Some (suc d, Wants (ItemsAt false (suc d) ∷ ArrayEnd d x ∷ k))
primary d k (sign.OpenBrace, x) = Some (suc d, Wants (FirstKey (suc d) ∷ ObjectEnd d x ∷ k))
primary d k (sign.Function, x) = Some (d, Wants (FunName d x ∷ k))
primary d k _ = None

-- the first token of a left-hand form
abbrev pub left_hand : ℕ → List Frame → Token → Step
left_hand d k (sign.New, x) = Some (d, Wants (PrimaryAt d ∷ NewTail d x ∷ Tail d ∷ k))
left_hand d k t = primary d (Tail d ∷ k) t

abbrev pub prefix_or : Option Prefix → ℕ → Lexeme → List Frame → Step → Step
prefix_or None d w k other = other
prefix_or (Some o) d w k other = Some (suc d, Wants (UnaryAt (suc d) ∷ Prefixed w o ∷ k))

-- the first token of an expression
abbrev pub unary : ℕ → List Frame → Token → Step
unary d k (s, x) = prefix_or (prefix_of s) d x k (left_hand d (Target d ∷ k) (s, x))

-- a token after a left-hand form; `other` is what it does where the form is all there
abbrev pub tail : ℕ → Expr → List Frame → Step → Token → Step
tail d e k other (sign.Point, x) = Some (d, Wants (DotName d e ∷ Tail d ∷ k))
tail d e k other (sign.OpenSquare, x) = Some (suc d, Wants (whole (suc d) (Index d e ∷ Tail d ∷ k)))
tail d e k other (sign.Open, x) = Some (suc d, Wants (ItemsAt false (suc d) ∷ CallEnd d e ∷ Tail d ∷ k))
tail d e k other _ = other

-- a token after the operand of a `new`
abbrev pub new_tail : ℕ → Lexeme → Expr → List Frame → Step → Token → Step
new_tail d w e k other (sign.Point, x) = Some (d, Wants (DotName d e ∷ NewTail d w ∷ k))
new_tail d w e k other (sign.OpenSquare, x) = Some (suc d, Wants (whole (suc d) (Index d e ∷ NewTail d w ∷ k)))
new_tail d w e k other (sign.Open, x) = Some (suc d, Wants (ItemsAt false (suc d) ∷ NewEnd d w e ∷ k))
new_tail d w e k other _ = other

-- an assignment to what begins an assignment expression
abbrev pub assigned_to : AssignOp → ℕ → Expr → List Frame → Step
assigned_to o d e (Rest b n m ∷ Choice c l ∷ k) = Some (suc d, Wants (expr b (suc d) (Assigned o e ∷ k)))
assigned_to o d e _ = None

abbrev pub assign_or : Option AssignOp → ℕ → Expr → List Frame → Step → Step
assign_or None d e k other = other
assign_or (Some o) d e k other = assigned_to o d e k

abbrev pub step_or : Option StepOp → ℕ → Expr → List Frame → Step → Step
step_or None d e k other = other
step_or (Some o) d e k other = Some (d, Gives (ExprAt (expr_place e) [] (StepOf o e)) k)

abbrev pub infix_or : Option Infix → Bool → ℕ → ℕ → Expr → List Frame → Step → Step
infix_or None b n d e k other = other
infix_or (Some o) b n d e k other = choose (nat_lt (level_of o) n) (Some (d, Wants (UnaryAt d ∷ Rest b (level_of o) d ∷ Right o e ∷ Rest b n d ∷ k))) other

abbrev pub choice : Bool → ℕ → Expr → List Frame → Step → Sign → Step
choice b d e k other sign.Question = Some (suc d, Wants (expr b (suc d) (Second b d e ∷ k)))
choice b d e k other _ = other

-- a comma after what may have another behind it: `next` is to come then
abbrev pub comma_or : ℕ → List Frame → Step → Sign → Step
comma_or d next other sign.Comma = Some (d, Wants next)
comma_or d next other _ = other

-- ## Lists

-- a token after a list of expressions
abbrev pub listed : Exprs → List Frame → Token → Step
listed xs (ArrayEnd d w ∷ k) (sign.CloseSquare, x) = Some (suc d, Gives (ExprAt w.at [] (Array xs)) k)
listed xs (CallEnd d f ∷ k) (sign.Close, x) = Some (suc d, Gives (ExprAt (expr_place f) [] (Call f xs)) k)
listed xs (NewEnd d w f ∷ k) (sign.Close, x) = Some (suc d, Gives (ExprAt w.at [] (New f xs)) k)
listed xs (ForItemsEnd d w ∷ k) (sign.Semicolon, x) = Some (suc d, Wants (ForTest d w (ExprsFirst xs) ∷ k))
listed xs (ForEnd d w i test ∷ k) (sign.Close, x) = Some (suc d, Wants (BlockAt d ∷ ForBlock w i test xs ∷ k))
listed xs _ _ = None

-- the first token of a list of expressions, or the one after it
abbrev pub items : Bool → ℕ → List Frame → Token → Step
items b d k (sign.Close, x) = listed NoExprs k (sign.Close, x)
items b d k (sign.CloseSquare, x) = listed NoExprs k (sign.CloseSquare, x)
items b d k (sign.Semicolon, x) = listed NoExprs k (sign.Semicolon, x)
items b d k t = unary d (Rest b 10 d ∷ Choice b d ∷ MoreItems b d NoExprs ∷ k) t

-- the keys and values of an object literal are there, and its brace is taken
abbrev pub keyed : ℕ → Properties → List ℕ → List Frame → Step
keyed d ps at (ObjectEnd o w ∷ k) = Some (d, Gives (ExprAt w.at at (Object ps)) k)
keyed d ps at _ = None

abbrev pub key : ℕ → Properties → List ℕ → List Frame → Token → Step
key d ps at k (s, x) = choose (is_key s x.text) (Some (d, Wants (KeyColon d ps x.text (at ++ x.at ∷ []) ∷ k))) None

abbrev pub first_key : ℕ → List Frame → Token → Step
first_key d k (sign.CloseBrace, x) = keyed d NoProperties [] k
first_key d k t = key d NoProperties [] k t

-- the first token of a function behind its word and its own name
abbrev pub fun_open : ℕ → Lexeme → Option Lexeme → List Frame → Token → Step
fun_open d w own k (sign.Open, x) = Some (suc d, Wants (FirstName (suc d) ∷ NamesEnd d w own ∷ k))
fun_open d w own k _ = None

-- the parameters of a function are there, and their bracket is taken
abbrev pub named : ℕ → List Lexeme → List Frame → Step
named d xs (NamesEnd o w own ∷ k) = Some (d, Wants (FunBody o w own xs ∷ k))
named d xs _ = None

-- a token after declared variables
abbrev pub declared : Decls → List Frame → Token → Step
declared ds (VarEnd d w ∷ k) (sign.Semicolon, x) = Some (d, Did (StmtAt w.at [] (Var ds)) k)
declared ds (ForVarEnd d w ∷ k) (sign.Semicolon, x) = Some (suc d, Wants (ForTest d w (DeclsFirst ds) ∷ k))
declared ds _ _ = None

-- a token after the name of a declared variable
abbrev pub var_tail : Bool → ℕ → Decls → Lexeme → List Frame → Token → Step
var_tail b d ds x k (sign.Assign, p) = Some (d, Wants (expr b d (VarInit b d ds x ∷ k)))
var_tail b d ds x k (s, p) = comma_or d (VarName b d (AndDecl ds x.text x.at NoExpr) ∷ k) (declared (AndDecl ds x.text x.at NoExpr) k (s, p)) s

-- ## Statements

-- the first token of an expression statement
abbrev pub only : ℕ → List Frame → Token → Step
only d k (sign.Name, x) = Some (d, Wants (MaybeLabel d x ∷ k))
only d k (sign.OpenBrace, x) = None
only d k (sign.Function, x) = None
only d k (s, x) = unary d (Rest false 10 d ∷ Choice false d ∷ Commas d ∷ Semi d x ∷ k) (s, x)

-- the first token of a statement
abbrev pub statement : ℕ → List Frame → Token → Step
statement d k (sign.Var, w) = Some (d, Wants (VarName false d NoDecls ∷ VarEnd d w ∷ k))
statement d k (sign.If, w) = Some (d, Wants (Test d ∷ IfTest d w ∷ k))
statement d k (sign.While, w) = Some (d, Wants (Test d ∷ WhileTest d w ∷ k))
statement d k (sign.Do, w) = Some (d, Wants (BlockAt d ∷ DoBlock d w ∷ k))
statement d k (sign.For, w) = Some (d, Wants (ForOpen d w ∷ k))
statement d k (sign.Continue, w) = Some (d, Wants (AfterContinue d w ∷ k))
statement d k (sign.Break, w) = Some (d, Wants (AfterBreak d w ∷ k))
statement d k (sign.Return, w) = Some (d, Wants (AfterReturn d w ∷ k))
statement d k (sign.Throw, w) = Some (d, Wants (whole d (ThrowSemi d w ∷ k)))
statement d k (sign.With, w) = Some (d, Wants (Test d ∷ WithTest d w ∷ k))
statement d k (sign.Switch, w) = Some (d, Wants (Test d ∷ SwitchTest d w ∷ k))
statement d k (sign.Try, w) = Some (d, Wants (BlockAt d ∷ TryBlock d w ∷ k))
statement d k t = only d k t

-- a block is there, and its brace is taken
abbrev pub ends : ℕ → Stmts → List Frame → Step
ends d ss (IfBlock o w e ∷ k) = Some (d, Wants (AfterIf o w e ss ∷ k))
ends d ss (ElseBlock w e before ∷ k) = Some (d, Did (StmtAt w.at [] (If e before ss)) k)
ends d ss (WhileBlock w e ∷ k) = Some (d, Did (StmtAt w.at [] (While e ss)) k)
ends d ss (DoBlock o w ∷ k) = Some (d, Wants (AfterDo o w ss ∷ k))
ends d ss (WithBlock w e ∷ k) = Some (d, Did (StmtAt w.at [] (With e ss)) k)
ends d ss (ForBlock w i test xs ∷ k) = Some (d, Did (StmtAt w.at [] (For i test xs ss)) k)
ends d ss (ForInBlock w v x e ∷ k) = Some (d, Did (StmtAt w.at (x.at ∷ []) (ForIn v x.text e ss)) k)
ends d ss (TryBlock o w ∷ k) = Some (d, Wants (AfterTry o w ss ∷ k))
ends d ss (CatchBlock o w before x ∷ k) = Some (d, Wants (AfterCatch o w before x ss ∷ k))
ends d ss (FinallyBlock w at before c ∷ k) = Some (d, Did (StmtAt w.at at (Try before c (SomeBlock ss))) k)
ends d ss _ = None

-- the clauses of a `switch` are there, and its brace is taken
abbrev pub cased : ℕ → Clauses → List Frame → Step
cased d cs (SwitchEnd o w e ∷ k) = Some (d, Did (StmtAt w.at [] (Switch e cs)) k)
cased d cs _ = None

-- a token after the clauses so far
abbrev pub next_case : ℕ → Clauses → List Frame → Sign → Step
next_case d cs k sign.Case = Some (d, Wants (whole d (CaseTest d cs ∷ k)))
next_case d cs k sign.Default = choose (has_default cs) None (Some (d, Wants (DefaultColon d cs ∷ k)))
next_case d cs k sign.CloseBrace = cased d cs k
next_case d cs k _ = None

-- the statements of a clause are there, where it is one
abbrev pub case_ends : Stmts → List Frame → Sign → Step → Step
case_ends ss (InCase d cs test ∷ k) s other = next_case d (AndClause cs test ss) k s
case_ends ss _ s other = other

-- the end of the text
abbrev pub finishes : ℕ → Stmts → List Frame → Step
finishes d ss [] = Some (d, Done ss)
finishes d ss _ = None

-- a token after statements
abbrev pub in_block : ℕ → Stmts → List Frame → Token → Step
in_block d ss k (sign.End, x) = finishes d ss k
in_block d ss k (sign.CloseBrace, x) = case_ends ss k sign.CloseBrace (ends d ss k)
in_block d ss k (sign.Case, x) = case_ends ss k sign.Case None
in_block d ss k (sign.Default, x) = case_ends ss k sign.Default None
in_block d ss k t = statement d (InBlock d ss ∷ k) t

-- a function is there, and its brace is taken
abbrev pub has_function : ℕ → Fun → List Frame → Step
has_function d f (FunExpr w ∷ k) = Some (d, Gives (ExprAt w.at [] (Function f)) k)
has_function d f (Declare o ss fs ∷ k) = Some (d, Wants (InBody o ss (AndFun fs f) ∷ k))
has_function d f _ = None

-- a body is there, and its brace is taken
abbrev pub body_ends : ℕ → Stmts → Funs → List Frame → Step
body_ends d ss fs (FunEnd w own params ∷ k) = has_function d (fun_of w own params ss fs) k
body_ends d ss fs _ = None

-- a token after statements and declarations
abbrev pub in_body : ℕ → Stmts → Funs → List Frame → Token → Step
in_body d ss fs k (sign.CloseBrace, x) = body_ends d ss fs k
in_body d ss fs k (sign.Function, x) = Some (d, Wants (DeclName d x ss fs ∷ k))
in_body d ss fs k t = statement d (InBody d ss fs ∷ k) t

-- a token after a statement: a frame that does not wait for more passes it on
abbrev pub after_statement : Stmt → List Frame → Token → Step
after_statement s (InBlock d ss ∷ k) t = in_block d (AndStmt ss s) k t
after_statement s (InBody d ss fs ∷ k) t = in_body d (AndStmt ss s) fs k t
after_statement s (Labelled x ∷ k) t = after_statement (StmtAt x.at (x.at ∷ []) (Label x.text s)) k t
after_statement s (ElseIf w e ss ∷ k) t = after_statement (StmtAt w.at [] (If e ss (AndStmt NoStmts s))) k t
after_statement s _ t = None

-- a token after the block of an `if`
abbrev pub after_if : ℕ → Lexeme → Expr → Stmts → List Frame → Token → Step
after_if d w e ss k (sign.Else, x) = Some (d, Wants (AfterElse d w e ss ∷ k))
after_if d w e ss k t = after_statement (StmtAt w.at [] (If e ss NoStmts)) k t

-- a token after the block of a `catch`
abbrev pub after_catch : ℕ → Lexeme → Stmts → Lexeme → Stmts → List Frame → Token → Step
after_catch d w ss x cs k (sign.Finally, f) = Some (d, Wants (BlockAt d ∷ FinallyBlock w (x.at ∷ []) ss (CatchAs x.text cs) ∷ k))
after_catch d w ss x cs k t = after_statement (StmtAt w.at (x.at ∷ []) (Try ss (CatchAs x.text cs) NoBlock)) k t

-- the first token after the bracket of a `for`
abbrev pub for_first : ℕ → Lexeme → List Frame → Token → Step
for_first d w k (sign.Var, v) = Some (suc d, Wants (ForVar d w ∷ k))
for_first d w k (sign.Name, x) = Some (suc d, Wants (ForName d w x ∷ k))
for_first d w k t = items true (suc d) (ForItemsEnd d w ∷ k) t

abbrev pub for_var_name : ℕ → Lexeme → Lexeme → List Frame → Token → Step
for_var_name d w x k (sign.In, l) = Some (suc d, Wants (whole (suc d) (ForOver d w true x ∷ k)))
for_var_name d w x k t = var_tail true (suc d) NoDecls x (ForVarEnd d w ∷ k) t

abbrev pub for_test : ℕ → Lexeme → ForInit → List Frame → Token → Step
for_test d w i k (sign.Semicolon, x) = Some (suc d, Wants (ItemsAt false (suc d) ∷ ForEnd d w i NoExpr ∷ k))
for_test d w i k t = unary (suc d) (Rest false 10 (suc d) ∷ Choice false (suc d) ∷ Commas (suc d) ∷ ForTestEnd d w i ∷ k) t

abbrev pub after_return : ℕ → Lexeme → List Frame → Token → Step
after_return d w k (sign.Semicolon, x) = Some (d, Did (StmtAt w.at [] (Return NoExpr)) k)
after_return d w k t = unary d (Rest false 10 d ∷ Choice false d ∷ Commas d ∷ ReturnSemi d w ∷ k) t

-- a token after an expression: a frame that does not go on with it passes the expression on
abbrev pub after : Expr → List Frame → Token → Step
after e (Tail d ∷ k) t = tail d e k (after e k t) t
after e (NewTail d w ∷ k) t = new_tail d w e k (after (ExprAt w.at [] (New e NoExprs)) k t) t
after e (Target d ∷ k) t = step_or (step_of t.0) d e k (assign_or (assign_of t.0) d e k (after e k t))
after e (Prefixed w o ∷ k) t = after (ExprAt w.at [] (prefixed o e)) k t
after e (Rest b n d ∷ k) t = infix_or (infix_of t.0 b) b n d e k (after e k t)
after e (Right o a ∷ k) t = after (ExprAt (expr_place a) [] (joined o a e)) k t
after e (Choice b d ∷ k) t = choice b d e k (after e k t) t.0
after e (Third a c ∷ k) t = after (ExprAt (expr_place a) [] (Cond a c e)) k t
after e (Assigned o a ∷ k) t = after (ExprAt (expr_place a) [] (Assign o a e)) k t
after e (Commas d ∷ k) t = comma_or d (expr false d (CommaRight e ∷ Commas d ∷ k)) (after e k t) t.0
after e (CommaRight a ∷ k) t = after (ExprAt (expr_place a) [] (Comma a e)) k t
after e (MoreItems b d xs ∷ k) t = comma_or d (expr b d (MoreItems b d (AndExpr xs e) ∷ k)) (listed (AndExpr xs e) k t) t.0
after e (VarInit b d ds x ∷ k) t = comma_or d (VarName b d (AndDecl ds x.text x.at (SomeExpr e)) ∷ k) (declared (AndDecl ds x.text x.at (SomeExpr e)) k t) t.0
after e (Paren d ∷ k) (sign.Close, x) = Some (suc d, Gives e k)
after e (Index d a ∷ k) (sign.CloseSquare, x) = Some (suc d, Gives (ExprAt (expr_place a) [] (Sub a e)) k)
after e (Second b d a ∷ k) (sign.Colon, x) = Some (suc d, Wants (expr b (suc d) (Third a e ∷ k)))
after e (Value d ps n at ∷ k) (sign.Comma, p) = Some (d, Wants (NextKey d (AndProperty ps n e) at ∷ k))
after e (Value d ps n at ∷ k) (sign.CloseBrace, p) = keyed d (AndProperty ps n e) at k
after e (Semi d w ∷ k) (sign.Semicolon, x) = Some (d, Did (StmtAt w.at [] (Only e)) k)
after e (ReturnSemi d w ∷ k) (sign.Semicolon, x) = Some (d, Did (StmtAt w.at [] (Return (SomeExpr e))) k)
after e (ThrowSemi d w ∷ k) (sign.Semicolon, x) = Some (d, Did (StmtAt w.at [] (Throw e)) k)
after e (IfTest d w ∷ k) (sign.Close, x) = Some (suc d, Wants (BlockAt d ∷ IfBlock d w e ∷ k))
after e (WhileTest d w ∷ k) (sign.Close, x) = Some (suc d, Wants (BlockAt d ∷ WhileBlock w e ∷ k))
after e (DoTest d w ss ∷ k) (sign.Close, x) = Some (suc d, Wants (Ended d (StmtAt w.at [] (DoWhile e ss)) ∷ k))
after e (WithTest d w ∷ k) (sign.Close, x) = Some (suc d, Wants (BlockAt d ∷ WithBlock w e ∷ k))
after e (SwitchTest d w ∷ k) (sign.Close, x) = Some (suc d, Wants (SwitchOpen d w e ∷ k))
after e (ForOver d w v x ∷ k) (sign.Close, p) = Some (suc d, Wants (BlockAt d ∷ ForInBlock w v x e ∷ k))
after e (ForTestEnd d w i ∷ k) (sign.Semicolon, x) = Some (suc d, Wants (ItemsAt false (suc d) ∷ ForEnd d w i (SomeExpr e) ∷ k))
after e (CaseTest d cs ∷ k) (sign.Colon, x) = Some (d, Wants (InBlock d NoStmts ∷ InCase d cs (SomeExpr e) ∷ k))
after e _ t = None

-- a name that may be a label
abbrev pub after_name : ℕ → Lexeme → List Frame → Token → Step
after_name d x k (sign.Colon, p) = Some (d, Wants (Statement d ∷ Labelled x ∷ k))
after_name d x k t = after (ExprAt x.at [] (Name x.text)) (tails false d (Commas d ∷ Semi d x ∷ k)) t

-- a name that may be the variable of a `for-in`
abbrev pub for_name : ℕ → Lexeme → Lexeme → List Frame → Token → Step
for_name d w x k (sign.In, l) = Some (suc d, Wants (whole (suc d) (ForOver d w false x ∷ k)))
for_name d w x k t = after (ExprAt x.at [] (Name x.text)) (tails true (suc d) (MoreItems true (suc d) NoExprs ∷ ForItemsEnd d w ∷ k)) t

-- a token where one is awaited
abbrev pub wants : List Frame → Token → Step
wants (PrimaryAt d ∷ k) t = primary d k t
wants (UnaryAt d ∷ k) t = unary d k t
wants (DotName d e ∷ k) (sign.Name, x) = Some (d, Gives (ExprAt (expr_place e) (x.at ∷ []) (Dot e x.text)) k)
wants (ItemsAt b d ∷ k) t = items b d k t
wants (FirstKey d ∷ k) t = first_key d k t
wants (NextKey d ps at ∷ k) t = key d ps at k t
wants (KeyColon d ps n at ∷ k) (sign.Colon, p) = Some (d, Wants (expr false d (Value d ps n at ∷ k)))
wants (FunName d w ∷ k) (sign.Name, x) = Some (d, Wants (FunOpen d w (Some x) ∷ FunExpr w ∷ k))
wants (FunName d w ∷ k) t = fun_open d w None (FunExpr w ∷ k) t
wants (DeclName d w ss fs ∷ k) (sign.Name, x) = Some (d, Wants (FunOpen d w (Some x) ∷ Declare d ss fs ∷ k))
wants (FunOpen d w own ∷ k) t = fun_open d w own k t
wants (FirstName d ∷ k) (sign.Close, x) = named d [] k
wants (FirstName d ∷ k) (sign.Name, x) = Some (d, Wants (MoreNames d (x ∷ []) ∷ k))
wants (MoreNames d xs ∷ k) (sign.Close, x) = named d xs k
wants (MoreNames d xs ∷ k) (sign.Comma, x) = Some (d, Wants (NextName d xs ∷ k))
wants (NextName d xs ∷ k) (sign.Name, x) = Some (d, Wants (MoreNames d (xs ++ x ∷ []) ∷ k))
wants (FunBody d w own xs ∷ k) (sign.OpenBrace, x) = Some (suc d, Wants (InBody (suc d) NoStmts NoFuns ∷ FunEnd w own xs ∷ k))
wants (Statement d ∷ k) t = statement d k t
wants (MaybeLabel d x ∷ k) t = after_name d x k t
wants (BlockAt d ∷ k) (sign.OpenBrace, x) = Some (suc d, Wants (InBlock (suc d) NoStmts ∷ k))
wants (Test d ∷ k) (sign.Open, x) = Some (suc d, Wants (whole (suc d) k))
wants (Ended d s ∷ k) (sign.Semicolon, x) = Some (d, Did s k)
wants (VarName b d ds ∷ k) (sign.Name, x) = Some (d, Wants (VarTail b d ds x ∷ k))
wants (VarTail b d ds x ∷ k) t = var_tail b d ds x k t
wants (AfterIf d w e ss ∷ k) t = after_if d w e ss k t
wants (AfterElse d w e ss ∷ k) (sign.OpenBrace, x) = Some (suc d, Wants (InBlock (suc d) NoStmts ∷ ElseBlock w e ss ∷ k))
wants (AfterElse d w e ss ∷ k) (sign.If, v) = Some (suc d, Wants (Test (suc d) ∷ IfTest (suc d) v ∷ ElseIf w e ss ∷ k))
wants (AfterDo d w ss ∷ k) (sign.While, x) = Some (d, Wants (Test d ∷ DoTest d w ss ∷ k))
wants (ForOpen d w ∷ k) (sign.Open, x) = Some (suc d, Wants (ForFirst d w ∷ k))
wants (ForFirst d w ∷ k) t = for_first d w k t
wants (ForVar d w ∷ k) (sign.Name, x) = Some (suc d, Wants (ForVarName d w x ∷ k))
wants (ForVarName d w x ∷ k) t = for_var_name d w x k t
wants (ForName d w x ∷ k) t = for_name d w x k t
wants (ForTest d w i ∷ k) t = for_test d w i k t
wants (AfterContinue d w ∷ k) (sign.Semicolon, x) = Some (d, Did (StmtAt w.at [] (Continue None)) k)
wants (AfterContinue d w ∷ k) (sign.Name, x) = Some (d, Wants (Ended d (StmtAt w.at (x.at ∷ []) (Continue (Some x.text))) ∷ k))
wants (AfterBreak d w ∷ k) (sign.Semicolon, x) = Some (d, Did (StmtAt w.at [] (Break None)) k)
wants (AfterBreak d w ∷ k) (sign.Name, x) = Some (d, Wants (Ended d (StmtAt w.at (x.at ∷ []) (Break (Some x.text))) ∷ k))
wants (AfterReturn d w ∷ k) t = after_return d w k t
wants (SwitchOpen d w e ∷ k) (sign.OpenBrace, x) = Some (suc d, Wants (FirstCase (suc d) ∷ SwitchEnd d w e ∷ k))
wants (FirstCase d ∷ k) t = next_case d NoClauses k t.0
wants (DefaultColon d cs ∷ k) (sign.Colon, x) = Some (d, Wants (InBlock d NoStmts ∷ InCase d cs NoExpr ∷ k))
wants (InBlock d ss ∷ k) t = in_block d ss k t
wants (InBody d ss fs ∷ k) t = in_body d ss fs k t
wants (AfterTry d w ss ∷ k) (sign.Catch, x) = Some (d, Wants (CatchOpen d w ss ∷ k))
wants (AfterTry d w ss ∷ k) (sign.Finally, x) = Some (d, Wants (BlockAt d ∷ FinallyBlock w [] ss NoCatch ∷ k))
wants (CatchOpen d w ss ∷ k) (sign.Open, x) = Some (suc d, Wants (CatchName d w ss ∷ k))
wants (CatchName d w ss ∷ k) (sign.Name, x) = Some (suc d, Wants (CatchClose d w ss x ∷ k))
wants (CatchClose d w ss x ∷ k) (sign.Close, p) = Some (suc d, Wants (BlockAt d ∷ CatchBlock d w ss x ∷ k))
wants (AfterCatch d w ss x cs ∷ k) t = after_catch d w ss x cs k t
wants _ t = None

abbrev pub step : State → Token → Step
step (Wants k) t = wants k t
step (Gives e k) t = after e k t
step (Did s k) t = after_statement s k t
step (Done ss) t = None

abbrev pub begin : State
begin = Wants (InBlock 0 NoStmts ∷ [])

-- the program, where the end of the text is taken
abbrev pub finished : State → Option Stmts
finished (Done ss) = Some ss
finished _ = None

-- what comes of a text
abbrev pub judged : ℕ → List Token → Outcome Stmts
judged limit ts = judge step finished limit begin ts
