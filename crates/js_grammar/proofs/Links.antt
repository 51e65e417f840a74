-- A token opens at most one link.
use Rattle.std.proofs.Common.{◌≡◌, ℕ, suc, ◌≤◌, List, [], ◌∷◌, ◌++◌, Bool, true, false, Option, Some, None, subst, nat_lt, arith, cond as choose}
use Rattle.js_grammar.specs.declared.Sign.{Sign}
use Rattle.js_grammar.specs.declared.Sign.TheVariants as sign
use Rattle.js_grammar.specs.declared.Infix.{Infix}
use Rattle.js_grammar.specs.declared.Prefix.{Prefix}
use Rattle.js_grammar.specs.Tables.{infix_of, level_of, prefix_of, step_of, assign_of, is_key}
use Rattle.js_grammar.specs.Grammar.{Lexeme, Token, fun_of, has_default}
use Rattle.js_grammar.specs.Machine as machine
use Rattle.js_grammar.specs.Machine.{Frame, State, Wants, Gives, Did, Done, Step, step, begin, finished}
use Rattle.js_grammar.specs.Machine.{PrimaryAt, UnaryAt, DotName, ItemsAt, FirstKey, NextKey, KeyColon, FunName, FunOpen, FirstName, MoreNames, NextName, FunBody, DeclName, Statement, MaybeLabel, BlockAt, Test, Ended, VarName, VarTail, AfterIf, AfterElse, AfterDo, ForOpen, ForFirst, ForVar, ForVarName, ForName, ForTest, AfterContinue, AfterBreak, AfterReturn, SwitchOpen, FirstCase, DefaultColon, AfterTry, CatchOpen, CatchName, CatchClose, AfterCatch, Paren, Tail, NewTail, Index, Target, Prefixed, Rest, Right, Choice, Second, Third, Assigned, Commas, CommaRight, MoreItems, Value, Semi, ReturnSemi, ThrowSemi, VarInit, IfTest, WhileTest, DoTest, WithTest, SwitchTest, ForOver, ForTestEnd, CaseTest, ArrayEnd, CallEnd, NewEnd, ForItemsEnd, ForEnd, ObjectEnd, NamesEnd, VarEnd, ForVarEnd, SwitchEnd, InBlock, InBody, Labelled, ElseIf, IfBlock, ElseBlock, WhileBlock, DoBlock, WithBlock, ForBlock, ForInBlock, TryBlock, CatchBlock, FinallyBlock, InCase, FunEnd, FunExpr, Declare}
use Rattle.js_tree.specs.declared.nodes.StepOp.{StepOp}
use Rattle.js_tree.specs.declared.nodes.AssignOp.{AssignOp}
use Rattle.js_tree.specs.Plain.{Expr, Exprs, ExprAt, Name, New, NoExprs, AndExpr, NoExpr, SomeExpr, Properties, NoProperties, AndProperty, Decls, NoDecls, AndDecl, ForInit, Stmt, Stmts, AndStmt, Clauses, NoClauses, AndClause, Fun, Funs}
use Rattle.exact_refusals.specs.Judge as judge
use Rattle.exact_refusals.proofs.Exact.{opens_one}

-- the depth that a frame keeps
abbrev depth_of : Frame → ℕ
depth_of (PrimaryAt d) = d
depth_of (UnaryAt d) = d
depth_of (DotName d a1) = d
depth_of (ItemsAt a0 d) = d
depth_of (FirstKey d) = d
depth_of (NextKey d a1 a2) = d
depth_of (KeyColon d a1 a2 a3) = d
depth_of (FunName d a1) = d
depth_of (FunOpen d a1 a2) = d
depth_of (FirstName d) = d
depth_of (MoreNames d a1) = d
depth_of (NextName d a1) = d
depth_of (FunBody d a1 a2 a3) = d
depth_of (DeclName d a1 a2 a3) = d
depth_of (Statement d) = d
depth_of (MaybeLabel d a1) = d
depth_of (BlockAt d) = d
depth_of (Test d) = d
depth_of (Ended d a1) = d
depth_of (VarName a0 d a2) = d
depth_of (VarTail a0 d a2 a3) = d
depth_of (AfterIf d a1 a2 a3) = d
depth_of (AfterElse d a1 a2 a3) = d
depth_of (AfterDo d a1 a2) = d
depth_of (ForOpen d a1) = d
depth_of (ForFirst d a1) = suc d
depth_of (ForVar d a1) = suc d
depth_of (ForVarName d a1 a2) = suc d
depth_of (ForName d a1 a2) = suc d
depth_of (ForTest d a1 a2) = suc d
depth_of (AfterContinue d a1) = d
depth_of (AfterBreak d a1) = d
depth_of (AfterReturn d a1) = d
depth_of (SwitchOpen d a1 a2) = d
depth_of (FirstCase d) = d
depth_of (DefaultColon d a1) = d
depth_of (AfterTry d a1 a2) = d
depth_of (CatchOpen d a1 a2) = d
depth_of (CatchName d a1 a2) = d
depth_of (CatchClose d a1 a2 a3) = d
depth_of (AfterCatch d a1 a2 a3 a4) = d
depth_of (Paren d) = d
depth_of (Tail d) = d
depth_of (NewTail d a1) = d
depth_of (Index d a1) = d
depth_of (Target d) = d
depth_of (Rest b n d) = d
depth_of (Choice a0 d) = d
depth_of (Second a0 d a2) = d
depth_of (Commas d) = d
depth_of (MoreItems a0 d a2) = d
depth_of (Value d a1 a2 a3) = d
depth_of (Semi d a1) = d
depth_of (ReturnSemi d a1) = d
depth_of (ThrowSemi d a1) = d
depth_of (VarInit a0 d a2 a3) = d
depth_of (IfTest d a1) = d
depth_of (WhileTest d a1) = d
depth_of (DoTest d a1 a2) = d
depth_of (WithTest d a1) = d
depth_of (SwitchTest d a1) = d
depth_of (ForOver d a1 a2 a3) = d
depth_of (ForTestEnd d a1 a2) = d
depth_of (CaseTest d a1) = d
depth_of (ArrayEnd d a1) = d
depth_of (CallEnd d a1) = d
depth_of (NewEnd d a1 a2) = d
depth_of (ForItemsEnd d a1) = d
depth_of (ForEnd d a1 a2 a3) = d
depth_of (ObjectEnd d a1) = d
depth_of (NamesEnd d a1 a2) = d
depth_of (VarEnd d a1) = d
depth_of (ForVarEnd d a1) = d
depth_of (SwitchEnd d a1 a2) = d
depth_of (InBlock d a1) = d
depth_of (InBody d a1 a2) = d
depth_of (IfBlock d a1 a2) = d
depth_of (DoBlock d a1) = d
depth_of (TryBlock d a1) = d
depth_of (CatchBlock d a1 a2 a3) = d
depth_of (InCase d a1 a2) = d
depth_of (Declare d a1 a2) = d
depth_of _ = 0

-- no frame is deeper
abbrev pub Shallow : ℕ → List Frame → Type 0
Shallow l [] = Unit {0}
Shallow l (f ∷ k) = (depth_of f ≤ l) × Shallow l k

abbrev pub ShallowState : ℕ → State → Type 0
ShallowState l (Wants k) = Shallow l k
ShallowState l (Gives e k) = Shallow l k
ShallowState l (Did s k) = Shallow l k
ShallowState l (Done p) = Unit {0}

abbrev Links : ℕ → Step → Type 0
Links l None = Unit {0}
Links l (Some (d, next)) = (d ≤ suc l) × (d ≤ l → ShallowState l next)

module _ (l : ℕ) where
  primary_links : (d : ℕ) (k : List Frame) (t : Token) → d ≤ l → Shallow l k → Links l (machine.primary d k t)
  primary_links d k (sign.Name, x) le h = (omega (arith, le), λ _. h)
  primary_links d k (sign.Number, x) le h = (omega (arith, le), λ _. h)
  primary_links d k (sign.Str, x) le h = (omega (arith, le), λ _. h)
  primary_links d k (sign.This, x) le h = (omega (arith, le), λ _. h)
  primary_links d k (sign.Null, x) le h = (omega (arith, le), λ _. h)
  primary_links d k (sign.True, x) le h = (omega (arith, le), λ _. h)
  primary_links d k (sign.False, x) le h = (omega (arith, le), λ _. h)
  primary_links d k (sign.Open, x) le h = (omega (arith, le), λ in_it. (in_it, (in_it, (in_it, (in_it, (le, h))))))
  primary_links d k (sign.OpenSquare, x) le h = (omega (arith, le), λ in_it. (in_it, (le, h)))
  primary_links d k (sign.OpenBrace, x) le h = (omega (arith, le), λ in_it. (in_it, (le, h)))
  primary_links d k (sign.Function, x) le h = (omega (arith, le), λ _. (le, h))
  primary_links d k _ le h = tt

  left_hand_links : (d : ℕ) (k : List Frame) (t : Token) → d ≤ l → Shallow l k → Links l (machine.left_hand d k t)
  left_hand_links d k (sign.New, x) le h = (omega (arith, le), λ _. (le, (le, (le, h))))
  left_hand_links d k t le h = primary_links d (Tail d ∷ k) t le (le, h)

  prefix_links : (r : Option Prefix) (d : ℕ) (x : Lexeme) (k : List Frame) (other : Step) → d ≤ l → Shallow l k → Links l other → Links l (machine.prefix_or r d x k other)
  prefix_links None d x k other le h g = g
  prefix_links (Some o) d x k other le h g = (omega (arith, le), λ in_it. (in_it, (omega arith, h)))

  unary_links : (d : ℕ) (k : List Frame) (t : Token) → d ≤ l → Shallow l k → Links l (machine.unary d k t)
  unary_links d k t le h = prefix_links (prefix_of t.0) d t.1 k (machine.left_hand d (Target d ∷ k) t) le h (left_hand_links d (Target d ∷ k) t le (le, h))

  listed_links : (xs : Exprs) (k : List Frame) (t : Token) → Shallow l k → Links l (machine.listed xs k t)
  listed_links xs (ArrayEnd d w ∷ k) (sign.CloseSquare, x) h = (omega (arith, h.0), λ _. h.1)
  listed_links xs (CallEnd d f ∷ k) (sign.Close, x) h = (omega (arith, h.0), λ _. h.1)
  listed_links xs (NewEnd d w f ∷ k) (sign.Close, x) h = (omega (arith, h.0), λ _. h.1)
  listed_links xs (ForItemsEnd d w ∷ k) (sign.Semicolon, x) h = (omega (arith, h.0), λ in_it. (in_it, h.1))
  listed_links xs (ForEnd d w i test ∷ k) (sign.Close, x) h = (omega (arith, h.0), λ _. (h.0, (omega arith, h.1)))
  listed_links xs _ _ h = tt

  items_links : (b : Bool) (d : ℕ) (k : List Frame) (t : Token) → d ≤ l → Shallow l k → Links l (machine.items b d k t)
  items_links b d k (sign.Close, x) le h = listed_links NoExprs k (sign.Close, x) h
  items_links b d k (sign.CloseSquare, x) le h = listed_links NoExprs k (sign.CloseSquare, x) h
  items_links b d k (sign.Semicolon, x) le h = listed_links NoExprs k (sign.Semicolon, x) h
  items_links b d k t le h = unary_links d (Rest b 10 d ∷ Choice b d ∷ MoreItems b d NoExprs ∷ k) t le (le, (le, (le, h)))

  keyed_links : (d : ℕ) (ps : Properties) (at : List ℕ) (k : List Frame) → d ≤ l → Shallow l k → Links l (machine.keyed d ps at k)
  keyed_links d ps at (ObjectEnd o w ∷ k) le h = (omega (arith, le), λ _. h.1)
  keyed_links d ps at _ le h = tt

  key_cases : (c : Bool) (d : ℕ) (st : State) → d ≤ l → ShallowState l st → Links l (choose c (Some (d, st)) None)
  key_cases true d st le h = (omega (arith, le), λ _. h)
  key_cases false d st le h = tt

  key_links : (d : ℕ) (ps : Properties) (at : List ℕ) (k : List Frame) (t : Token) → d ≤ l → Shallow l k → Links l (machine.key d ps at k t)
  key_links d ps at k t le h = key_cases (is_key t.0 t.1.text) d (Wants (KeyColon d ps t.1.text (at ++ t.1.at ∷ []) ∷ k)) le (le, h)

  first_key_links : (d : ℕ) (k : List Frame) (t : Token) → d ≤ l → Shallow l k → Links l (machine.first_key d k t)
  first_key_links d k (sign.CloseBrace, x) le h = keyed_links d NoProperties [] k le h
  first_key_links d k t le h = key_links d NoProperties [] k t le h

  named_links : (d : ℕ) (xs : List Lexeme) (k : List Frame) → d ≤ l → Shallow l k → Links l (machine.named d xs k)
  named_links d xs (NamesEnd o w own ∷ k) le h = (omega (arith, le), λ _. h)
  named_links d xs _ le h = tt

  fun_open_links : (d : ℕ) (w : Lexeme) (own : Option Lexeme) (k : List Frame) (t : Token) → d ≤ l → Shallow l k → Links l (machine.fun_open d w own k t)
  fun_open_links d w own k (sign.Open, x) le h = (omega (arith, le), λ in_it. (in_it, (le, h)))
  fun_open_links d w own k _ le h = tt

  declared_links : (ds : Decls) (k : List Frame) (t : Token) → Shallow l k → Links l (machine.declared ds k t)
  declared_links ds (VarEnd d w ∷ k) (sign.Semicolon, x) h = (omega (arith, h.0), λ _. h.1)
  declared_links ds (ForVarEnd d w ∷ k) (sign.Semicolon, x) h = (omega (arith, h.0), λ in_it. (in_it, h.1))
  declared_links ds _ _ h = tt

  comma_links : (d : ℕ) (next : List Frame) (other : Step) (s : Sign) → d ≤ l → Shallow l next → Links l other → Links l (machine.comma_or d next other s)
  comma_links d next other sign.Comma le h g = (omega (arith, le), λ _. h)
  comma_links d next other _ le h g = g

  var_tail_links : (b : Bool) (d : ℕ) (ds : Decls) (y : Lexeme) (k : List Frame) (t : Token) → d ≤ l → Shallow l k → Links l (machine.var_tail b d ds y k t)
  var_tail_links b d ds y k (sign.Assign, x) le h = (omega (arith, le), λ _. ((le, (le, (le, (le, h))))))
  var_tail_links b d ds y k (s, x) le h = comma_links d (VarName b d (AndDecl ds y.text y.at NoExpr) ∷ k) (machine.declared (AndDecl ds y.text y.at NoExpr) k (s, x)) s le (le, h) (declared_links (AndDecl ds y.text y.at NoExpr) k (s, x) h)

  only_links : (d : ℕ) (k : List Frame) (t : Token) → d ≤ l → Shallow l k → Links l (machine.only d k t)
  only_links d k (sign.Name, x) le h = (omega (arith, le), λ _. (le, h))
  only_links d k (sign.OpenBrace, x) le h = tt
  only_links d k (sign.Function, x) le h = tt
  only_links d k (s, x) le h = unary_links d (Rest false 10 d ∷ Choice false d ∷ Commas d ∷ Semi d x ∷ k) (s, x) le (le, (le, (le, (le, h))))

  statement_links : (d : ℕ) (k : List Frame) (t : Token) → d ≤ l → Shallow l k → Links l (machine.statement d k t)
  statement_links d k (sign.Var, w) le h = (omega (arith, le), λ _. (le, (le, h)))
  statement_links d k (sign.If, w) le h = (omega (arith, le), λ _. (le, (le, h)))
  statement_links d k (sign.While, w) le h = (omega (arith, le), λ _. (le, (le, h)))
  statement_links d k (sign.Do, w) le h = (omega (arith, le), λ _. (le, (le, h)))
  statement_links d k (sign.For, w) le h = (omega (arith, le), λ _. (le, h))
  statement_links d k (sign.Continue, w) le h = (omega (arith, le), λ _. (le, h))
  statement_links d k (sign.Break, w) le h = (omega (arith, le), λ _. (le, h))
  statement_links d k (sign.Return, w) le h = (omega (arith, le), λ _. (le, h))
  statement_links d k (sign.Throw, w) le h = (omega (arith, le), λ _. ((le, (le, (le, (le, (le, h)))))))
  statement_links d k (sign.With, w) le h = (omega (arith, le), λ _. (le, (le, h)))
  statement_links d k (sign.Switch, w) le h = (omega (arith, le), λ _. (le, (le, h)))
  statement_links d k (sign.Try, w) le h = (omega (arith, le), λ _. (le, (le, h)))
  statement_links d k t le h = only_links d k t le h

  ends_links : (d : ℕ) (ss : Stmts) (k : List Frame) → d ≤ l → Shallow l k → Links l (machine.ends d ss k)
  ends_links d ss (IfBlock o w e ∷ k) le h = (omega (arith, le), λ _. h)
  ends_links d ss (ElseBlock w e before ∷ k) le h = (omega (arith, le), λ _. h.1)
  ends_links d ss (WhileBlock w e ∷ k) le h = (omega (arith, le), λ _. h.1)
  ends_links d ss (DoBlock o w ∷ k) le h = (omega (arith, le), λ _. h)
  ends_links d ss (WithBlock w e ∷ k) le h = (omega (arith, le), λ _. h.1)
  ends_links d ss (ForBlock w i test xs ∷ k) le h = (omega (arith, le), λ _. h.1)
  ends_links d ss (ForInBlock w v x e ∷ k) le h = (omega (arith, le), λ _. h.1)
  ends_links d ss (TryBlock o w ∷ k) le h = (omega (arith, le), λ _. h)
  ends_links d ss (CatchBlock o w before x ∷ k) le h = (omega (arith, le), λ _. h)
  ends_links d ss (FinallyBlock w at before c ∷ k) le h = (omega (arith, le), λ _. h.1)
  ends_links d ss _ le h = tt

  cased_links : (d : ℕ) (cs : Clauses) (k : List Frame) → d ≤ l → Shallow l k → Links l (machine.cased d cs k)
  cased_links d cs (SwitchEnd o w e ∷ k) le h = (omega (arith, le), λ _. h.1)
  cased_links d cs _ le h = tt

  default_cases : (c : Bool) (d : ℕ) (st : State) → d ≤ l → ShallowState l st → Links l (choose c None (Some (d, st)))
  default_cases true d st le h = tt
  default_cases false d st le h = (omega (arith, le), λ _. h)

  next_case_links : (d : ℕ) (cs : Clauses) (k : List Frame) (s : Sign) → d ≤ l → Shallow l k → Links l (machine.next_case d cs k s)
  next_case_links d cs k sign.Case le h = (omega (arith, le), λ _. ((le, (le, (le, (le, (le, h)))))))
  next_case_links d cs k sign.Default le h = default_cases (has_default cs) d (Wants (DefaultColon d cs ∷ k)) le (le, h)
  next_case_links d cs k sign.CloseBrace le h = cased_links d cs k le h
  next_case_links d cs k _ le h = tt

  case_ends_links : (ss : Stmts) (k : List Frame) (s : Sign) (other : Step) → Shallow l k → Links l other → Links l (machine.case_ends ss k s other)
  case_ends_links ss (InCase d cs test ∷ k) s other h g = next_case_links d (AndClause cs test ss) k s (h.0) (h.1)
  case_ends_links ss _ s other h g = g

  finishes_links : (d : ℕ) (ss : Stmts) (k : List Frame) → d ≤ l → Links l (machine.finishes d ss k)
  finishes_links d ss [] le = (omega (arith, le), λ _. tt)
  finishes_links d ss _ le = tt

  in_block_links : (d : ℕ) (ss : Stmts) (k : List Frame) (t : Token) → d ≤ l → Shallow l k → Links l (machine.in_block d ss k t)
  in_block_links d ss k (sign.End, x) le h = finishes_links d ss k le
  in_block_links d ss k (sign.CloseBrace, x) le h = case_ends_links ss k sign.CloseBrace (machine.ends d ss k) h (ends_links d ss k le h)
  in_block_links d ss k (sign.Case, x) le h = case_ends_links ss k sign.Case None h tt
  in_block_links d ss k (sign.Default, x) le h = case_ends_links ss k sign.Default None h tt
  in_block_links d ss k t le h = statement_links d (InBlock d ss ∷ k) t le (le, h)

  has_function_links : (d : ℕ) (f : Fun) (k : List Frame) → d ≤ l → Shallow l k → Links l (machine.has_function d f k)
  has_function_links d f (FunExpr w ∷ k) le h = (omega (arith, le), λ _. h.1)
  has_function_links d f (Declare o ss fs ∷ k) le h = (omega (arith, le), λ _. h)
  has_function_links d f _ le h = tt

  body_ends_links : (d : ℕ) (ss : Stmts) (fs : Funs) (k : List Frame) → d ≤ l → Shallow l k → Links l (machine.body_ends d ss fs k)
  body_ends_links d ss fs (FunEnd w own params ∷ k) le h = has_function_links d (fun_of w own params ss fs) k le (h.1)
  body_ends_links d ss fs _ le h = tt

  in_body_links : (d : ℕ) (ss : Stmts) (fs : Funs) (k : List Frame) (t : Token) → d ≤ l → Shallow l k → Links l (machine.in_body d ss fs k t)
  in_body_links d ss fs k (sign.CloseBrace, x) le h = body_ends_links d ss fs k le h
  in_body_links d ss fs k (sign.Function, x) le h = (omega (arith, le), λ _. (le, h))
  in_body_links d ss fs k t le h = statement_links d (InBody d ss fs ∷ k) t le (le, h)

  after_statement_links : (k : List Frame) (s : Stmt) (t : Token) → Shallow l k → Links l (machine.after_statement s k t)
  after_statement_links [] s t h = tt
  after_statement_links (InBlock d ss ∷ k) s t h = in_block_links d (AndStmt ss s) k t (h.0) (h.1)
  after_statement_links (InBody d ss fs ∷ k) s t h = in_body_links d (AndStmt ss s) fs k t (h.0) (h.1)
  after_statement_links (Labelled x ∷ k) s t h = after_statement_links k _ t (h.1)
  after_statement_links (ElseIf w e ss ∷ k) s t h = after_statement_links k _ t (h.1)
  after_statement_links (_ ∷ k) s t h = tt

  after_if_links : (d : ℕ) (w : Lexeme) (e : Expr) (ss : Stmts) (k : List Frame) (t : Token) → d ≤ l → Shallow l k → Links l (machine.after_if d w e ss k t)
  after_if_links d w e ss k (sign.Else, x) le h = (omega (arith, le), λ _. (le, h))
  after_if_links d w e ss k t le h = after_statement_links k _ t h

  after_catch_links : (d : ℕ) (w : Lexeme) (ss : Stmts) (x : Lexeme) (cs : Stmts) (k : List Frame) (t : Token) → d ≤ l → Shallow l k → Links l (machine.after_catch d w ss x cs k t)
  after_catch_links d w ss x cs k (sign.Finally, f) le h = (omega (arith, le), λ _. (le, (omega arith, h)))
  after_catch_links d w ss x cs k t le h = after_statement_links k _ t h

  for_first_links : (d : ℕ) (w : Lexeme) (k : List Frame) (t : Token) → suc d ≤ l → Shallow l k → Links l (machine.for_first d w k t)
  for_first_links d w k (sign.Var, v) le h = (omega (arith, le), λ _. (le, h))
  for_first_links d w k (sign.Name, x) le h = (omega (arith, le), λ _. (le, h))
  for_first_links d w k t le h = items_links true (suc d) (ForItemsEnd d w ∷ k) t le (omega (arith, le), h)

  for_var_name_links : (d : ℕ) (w x : Lexeme) (k : List Frame) (t : Token) → suc d ≤ l → Shallow l k → Links l (machine.for_var_name d w x k t)
  for_var_name_links d w x k (sign.In, y) le h = (omega (arith, le), λ _. ((le, (le, (le, (le, (omega (arith, le), h)))))))
  for_var_name_links d w x k t le h = var_tail_links true (suc d) NoDecls x (ForVarEnd d w ∷ k) t le (omega (arith, le), h)

  for_test_links : (d : ℕ) (w : Lexeme) (i : ForInit) (k : List Frame) (t : Token) → suc d ≤ l → Shallow l k → Links l (machine.for_test d w i k t)
  for_test_links d w i k (sign.Semicolon, x) le h = (omega (arith, le), λ _. (le, (omega (arith, le), h)))
  for_test_links d w i k t le h = unary_links (suc d) (Rest false 10 (suc d) ∷ Choice false (suc d) ∷ Commas (suc d) ∷ ForTestEnd d w i ∷ k) t le (le, (le, (le, (omega (arith, le), h))))

  after_return_links : (d : ℕ) (w : Lexeme) (k : List Frame) (t : Token) → d ≤ l → Shallow l k → Links l (machine.after_return d w k t)
  after_return_links d w k (sign.Semicolon, x) le h = (omega (arith, le), λ _. h)
  after_return_links d w k t le h = unary_links d (Rest false 10 d ∷ Choice false d ∷ Commas d ∷ ReturnSemi d w ∷ k) t le (le, (le, (le, (le, h))))

  -- ## A token after an expression

  tail_links : (d : ℕ) (e : Expr) (k : List Frame) (other : Step) (t : Token) → d ≤ l → Shallow l k → Links l other → Links l (machine.tail d e k other t)
  tail_links d e k other (sign.Point, x) le h g = (omega (arith, le), λ _. (le, (le, h)))
  tail_links d e k other (sign.OpenSquare, x) le h g = (omega (arith, le), λ in_it. (in_it, (in_it, (in_it, (in_it, (le, (le, h)))))))
  tail_links d e k other (sign.Open, x) le h g = (omega (arith, le), λ in_it. (in_it, (le, (le, h))))
  tail_links d e k other _ le h g = g

  new_tail_links : (d : ℕ) (w : Lexeme) (e : Expr) (k : List Frame) (other : Step) (t : Token) → d ≤ l → Shallow l k → Links l other → Links l (machine.new_tail d w e k other t)
  new_tail_links d w e k other (sign.Point, x) le h g = (omega (arith, le), λ _. (le, (le, h)))
  new_tail_links d w e k other (sign.OpenSquare, x) le h g = (omega (arith, le), λ in_it. (in_it, (in_it, (in_it, (in_it, (le, (le, h)))))))
  new_tail_links d w e k other (sign.Open, x) le h g = (omega (arith, le), λ in_it. (in_it, (le, h)))
  new_tail_links d w e k other _ le h g = g

  assigned_links : (o : AssignOp) (d : ℕ) (e : Expr) (k : List Frame) → d ≤ l → Shallow l k → Links l (machine.assigned_to o d e k)
  assigned_links o d e (Rest b n m ∷ Choice c j ∷ k) le h = (omega (arith, le), λ in_it. (in_it, (in_it, (in_it, (omega arith, h.1.1)))))
  assigned_links o d e _ le h = tt

  assign_links : (r : Option AssignOp) (d : ℕ) (e : Expr) (k : List Frame) (other : Step) → d ≤ l → Shallow l k → Links l other → Links l (machine.assign_or r d e k other)
  assign_links None d e k other le h g = g
  assign_links (Some o) d e k other le h g = assigned_links o d e k le h

  step_or_links : (r : Option StepOp) (d : ℕ) (e : Expr) (k : List Frame) (other : Step) → d ≤ l → Shallow l k → Links l other → Links l (machine.step_or r d e k other)
  step_or_links None d e k other le h g = g
  step_or_links (Some o) d e k other le h g = (omega (arith, le), λ _. h)

  either_links : (c : Bool) (d : ℕ) (st : State) (other : Step) → d ≤ l → ShallowState l st → Links l other → Links l (choose c (Some (d, st)) other)
  either_links true d st other le h g = (omega (arith, le), λ _. h)
  either_links false d st other le h g = g

  infix_links : (r : Option Infix) (b : Bool) (n d : ℕ) (e : Expr) (k : List Frame) (other : Step) → d ≤ l → Shallow l k → Links l other → Links l (machine.infix_or r b n d e k other)
  infix_links None b n d e k other le h g = g
  infix_links (Some o) b n d e k other le h g = either_links (nat_lt (level_of o) n) d (Wants (UnaryAt d ∷ Rest b (level_of o) d ∷ Right o e ∷ Rest b n d ∷ k)) other le (le, (le, (omega arith, (le, h)))) g

  choice_links : (b : Bool) (d : ℕ) (e : Expr) (k : List Frame) (other : Step) (s : Sign) → d ≤ l → Shallow l k → Links l other → Links l (machine.choice b d e k other s)
  choice_links b d e k other sign.Question le h g = (omega (arith, le), λ in_it. (in_it, (in_it, (in_it, (le, h)))))
  choice_links b d e k other _ le h g = g

  after_links : (k : List Frame) (e : Expr) (t : Token) → Shallow l k → Links l (machine.after e k t)
  after_links [] e t h = tt
  after_links (Tail d ∷ k) e t h = tail_links d e k (machine.after e k t) t (h.0) (h.1) (after_links k e t (h.1))
  after_links (NewTail d w ∷ k) e t h = new_tail_links d w e k (machine.after (ExprAt w.at [] (New e NoExprs)) k t) t (h.0) (h.1) (after_links k (ExprAt w.at [] (New e NoExprs)) t (h.1))
  after_links (Target d ∷ k) e t h = step_or_links (step_of t.0) d e k (machine.assign_or (assign_of t.0) d e k (machine.after e k t)) (h.0) (h.1) (assign_links (assign_of t.0) d e k (machine.after e k t) (h.0) (h.1) (after_links k e t (h.1)))
  after_links (Prefixed w o ∷ k) e t h = after_links k _ t (h.1)
  after_links (Rest b n d ∷ k) e t h = infix_links (infix_of t.0 b) b n d e k (machine.after e k t) (h.0) (h.1) (after_links k e t (h.1))
  after_links (Right o a ∷ k) e t h = after_links k _ t (h.1)
  after_links (Choice b d ∷ k) e t h = choice_links b d e k (machine.after e k t) t.0 (h.0) (h.1) (after_links k e t (h.1))
  after_links (Third a c ∷ k) e t h = after_links k _ t (h.1)
  after_links (Assigned o a ∷ k) e t h = after_links k _ t (h.1)
  after_links (Commas d ∷ k) e t h = comma_links d (machine.expr false d (CommaRight e ∷ Commas d ∷ k)) (machine.after e k t) t.0 (h.0) ((h.0, (h.0, (h.0, (omega arith, h))))) (after_links k e t (h.1))
  after_links (CommaRight a ∷ k) e t h = after_links k _ t (h.1)
  after_links (MoreItems b d xs ∷ k) e t h = comma_links d (machine.expr b d (MoreItems b d (AndExpr xs e) ∷ k)) (machine.listed (AndExpr xs e) k t) t.0 (h.0) ((h.0, (h.0, (h.0, h)))) (listed_links (AndExpr xs e) k t (h.1))
  after_links (VarInit b d ds x ∷ k) e t h = comma_links d (VarName b d (AndDecl ds x.text x.at (SomeExpr e)) ∷ k) (machine.declared (AndDecl ds x.text x.at (SomeExpr e)) k t) t.0 (h.0) h (declared_links (AndDecl ds x.text x.at (SomeExpr e)) k t (h.1))
  after_links (Paren d ∷ k) e (sign.Close, x) h = (omega (arith, h.0), λ _. h.1)
  after_links (Index d a ∷ k) e (sign.CloseSquare, x) h = (omega (arith, h.0), λ _. h.1)
  after_links (Second b d a ∷ k) e (sign.Colon, x) h = (omega (arith, h.0), λ in_it. (in_it, (in_it, (in_it, (omega arith, h.1)))))
  after_links (Value d ps n at ∷ k) e (sign.Comma, p) h = (omega (arith, h.0), λ _. h)
  after_links (Value d ps n at ∷ k) e (sign.CloseBrace, p) h = keyed_links d (AndProperty ps n e) at k (h.0) (h.1)
  after_links (Semi d w ∷ k) e (sign.Semicolon, x) h = (omega (arith, h.0), λ _. h.1)
  after_links (ReturnSemi d w ∷ k) e (sign.Semicolon, x) h = (omega (arith, h.0), λ _. h.1)
  after_links (ThrowSemi d w ∷ k) e (sign.Semicolon, x) h = (omega (arith, h.0), λ _. h.1)
  after_links (IfTest d w ∷ k) e (sign.Close, x) h = (omega (arith, h.0), λ _. (h.0, h))
  after_links (WhileTest d w ∷ k) e (sign.Close, x) h = (omega (arith, h.0), λ _. (h.0, (omega arith, h.1)))
  after_links (DoTest d w ss ∷ k) e (sign.Close, x) h = (omega (arith, h.0), λ _. h)
  after_links (WithTest d w ∷ k) e (sign.Close, x) h = (omega (arith, h.0), λ _. (h.0, (omega arith, h.1)))
  after_links (SwitchTest d w ∷ k) e (sign.Close, x) h = (omega (arith, h.0), λ _. h)
  after_links (ForOver d w v x ∷ k) e (sign.Close, p) h = (omega (arith, h.0), λ _. (h.0, (omega arith, h.1)))
  after_links (ForTestEnd d w i ∷ k) e (sign.Semicolon, x) h = (omega (arith, h.0), λ in_it. (in_it, h))
  after_links (CaseTest d cs ∷ k) e (sign.Colon, x) h = (omega (arith, h.0), λ _. (h.0, h))
  after_links (_ ∷ k) e t h = tt

  after_name_links : (d : ℕ) (x : Lexeme) (k : List Frame) (t : Token) → d ≤ l → Shallow l k → Links l (machine.after_name d x k t)
  after_name_links d x k (sign.Colon, p) le h = (omega (arith, le), λ _. (le, (omega arith, h)))
  after_name_links d x k t le h = after_links (machine.tails false d (Commas d ∷ Semi d x ∷ k)) (ExprAt x.at [] (Name x.text)) t (le, (le, (le, (le, (le, (le, h))))))

  for_name_links : (d : ℕ) (w x : Lexeme) (k : List Frame) (t : Token) → suc d ≤ l → Shallow l k → Links l (machine.for_name d w x k t)
  for_name_links d w x k (sign.In, p) le h = (omega (arith, le), λ _. ((le, (le, (le, (le, (omega (arith, le), h)))))))
  for_name_links d w x k t le h = after_links (machine.tails true (suc d) (MoreItems true (suc d) NoExprs ∷ ForItemsEnd d w ∷ k)) (ExprAt x.at [] (Name x.text)) t (le, (le, (le, (le, (le, (omega (arith, le), h))))))

  -- ## A token where one is awaited

  wants_links : (k : List Frame) (t : Token) → Shallow l k → Links l (machine.wants k t)
  wants_links (PrimaryAt d ∷ k) t h = primary_links d k t (h.0) (h.1)
  wants_links (UnaryAt d ∷ k) t h = unary_links d k t (h.0) (h.1)
  wants_links (DotName d e ∷ k) (sign.Name, x) h = (omega (arith, h.0), λ _. h.1)
  wants_links (ItemsAt b d ∷ k) t h = items_links b d k t (h.0) (h.1)
  wants_links (FirstKey d ∷ k) t h = first_key_links d k t (h.0) (h.1)
  wants_links (NextKey d ps at ∷ k) t h = key_links d ps at k t (h.0) (h.1)
  wants_links (KeyColon d ps n at ∷ k) (sign.Colon, p) h = (omega (arith, h.0), λ _. ((h.0, (h.0, (h.0, h)))))
  wants_links (FunName d w ∷ k) (sign.Name, x) h = (omega (arith, h.0), λ _. (h.0, (omega arith, h.1)))
  wants_links (FunName d w ∷ k) t h = fun_open_links d w None (FunExpr w ∷ k) t (h.0) (omega arith, h.1)
  wants_links (DeclName d w ss fs ∷ k) (sign.Name, x) h = (omega (arith, h.0), λ _. (h.0, h))
  wants_links (FunOpen d w own ∷ k) t h = fun_open_links d w own k t (h.0) (h.1)
  wants_links (FirstName d ∷ k) (sign.Close, x) h = named_links d [] k (h.0) (h.1)
  wants_links (FirstName d ∷ k) (sign.Name, x) h = (omega (arith, h.0), λ _. h)
  wants_links (MoreNames d xs ∷ k) (sign.Close, x) h = named_links d xs k (h.0) (h.1)
  wants_links (MoreNames d xs ∷ k) (sign.Comma, x) h = (omega (arith, h.0), λ _. h)
  wants_links (NextName d xs ∷ k) (sign.Name, x) h = (omega (arith, h.0), λ _. h)
  wants_links (FunBody d w own xs ∷ k) (sign.OpenBrace, x) h = (omega (arith, h.0), λ in_it. (in_it, (omega arith, h.1)))
  wants_links (Statement d ∷ k) t h = statement_links d k t (h.0) (h.1)
  wants_links (MaybeLabel d x ∷ k) t h = after_name_links d x k t (h.0) (h.1)
  wants_links (BlockAt d ∷ k) (sign.OpenBrace, x) h = (omega (arith, h.0), λ in_it. (in_it, h.1))
  wants_links (Test d ∷ k) (sign.Open, x) h = (omega (arith, h.0), λ in_it. (in_it, (in_it, (in_it, (in_it, h.1)))))
  wants_links (Ended d s ∷ k) (sign.Semicolon, x) h = (omega (arith, h.0), λ _. h.1)
  wants_links (VarName b d ds ∷ k) (sign.Name, x) h = (omega (arith, h.0), λ _. h)
  wants_links (VarTail b d ds x ∷ k) t h = var_tail_links b d ds x k t (h.0) (h.1)
  wants_links (AfterIf d w e ss ∷ k) t h = after_if_links d w e ss k t (h.0) (h.1)
  wants_links (AfterElse d w e ss ∷ k) (sign.OpenBrace, x) h = (omega (arith, h.0), λ in_it. (in_it, (omega arith, h.1)))
  wants_links (AfterElse d w e ss ∷ k) (sign.If, v) h = (omega (arith, h.0), λ in_it. (in_it, (in_it, (omega arith, h.1))))
  wants_links (AfterDo d w ss ∷ k) (sign.While, x) h = (omega (arith, h.0), λ _. (h.0, h))
  wants_links (ForOpen d w ∷ k) (sign.Open, x) h = (omega (arith, h.0), λ in_it. (in_it, h.1))
  wants_links (ForFirst d w ∷ k) t h = for_first_links d w k t (h.0) (h.1)
  wants_links (ForVar d w ∷ k) (sign.Name, x) h = (omega (arith, h.0), λ _. h)
  wants_links (ForVarName d w x ∷ k) t h = for_var_name_links d w x k t (h.0) (h.1)
  wants_links (ForName d w x ∷ k) t h = for_name_links d w x k t (h.0) (h.1)
  wants_links (ForTest d w i ∷ k) t h = for_test_links d w i k t (h.0) (h.1)
  wants_links (AfterContinue d w ∷ k) (sign.Semicolon, x) h = (omega (arith, h.0), λ _. h.1)
  wants_links (AfterContinue d w ∷ k) (sign.Name, x) h = (omega (arith, h.0), λ _. h)
  wants_links (AfterBreak d w ∷ k) (sign.Semicolon, x) h = (omega (arith, h.0), λ _. h.1)
  wants_links (AfterBreak d w ∷ k) (sign.Name, x) h = (omega (arith, h.0), λ _. h)
  wants_links (AfterReturn d w ∷ k) t h = after_return_links d w k t (h.0) (h.1)
  wants_links (SwitchOpen d w e ∷ k) (sign.OpenBrace, x) h = (omega (arith, h.0), λ in_it. (in_it, h))
  wants_links (FirstCase d ∷ k) t h = next_case_links d NoClauses k t.0 (h.0) (h.1)
  wants_links (DefaultColon d cs ∷ k) (sign.Colon, x) h = (omega (arith, h.0), λ _. (h.0, h))
  wants_links (InBlock d ss ∷ k) t h = in_block_links d ss k t (h.0) (h.1)
  wants_links (InBody d ss fs ∷ k) t h = in_body_links d ss fs k t (h.0) (h.1)
  wants_links (AfterTry d w ss ∷ k) (sign.Catch, x) h = (omega (arith, h.0), λ _. h)
  wants_links (AfterTry d w ss ∷ k) (sign.Finally, x) h = (omega (arith, h.0), λ _. (h.0, (omega arith, h.1)))
  wants_links (CatchOpen d w ss ∷ k) (sign.Open, x) h = (omega (arith, h.0), λ _. h)
  wants_links (CatchName d w ss ∷ k) (sign.Name, x) h = (omega (arith, h.0), λ _. h)
  wants_links (CatchClose d w ss x ∷ k) (sign.Close, p) h = (omega (arith, h.0), λ _. (h.0, h))
  wants_links (AfterCatch d w ss x cs ∷ k) t h = after_catch_links d w ss x cs k t (h.0) (h.1)
  wants_links _ t h = tt

  step_links : (st : State) (t : Token) → ShallowState l st → Links l (step st t)
  step_links (Wants k) t h = wants_links k t h
  step_links (Gives e k) t h = after_links k e t h
  step_links (Did s k) t h = after_statement_links k s t h
  step_links (Done p) t h = tt

  one_link : (st next : State) (t : Token) (d : ℕ) → ◌≡◌ {A = Step} (step st t) (Some (d, next)) → ShallowState l st → d ≤ suc l
  one_link st next t d is h = (subst (Links l) is (step_links st t h)).0

  stays : (st next : State) (t : Token) (d : ℕ) → ◌≡◌ {A = Step} (step st t) (Some (d, next)) → d ≤ l → ShallowState l st → ShallowState l next
  stays st next t d is le h = (subst (Links l) is (step_links st t h)).1 le

-- a token that is taken is at most one link (omega (arith, than), those) before it
pub links : judge.OpensOne step begin
links = opens_one step finished begin ShallowState (λ l. (omega arith, tt)) one_link stays
