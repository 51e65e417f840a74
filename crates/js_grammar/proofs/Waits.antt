-- What the frames of the machine wait for, and what has been taken before them.
use Rattle.std.proofs.Common.{◌≡◌, ℕ, suc, ◌≤◌, List, [], ◌∷◌, ◌++◌, Bool, true, false, Option, Some}
use Rattle.js_grammar.specs.declared.Sign.{Sign}
use Rattle.js_grammar.specs.declared.Sign.TheVariants as sign
use Rattle.js_grammar.specs.declared.Infix.{Infix}
use Rattle.js_grammar.specs.declared.Prefix.{Prefix}
use Rattle.js_grammar.specs.Tables.{infix_of, level_of, prefix_of, assign_of, is_key}
use Rattle.js_grammar.specs.Grammar.{Lexeme, Deep, Level, Primary, Operand, LeftHand, Unary, Operators, Assignment, Whole, An, Items, Keys, Maybe, Names, Code, Init, Vars, A, Statements, Block, Cases, Body, Spells, has_default}
use Rattle.js_grammar.specs.Machine.{Frame, State, Wants, Gives, Did, Done}
use Rattle.js_grammar.specs.Machine.{PrimaryAt, UnaryAt, DotName, ItemsAt, FirstKey, NextKey, KeyColon, FunName, FunOpen, FirstName, MoreNames, NextName, FunBody, DeclName, Statement, MaybeLabel, BlockAt, Test, Ended, VarName, VarTail, AfterIf, AfterElse, AfterDo, ForOpen, ForFirst, ForVar, ForVarName, ForName, ForTest, AfterContinue, AfterBreak, AfterReturn, SwitchOpen, FirstCase, DefaultColon, AfterTry, CatchOpen, CatchName, CatchClose, AfterCatch, Paren, Tail, NewTail, Index, Target, Prefixed, Rest, Right, Choice, Second, Third, Assigned, Commas, CommaRight, MoreItems, Value, Semi, ReturnSemi, ThrowSemi, VarInit, IfTest, WhileTest, DoTest, WithTest, SwitchTest, ForOver, ForTestEnd, CaseTest, ArrayEnd, CallEnd, NewEnd, ForItemsEnd, ForEnd, ObjectEnd, NamesEnd, VarEnd, ForVarEnd, SwitchEnd, InBlock, InBody, Labelled, ElseIf, IfBlock, ElseBlock, WhileBlock, DoBlock, WithBlock, ForBlock, ForInBlock, TryBlock, CatchBlock, FinallyBlock, InCase, FunEnd, FunExpr, Declare}
use Rattle.js_tree.specs.declared.nodes.AssignOp.{AssignOp}
use Rattle.js_tree.specs.Plain.{Expr, Exprs, ExprAt, Function, Dot, Sub, AndExpr, OptionalExpr, SomeExpr, Properties, AndProperty, Decls, AndDecl, ForInit, StmtAt, Only, If, While, For, ForIn, With, Try, Stmts, SomeBlock, Catch, Clauses, AndClause, Fun, Funs, expr_place}

pub data Need : Type 0 where
  Of : Level → Need
  OfItems : Bool → Need
  OfKeys : Need
  OfNames : Need
  OfVars : Bool → Need
  OfCode : Lexeme → Option Lexeme → Need
  OfBody : Need
  OfTest : Need
  OfBlock : Need
  OfStatement : Need
  OfStatements : Need
  OfCases : Need

-- the rest of a `for`, behind its first part
abbrev pub ForDone : Lexeme → ForInit → ℕ → List Deep → List Deep → Type 0
ForDone x i d from start = (test : OptionalExpr) (xs : Exprs) (ss : Stmts) (l q : Lexeme) (vs ws rest : List Deep) → Spells (Maybe test) (suc d) start (((sign.Semicolon, l), suc d) ∷ vs) → Spells (Items false xs) (suc d) vs (((sign.Close, q), suc d) ∷ ws) → Spells (Block ss) d ws rest → Spells (A (StmtAt x.at [] (For i test xs ss))) d from rest

-- no operator of the sign is of a level below n
abbrev pub Loose : Level → Sign → Type 0
Loose (Operators b n) s = (o : Infix) → infix_of s b ≡ Some o → n ≤ level_of o
Loose _ s = Unit {0}

-- After the whole list up to `start`, the frames wait for what is needed, which is to begin at `start`.
pub data Waits (w : List Deep) : Need → ℕ → List Deep → List Frame → Type 0 where
  -- a primary expression serves where more may be made of it
  as_operand : {d : ℕ} {start : List Deep} {k : List Frame} → Waits w (Of Operand) d start k → Waits w (Of Primary) d start k
  as_left_hand : {d : ℕ} {start : List Deep} {k : List Frame} → Waits w (Of LeftHand) d start k → Waits w (Of Primary) d start k
  in_tail : {d : ℕ} {start : List Deep} {k : List Frame} → Waits w (Of LeftHand) d start k → Waits w (Of LeftHand) d start (Tail d ∷ k)
  in_new : {x : Lexeme} {d : ℕ} {start : List Deep} {k : List Frame} → Waits w (Of LeftHand) d (((sign.New, x), d) ∷ start) k → Waits w (Of Operand) d start (NewTail d x ∷ k)
  in_target : {d : ℕ} {start : List Deep} {k : List Frame} → Waits w (Of Unary) d start k → Waits w (Of LeftHand) d start (Target d ∷ k)
  in_prefix : {s : Sign} {x : Lexeme} {o : Prefix} {d : ℕ} {start : List Deep} {k : List Frame} → prefix_of s ≡ Some o → Waits w (Of Unary) d (((s, x), suc d) ∷ start) k → Waits w (Of Unary) (suc d) start (Prefixed x o ∷ k)
  in_rest : {b : Bool} {n d : ℕ} {start : List Deep} {k : List Frame} → Waits w (Of (Operators b n)) d start k → Waits w (Of Unary) d start (Rest b n d ∷ k)
  in_right : {b : Bool} {s : Sign} {x : Lexeme} {o : Infix} {a : Expr} {n d : ℕ} {from start : List Deep} {k : List Frame} → infix_of s b ≡ Some o → suc (level_of o) ≤ n → Spells (An (Operators b (suc (level_of o))) a) d from (((s, x), d) ∷ start) → Waits w (Of (Operators b n)) d from k → Waits w (Of (Operators b (level_of o))) d start (Right o a ∷ Rest b n d ∷ k)
  in_choice : {b : Bool} {d : ℕ} {start : List Deep} {k : List Frame} → Waits w (Of (Assignment b)) d start k → Waits w (Of (Operators b 10)) d start (Choice b d ∷ k)
  in_second : {b : Bool} {x : Lexeme} {a : Expr} {d : ℕ} {from start : List Deep} {k : List Frame} → Spells (An (Operators b 10) a) d from (((sign.Question, x), suc d) ∷ start) → Waits w (Of (Assignment b)) d from k → Waits w (Of (Assignment b)) (suc d) start (Second b d a ∷ k)
  in_third : {b : Bool} {x y : Lexeme} {a c : Expr} {d : ℕ} {from us start : List Deep} {k : List Frame} → Spells (An (Operators b 10) a) d from (((sign.Question, x), suc d) ∷ us) → Spells (An (Assignment b) c) (suc d) us (((sign.Colon, y), suc d) ∷ start) → Waits w (Of (Assignment b)) d from k → Waits w (Of (Assignment b)) (suc d) start (Third a c ∷ k)
  in_assigned : {b : Bool} {s : Sign} {x : Lexeme} {o : AssignOp} {a : Expr} {d : ℕ} {from start : List Deep} {k : List Frame} → assign_of s ≡ Some o → Spells (An LeftHand a) d from (((s, x), suc d) ∷ start) → Waits w (Of (Assignment b)) d from k → Waits w (Of (Assignment b)) (suc d) start (Assigned o a ∷ k)
  in_commas : {d : ℕ} {start : List Deep} {k : List Frame} → Waits w (Of Whole) d start k → Waits w (Of (Assignment false)) d start (Commas d ∷ k)
  in_comma : {x : Lexeme} {a : Expr} {d : ℕ} {from start : List Deep} {k : List Frame} → Spells (An Whole a) d from (((sign.Comma, x), d) ∷ start) → Waits w (Of Whole) d from k → Waits w (Of (Assignment false)) d start (CommaRight a ∷ Commas d ∷ k)
  in_paren : {x : Lexeme} {d : ℕ} {start : List Deep} {k : List Frame} → Waits w (Of Primary) d (((sign.Open, x), suc d) ∷ start) k → Waits w (Of Whole) (suc d) start (Paren d ∷ k)
  in_index : {l : Level} {a : Expr} {d : ℕ} {from start : List Deep} {k : List Frame} → ((i : Expr) (q : Lexeme) (rest : List Deep) → Spells (An Whole i) (suc d) start (((sign.CloseSquare, q), suc d) ∷ rest) → Spells (An l (ExprAt (expr_place a) [] (Sub a i))) d from rest) → ((s : Sign) → Loose l s) → Waits w (Of l) d from k → Waits w (Of Whole) (suc d) start (Index d a ∷ k)
  in_items : {b : Bool} {xs : Exprs} {d : ℕ} {from start : List Deep} {k : List Frame} → ((e : Expr) (rest : List Deep) → Spells (An (Assignment b) e) d start rest → Spells (Items b (AndExpr xs e)) d from rest) → Waits w (OfItems b) d from k → Waits w (Of (Assignment b)) d start (MoreItems b d xs ∷ k)
  in_value : {ps : Properties} {n at : List ℕ} {d : ℕ} {from start : List Deep} {k : List Frame} → ((e : Expr) (rest : List Deep) → Spells (An (Assignment false) e) d start rest → Spells (Keys (AndProperty ps n e) at) d from rest) → Waits w OfKeys d from k → Waits w (Of (Assignment false)) d start (Value d ps n at ∷ k)
  in_init : {b : Bool} {ds : Decls} {x : Lexeme} {d : ℕ} {from start : List Deep} {k : List Frame} → ((e : Expr) (rest : List Deep) → Spells (An (Assignment b) e) d start rest → Spells (Vars b (AndDecl ds x.text x.at (SomeExpr e))) d from rest) → Waits w (OfVars b) d from k → Waits w (Of (Assignment b)) d start (VarInit b d ds x ∷ k)
  in_only : {x : Lexeme} {d : ℕ} {start : List Deep} {k : List Frame} → ((e : Expr) (m : Lexeme) (rest : List Deep) → Spells (An Whole e) d start (((sign.Semicolon, m), d) ∷ rest) → Spells (A (StmtAt x.at [] (Only e))) d start rest) → Waits w OfStatement d start k → Waits w (Of Whole) d start (Semi d x ∷ k)
  in_return : {x : Lexeme} {d : ℕ} {start : List Deep} {k : List Frame} → Waits w OfStatement d (((sign.Return, x), d) ∷ start) k → Waits w (Of Whole) d start (ReturnSemi d x ∷ k)
  in_throw : {x : Lexeme} {d : ℕ} {start : List Deep} {k : List Frame} → Waits w OfStatement d (((sign.Throw, x), d) ∷ start) k → Waits w (Of Whole) d start (ThrowSemi d x ∷ k)
  in_over : {v : Bool} {x y : Lexeme} {d : ℕ} {from start : List Deep} {k : List Frame} → ((e : Expr) (ss : Stmts) (q : Lexeme) (us rest : List Deep) → Spells (An Whole e) (suc d) start (((sign.Close, q), suc d) ∷ us) → Spells (Block ss) d us rest → Spells (A (StmtAt x.at (y.at ∷ []) (ForIn v y.text e ss))) d from rest) → Waits w OfStatement d from k → Waits w (Of Whole) (suc d) start (ForOver d x v y ∷ k)
  in_for_test : {x : Lexeme} {i : ForInit} {d : ℕ} {from start : List Deep} {k : List Frame} → ForDone x i d from start → Waits w OfStatement d from k → Waits w (Of Whole) (suc d) start (ForTestEnd d x i ∷ k)
  in_case_test : {cs : Clauses} {x : Lexeme} {d : ℕ} {from start : List Deep} {k : List Frame} → Spells (Cases cs) d from (((sign.Case, x), d) ∷ start) → Waits w OfCases d from k → Waits w (Of Whole) d start (CaseTest d cs ∷ k)
  -- an expression in brackets
  in_test : {x : Lexeme} {d : ℕ} {start : List Deep} {k : List Frame} → Waits w OfTest d (((sign.Open, x), suc d) ∷ start) k → Waits w (Of Whole) (suc d) start k
  in_if : {x : Lexeme} {d : ℕ} {start : List Deep} {k : List Frame} → Waits w OfStatement d (((sign.If, x), d) ∷ start) k → Waits w OfTest d start (IfTest d x ∷ k)
  in_while : {x : Lexeme} {d : ℕ} {start : List Deep} {k : List Frame} → Waits w OfStatement d (((sign.While, x), d) ∷ start) k → Waits w OfTest d start (WhileTest d x ∷ k)
  in_do : {x l : Lexeme} {ss : Stmts} {d : ℕ} {us start : List Deep} {k : List Frame} → Spells (Block ss) d us (((sign.While, l), d) ∷ start) → Waits w OfStatement d (((sign.Do, x), d) ∷ us) k → Waits w OfTest d start (DoTest d x ss ∷ k)
  in_with : {x : Lexeme} {d : ℕ} {start : List Deep} {k : List Frame} → Waits w OfStatement d (((sign.With, x), d) ∷ start) k → Waits w OfTest d start (WithTest d x ∷ k)
  in_switch : {x : Lexeme} {d : ℕ} {start : List Deep} {k : List Frame} → Waits w OfStatement d (((sign.Switch, x), d) ∷ start) k → Waits w OfTest d start (SwitchTest d x ∷ k)
  -- a list of expressions
  in_array : {x : Lexeme} {d : ℕ} {start : List Deep} {k : List Frame} → Waits w (Of Primary) d (((sign.OpenSquare, x), suc d) ∷ start) k → Waits w (OfItems false) (suc d) start (ArrayEnd d x ∷ k)
  in_call : {x : Lexeme} {f : Expr} {d : ℕ} {from start : List Deep} {k : List Frame} → Spells (An LeftHand f) d from (((sign.Open, x), suc d) ∷ start) → Waits w (Of LeftHand) d from k → Waits w (OfItems false) (suc d) start (CallEnd d f ∷ k)
  in_new_list : {x p : Lexeme} {f : Expr} {d : ℕ} {us start : List Deep} {k : List Frame} → Spells (An Operand f) d us (((sign.Open, p), suc d) ∷ start) → Waits w (Of LeftHand) d (((sign.New, x), d) ∷ us) k → Waits w (OfItems false) (suc d) start (NewEnd d x f ∷ k)
  in_for_items : {x p : Lexeme} {d : ℕ} {start : List Deep} {k : List Frame} → Waits w OfStatement d (((sign.For, x), d) ∷ ((sign.Open, p), suc d) ∷ start) k → Waits w (OfItems true) (suc d) start (ForItemsEnd d x ∷ k)
  in_for_steps : {x l : Lexeme} {i : ForInit} {test : OptionalExpr} {d : ℕ} {from us start : List Deep} {k : List Frame} → ForDone x i d from us → Spells (Maybe test) (suc d) us (((sign.Semicolon, l), suc d) ∷ start) → Waits w OfStatement d from k → Waits w (OfItems false) (suc d) start (ForEnd d x i test ∷ k)
  -- keys, names, declared variables, clauses
  in_object : {x : Lexeme} {d : ℕ} {start : List Deep} {k : List Frame} → Waits w (Of Primary) d (((sign.OpenBrace, x), suc d) ∷ start) k → Waits w OfKeys (suc d) start (ObjectEnd d x ∷ k)
  in_names : {x o : Lexeme} {own : Option Lexeme} {d : ℕ} {start : List Deep} {k : List Frame} → Waits w (OfCode x own) d (((sign.Open, o), suc d) ∷ start) k → Waits w OfNames (suc d) start (NamesEnd d x own ∷ k)
  in_vars : {x : Lexeme} {d : ℕ} {start : List Deep} {k : List Frame} → Waits w OfStatement d (((sign.Var, x), d) ∷ start) k → Waits w (OfVars false) d start (VarEnd d x ∷ k)
  in_for_vars : {x p v : Lexeme} {d : ℕ} {start : List Deep} {k : List Frame} → Waits w OfStatement d (((sign.For, x), d) ∷ ((sign.Open, p), suc d) ∷ ((sign.Var, v), suc d) ∷ start) k → Waits w (OfVars true) (suc d) start (ForVarEnd d x ∷ k)
  in_cases : {x p q l : Lexeme} {e : Expr} {d : ℕ} {us start : List Deep} {k : List Frame} → Spells (An Whole e) (suc d) us (((sign.Close, q), suc d) ∷ ((sign.OpenBrace, l), suc d) ∷ start) → Waits w OfStatement d (((sign.Switch, x), d) ∷ ((sign.Open, p), suc d) ∷ us) k → Waits w OfCases (suc d) start (SwitchEnd d x e ∷ k)
  -- a statement
  in_block : {ss : Stmts} {d : ℕ} {from start : List Deep} {k : List Frame} → Spells (Statements ss) d from start → Waits w OfStatements d from k → Waits w OfStatement d start (InBlock d ss ∷ k)
  in_body : {ss : Stmts} {fs : Funs} {d : ℕ} {from start : List Deep} {k : List Frame} → Spells (Body ss fs) d from start → Waits w OfBody d from k → Waits w OfStatement d start (InBody d ss fs ∷ k)
  in_label : {x q : Lexeme} {d : ℕ} {start : List Deep} {k : List Frame} → Waits w OfStatement d (((sign.Name, x), d) ∷ ((sign.Colon, q), d) ∷ start) k → Waits w OfStatement d start (Labelled x ∷ k)
  in_else_if : {x p q l v : Lexeme} {e : Expr} {ss : Stmts} {d : ℕ} {ts us vs : List Deep} {k : List Frame} → Spells (An Whole e) (suc d) ts (((sign.Close, q), suc d) ∷ us) → Spells (Block ss) d us (((sign.Else, l), d) ∷ ((sign.If, v), suc d) ∷ vs) → Waits w OfStatement d (((sign.If, x), d) ∷ ((sign.Open, p), suc d) ∷ ts) k → Waits w OfStatement (suc d) (((sign.If, v), suc d) ∷ vs) (ElseIf x e ss ∷ k)
  -- a block
  in_if_block : {x p q : Lexeme} {e : Expr} {d : ℕ} {us start : List Deep} {k : List Frame} → Spells (An Whole e) (suc d) us (((sign.Close, q), suc d) ∷ start) → Waits w OfStatement d (((sign.If, x), d) ∷ ((sign.Open, p), suc d) ∷ us) k → Waits w OfBlock d start (IfBlock d x e ∷ k)
  in_do_block : {x : Lexeme} {d : ℕ} {start : List Deep} {k : List Frame} → Waits w OfStatement d (((sign.Do, x), d) ∷ start) k → Waits w OfBlock d start (DoBlock d x ∷ k)
  in_try_block : {x : Lexeme} {d : ℕ} {start : List Deep} {k : List Frame} → Waits w OfStatement d (((sign.Try, x), d) ∷ start) k → Waits w OfBlock d start (TryBlock d x ∷ k)
  in_catch_block : {x c p y q : Lexeme} {ss : Stmts} {d : ℕ} {us start : List Deep} {k : List Frame} → Spells (Block ss) d us (((sign.Catch, c), d) ∷ ((sign.Open, p), suc d) ∷ ((sign.Name, y), suc d) ∷ ((sign.Close, q), suc d) ∷ start) → Waits w OfStatement d (((sign.Try, x), d) ∷ us) k → Waits w OfBlock d start (CatchBlock d x ss y ∷ k)
  in_else_block : {x : Lexeme} {e : Expr} {before : Stmts} {d : ℕ} {from start : List Deep} {k : List Frame} → ((ss : Stmts) (rest : List Deep) → Spells (Block ss) d start rest → Spells (A (StmtAt x.at [] (If e before ss))) d from rest) → Waits w OfStatement d from k → Waits w OfBlock d start (ElseBlock x e before ∷ k)
  in_while_block : {x : Lexeme} {e : Expr} {d : ℕ} {from start : List Deep} {k : List Frame} → ((ss : Stmts) (rest : List Deep) → Spells (Block ss) d start rest → Spells (A (StmtAt x.at [] (While e ss))) d from rest) → Waits w OfStatement d from k → Waits w OfBlock d start (WhileBlock x e ∷ k)
  in_with_block : {x : Lexeme} {e : Expr} {d : ℕ} {from start : List Deep} {k : List Frame} → ((ss : Stmts) (rest : List Deep) → Spells (Block ss) d start rest → Spells (A (StmtAt x.at [] (With e ss))) d from rest) → Waits w OfStatement d from k → Waits w OfBlock d start (WithBlock x e ∷ k)
  in_for_block : {x : Lexeme} {i : ForInit} {test : OptionalExpr} {xs : Exprs} {d : ℕ} {from start : List Deep} {k : List Frame} → ((ss : Stmts) (rest : List Deep) → Spells (Block ss) d start rest → Spells (A (StmtAt x.at [] (For i test xs ss))) d from rest) → Waits w OfStatement d from k → Waits w OfBlock d start (ForBlock x i test xs ∷ k)
  in_for_in_block : {x y : Lexeme} {v : Bool} {e : Expr} {d : ℕ} {from start : List Deep} {k : List Frame} → ((ss : Stmts) (rest : List Deep) → Spells (Block ss) d start rest → Spells (A (StmtAt x.at (y.at ∷ []) (ForIn v y.text e ss))) d from rest) → Waits w OfStatement d from k → Waits w OfBlock d start (ForInBlock x v y e ∷ k)
  in_finally_block : {x : Lexeme} {at : List ℕ} {before : Stmts} {c : Catch} {d : ℕ} {from start : List Deep} {k : List Frame} → ((ss : Stmts) (rest : List Deep) → Spells (Block ss) d start rest → Spells (A (StmtAt x.at at (Try before c (SomeBlock ss)))) d from rest) → Waits w OfStatement d from k → Waits w OfBlock d start (FinallyBlock x at before c ∷ k)
  -- statements up to what ends them
  in_braces : {x : Lexeme} {d : ℕ} {start : List Deep} {k : List Frame} → Waits w OfBlock d (((sign.OpenBrace, x), suc d) ∷ start) k → Waits w OfStatements (suc d) start k
  in_case : {cs : Clauses} {test : OptionalExpr} {d : ℕ} {from start : List Deep} {k : List Frame} → ((ss : Stmts) (rest : List Deep) → Spells (Statements ss) d start rest → Spells (Cases (AndClause cs test ss)) d from rest) → Waits w OfCases d from k → Waits w OfStatements d start (InCase d cs test ∷ k)
  in_program : Waits w OfStatements 0 w []
  -- a function
  in_function : {x o c l : Lexeme} {own : Option Lexeme} {params : List Lexeme} {d : ℕ} {us start : List Deep} {k : List Frame} → Spells (Names params) (suc d) us (((sign.Close, c), suc d) ∷ ((sign.OpenBrace, l), suc d) ∷ start) → Waits w (OfCode x own) d (((sign.Open, o), suc d) ∷ us) k → Waits w OfBody (suc d) start (FunEnd x own params ∷ k)
  in_fun_expr : {x : Lexeme} {own : Option Lexeme} {d : ℕ} {from start : List Deep} {k : List Frame} → ((f : Fun) (rest : List Deep) → Spells (Code x own f) d start rest → Spells (An Primary (ExprAt x.at [] (Function f))) d from rest) → Waits w (Of Primary) d from k → Waits w (OfCode x own) d start (FunExpr x ∷ k)
  in_declared : {x y : Lexeme} {ss : Stmts} {fs : Funs} {d : ℕ} {from start : List Deep} {k : List Frame} → Spells (Body ss fs) d from (((sign.Function, x), d) ∷ ((sign.Name, y), d) ∷ start) → Waits w OfBody d from k → Waits w (OfCode x (Some y)) d start (Declare d ss fs ∷ k)

-- what has been taken before `ts` fits the frames
abbrev pub HoldsWants : List Deep → List Frame → List Deep → Type 0
HoldsWants w (PrimaryAt d ∷ k) ts = Waits w (Of Primary) d ts k
HoldsWants w (UnaryAt d ∷ k) ts = Waits w (Of Unary) d ts k
HoldsWants w (DotName d e ∷ k) ts = (l : Level) × (from : List Deep) × ((x : Lexeme) (rest : List Deep) → ts ≡ ((sign.Name, x), d) ∷ rest → Spells (An l (ExprAt (expr_place e) (x.at ∷ []) (Dot e x.text))) d from rest) × ((s : Sign) → Loose l s) × Waits w (Of l) d from k
HoldsWants w (ItemsAt b d ∷ k) ts = Waits w (OfItems b) d ts k
HoldsWants w (FirstKey d ∷ k) ts = Waits w OfKeys d ts k
HoldsWants w (NextKey d ps at ∷ k) ts = (from : List Deep) × ((s : Sign) (x q : Lexeme) (e : Expr) (us rest : List Deep) → is_key s x.text ≡ true → ts ≡ ((s, x), d) ∷ ((sign.Colon, q), d) ∷ us → Spells (An (Assignment false) e) d us rest → Spells (Keys (AndProperty ps x.text e) (at ++ x.at ∷ [])) d from rest) × Waits w OfKeys d from k
HoldsWants w (KeyColon d ps n at ∷ k) ts = (from : List Deep) × ((q : Lexeme) (e : Expr) (us rest : List Deep) → ts ≡ ((sign.Colon, q), d) ∷ us → Spells (An (Assignment false) e) d us rest → Spells (Keys (AndProperty ps n e) at) d from rest) × Waits w OfKeys d from k
HoldsWants w (FunName d x ∷ k) ts = Waits w (Of Primary) d (((sign.Function, x), d) ∷ ts) k
HoldsWants w (FunOpen d x own ∷ k) ts = Waits w (OfCode x own) d ts k
HoldsWants w (FirstName d ∷ k) ts = Waits w OfNames d ts k
HoldsWants w (MoreNames d (y ∷ ys) ∷ k) ts = (from : List Deep) × Spells (Names (y ∷ ys)) d from ts × Waits w OfNames d from k
HoldsWants w (NextName d (y ∷ ys) ∷ k) ts = (from : List Deep) × (p : Lexeme) × Spells (Names (y ∷ ys)) d from (((sign.Comma, p), d) ∷ ts) × Waits w OfNames d from k
HoldsWants w (FunBody d x own ys ∷ k) ts = (us : List Deep) × (o : Lexeme) × (c : Lexeme) × Spells (Names ys) (suc d) us (((sign.Close, c), suc d) ∷ ts) × Waits w (OfCode x own) d (((sign.Open, o), suc d) ∷ us) k
HoldsWants w (DeclName d x ss fs ∷ k) ts = (from : List Deep) × Spells (Body ss fs) d from (((sign.Function, x), d) ∷ ts) × Waits w OfBody d from k
HoldsWants w (Statement d ∷ k) ts = Waits w OfStatement d ts k
HoldsWants w (MaybeLabel d x ∷ k) ts = Waits w OfStatement d (((sign.Name, x), d) ∷ ts) k
HoldsWants w (BlockAt d ∷ k) ts = Waits w OfBlock d ts k
HoldsWants w (Test d ∷ k) ts = Waits w OfTest d ts k
HoldsWants w (Ended d s ∷ k) ts = (from : List Deep) × ((m : Lexeme) (rest : List Deep) → ts ≡ ((sign.Semicolon, m), d) ∷ rest → Spells (A s) d from rest) × Waits w OfStatement d from k
HoldsWants w (VarName b d ds ∷ k) ts = (from : List Deep) × ((x : Lexeme) (v : OptionalExpr) (us rest : List Deep) → ts ≡ ((sign.Name, x), d) ∷ us → Spells (Init b v) d us rest → Spells (Vars b (AndDecl ds x.text x.at v)) d from rest) × Waits w (OfVars b) d from k
HoldsWants w (VarTail b d ds x ∷ k) ts = (from : List Deep) × ((v : OptionalExpr) (rest : List Deep) → Spells (Init b v) d ts rest → Spells (Vars b (AndDecl ds x.text x.at v)) d from rest) × Waits w (OfVars b) d from k
HoldsWants w (AfterIf d x e ss ∷ k) ts = (us vs : List Deep) × (p q : Lexeme) × Spells (An Whole e) (suc d) us (((sign.Close, q), suc d) ∷ vs) × Spells (Block ss) d vs ts × Waits w OfStatement d (((sign.If, x), d) ∷ ((sign.Open, p), suc d) ∷ us) k
HoldsWants w (AfterElse d x e ss ∷ k) ts = (us vs : List Deep) × (p q l : Lexeme) × Spells (An Whole e) (suc d) us (((sign.Close, q), suc d) ∷ vs) × Spells (Block ss) d vs (((sign.Else, l), d) ∷ ts) × Waits w OfStatement d (((sign.If, x), d) ∷ ((sign.Open, p), suc d) ∷ us) k
HoldsWants w (AfterDo d x ss ∷ k) ts = (us : List Deep) × Spells (Block ss) d us ts × Waits w OfStatement d (((sign.Do, x), d) ∷ us) k
HoldsWants w (ForOpen d x ∷ k) ts = Waits w OfStatement d (((sign.For, x), d) ∷ ts) k
HoldsWants w (ForFirst d x ∷ k) ts = (p : Lexeme) × Waits w OfStatement d (((sign.For, x), d) ∷ ((sign.Open, p), suc d) ∷ ts) k
HoldsWants w (ForVar d x ∷ k) ts = (p v : Lexeme) × Waits w OfStatement d (((sign.For, x), d) ∷ ((sign.Open, p), suc d) ∷ ((sign.Var, v), suc d) ∷ ts) k
HoldsWants w (ForVarName d x y ∷ k) ts = (p v : Lexeme) × Waits w OfStatement d (((sign.For, x), d) ∷ ((sign.Open, p), suc d) ∷ ((sign.Var, v), suc d) ∷ ((sign.Name, y), suc d) ∷ ts) k
HoldsWants w (ForName d x y ∷ k) ts = (p : Lexeme) × Waits w OfStatement d (((sign.For, x), d) ∷ ((sign.Open, p), suc d) ∷ ((sign.Name, y), suc d) ∷ ts) k
HoldsWants w (ForTest d x i ∷ k) ts = (from : List Deep) × ForDone x i d from ts × Waits w OfStatement d from k
HoldsWants w (AfterContinue d x ∷ k) ts = Waits w OfStatement d (((sign.Continue, x), d) ∷ ts) k
HoldsWants w (AfterBreak d x ∷ k) ts = Waits w OfStatement d (((sign.Break, x), d) ∷ ts) k
HoldsWants w (AfterReturn d x ∷ k) ts = Waits w OfStatement d (((sign.Return, x), d) ∷ ts) k
HoldsWants w (SwitchOpen d x e ∷ k) ts = (us : List Deep) × (p q : Lexeme) × Spells (An Whole e) (suc d) us (((sign.Close, q), suc d) ∷ ts) × Waits w OfStatement d (((sign.Switch, x), d) ∷ ((sign.Open, p), suc d) ∷ us) k
HoldsWants w (FirstCase d ∷ k) ts = Waits w OfCases d ts k
HoldsWants w (DefaultColon d cs ∷ k) ts = (from : List Deep) × (x : Lexeme) × (has_default cs ≡ false) × Spells (Cases cs) d from (((sign.Default, x), d) ∷ ts) × Waits w OfCases d from k
HoldsWants w (InBlock d ss ∷ k) ts = (from : List Deep) × Spells (Statements ss) d from ts × Waits w OfStatements d from k
HoldsWants w (InBody d ss fs ∷ k) ts = (from : List Deep) × Spells (Body ss fs) d from ts × Waits w OfBody d from k
HoldsWants w (AfterTry d x ss ∷ k) ts = (us : List Deep) × Spells (Block ss) d us ts × Waits w OfStatement d (((sign.Try, x), d) ∷ us) k
HoldsWants w (CatchOpen d x ss ∷ k) ts = (us : List Deep) × (c : Lexeme) × Spells (Block ss) d us (((sign.Catch, c), d) ∷ ts) × Waits w OfStatement d (((sign.Try, x), d) ∷ us) k
HoldsWants w (CatchName d x ss ∷ k) ts = (us : List Deep) × (c p : Lexeme) × Spells (Block ss) d us (((sign.Catch, c), d) ∷ ((sign.Open, p), suc d) ∷ ts) × Waits w OfStatement d (((sign.Try, x), d) ∷ us) k
HoldsWants w (CatchClose d x ss y ∷ k) ts = (us : List Deep) × (c p : Lexeme) × Spells (Block ss) d us (((sign.Catch, c), d) ∷ ((sign.Open, p), suc d) ∷ ((sign.Name, y), suc d) ∷ ts) × Waits w OfStatement d (((sign.Try, x), d) ∷ us) k
HoldsWants w (AfterCatch d x ss y cs ∷ k) ts = (us vs : List Deep) × (c p q : Lexeme) × Spells (Block ss) d us (((sign.Catch, c), d) ∷ ((sign.Open, p), suc d) ∷ ((sign.Name, y), suc d) ∷ ((sign.Close, q), suc d) ∷ vs) × Spells (Block cs) d vs ts × Waits w OfStatement d (((sign.Try, x), d) ∷ us) k
HoldsWants w _ ts = ⊥

abbrev pub Holds : List Deep → State → List Deep → Type 0
Holds w (Wants k) ts = HoldsWants w k ts
Holds w (Gives e k) ts = (l : Level) × (d : ℕ) × (from : List Deep) × Spells (An l e) d from ts × Waits w (Of l) d from k × ((s : Sign) → Loose l s)
Holds w (Did s k) ts = (d : ℕ) × (from : List Deep) × Spells (A s) d from ts × Waits w OfStatement d from k
Holds w (Done p) ts = (end : Lexeme) × Spells (Statements p) 0 w (((sign.End, end), 0) ∷ ts)
