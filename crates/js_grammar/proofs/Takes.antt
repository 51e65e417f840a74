-- What spells a program is taken by the machine, token by token, and gives that tree.
use Rattle.std.proofs.Common.{◌≡◌, ℕ, suc, ◌≤◌, List, [], ◌∷◌, Bool, true, false, Option, Some, None, refl, ap, sym, subst, ◌∙◌, nat_lt, arith}
use Rattle.std.proofs.lemmas.Bool.Decides.{nat_tests}
use Rattle.js_grammar.specs.declared.Sign.{Sign}
use Rattle.js_grammar.specs.declared.Sign.TheVariants as sign
use Rattle.js_grammar.specs.declared.Infix.{Infix}
use Rattle.js_grammar.specs.Tables.{infix_of, level_of, step_of, assign_of, is_tail, opens_other}
use Rattle.js_grammar.specs.Grammar.{Lexeme, Token, Deep, Level, Primary, Operand, LeftHand, Unary, Operators, Assignment, Whole, Thing, An, Items, Keys, Maybe, Names, Code, Init, Vars, A, Statements, Block, Cases, Body, goes_on}
use Rattle.js_grammar.specs.Machine as machine
use Rattle.js_grammar.specs.Machine.{Frame, State, Wants, Gives, Did, Step, step, finished}
use Rattle.js_grammar.specs.Machine.{PrimaryAt, UnaryAt, ItemsAt, FirstKey, FunName, FunOpen, FirstName, MoreNames, Statement, MaybeLabel, BlockAt, VarName, VarTail, AfterIf, ForFirst, ForVar, ForVarName, ForName, ForTest, AfterReturn, FirstCase, AfterCatch, Tail, NewTail, Target, Rest, Choice, Commas, MoreItems, Value, Semi, ReturnSemi, VarInit, ForTestEnd, ForItemsEnd, ForVarEnd, InBlock, InBody, Labelled, ElseIf, InCase, FunExpr}
use Rattle.js_tree.specs.declared.nodes.StepOp.{StepOp}
use Rattle.js_tree.specs.declared.nodes.AssignOp.{AssignOp}
use Rattle.js_tree.specs.Plain.{Expr, ExprAt, Name, New, NoExprs, AndExpr, NoExpr, SomeExpr, NoProperties, AndProperty, Decls, NoDecls, AndDecl, ForInit, Stmt, StmtAt, If, Try, Label, Stmts, NoStmts, AndStmt, NoBlock, CatchAs, NoClauses, AndClause, Funs, NoFuns}
use Rattle.exact_refusals.specs.Judge as judge

-- the machine takes all these tokens, at these depths, and then has the program
abbrev pub Takes : State → List Deep → Stmts → Type 0
Takes st ts p = judge.Takes step finished st ts p

-- a sign goes on with a left-hand form
abbrev pub binds : Sign → Bool
binds sign.Point = true
binds sign.OpenSquare = true
binds sign.Open = true
binds sign.PlusPlus = true
binds sign.MinusMinus = true
binds sign.Assign = true
binds sign.PlusAssign = true
binds sign.MinusAssign = true
binds sign.StarAssign = true
binds sign.SlashAssign = true
binds sign.PercentAssign = true
binds sign.ShiftLeftAssign = true
binds sign.ShiftRightAssign = true
binds sign.ShiftRightZeroAssign = true
binds sign.BitAndAssign = true
binds sign.BitOrAssign = true
binds sign.BitXorAssign = true
binds _ = false

abbrev pub asks : Sign → Bool
asks sign.Question = true
asks _ = false

-- what may not follow, so that an expression of the level is all there
abbrev pub Calm : Level → List Deep → Type 0
Calm Unary (t ∷ ts) = binds t.0.0 ≡ false
Calm (Operators b n) (t ∷ ts) = (binds t.0.0 ≡ false) × ((o : Infix) → infix_of t.0.0 b ≡ Some o → n ≤ suc (level_of o))
Calm (Assignment b) (t ∷ ts) = (binds t.0.0 ≡ false) × (infix_of t.0.0 b ≡ None) × (asks t.0.0 ≡ false)
Calm _ _ = Unit {0}

-- ## Frames that a token passes by

pub past_tail : (d : ℕ) (e : Expr) (k : List Frame) (other : Step) (t : Token) → is_tail t.0 ≡ false → machine.tail d e k other t ≡ other
past_tail d e k other (sign.Point, x) h = cc
past_tail d e k other (sign.OpenSquare, x) h = cc
past_tail d e k other (sign.Open, x) h = cc
past_tail d e k other (_, x) h = refl

pub past_new_tail : (d : ℕ) (w : Lexeme) (e : Expr) (k : List Frame) (other : Step) (t : Token) → is_tail t.0 ≡ false → machine.new_tail d w e k other t ≡ other
past_new_tail d w e k other (sign.Point, x) h = cc
past_new_tail d w e k other (sign.OpenSquare, x) h = cc
past_new_tail d w e k other (sign.Open, x) h = cc
past_new_tail d w e k other (_, x) h = refl

pub unbound_tail : (s : Sign) → binds s ≡ false → is_tail s ≡ false
unbound_tail sign.Point h = h
unbound_tail sign.OpenSquare h = h
unbound_tail sign.Open h = h
unbound_tail _ h = refl

pub step_tail : (s : Sign) (o : StepOp) → step_of s ≡ Some o → is_tail s ≡ false
step_tail sign.Point o h = cc
step_tail sign.OpenSquare o h = cc
step_tail sign.Open o h = cc
step_tail _ o h = refl

pub assign_tail : (s : Sign) (o : AssignOp) → assign_of s ≡ Some o → is_tail s ≡ false
assign_tail sign.Point o h = cc
assign_tail sign.OpenSquare o h = cc
assign_tail sign.Open o h = cc
assign_tail _ o h = refl

pub assign_step : (s : Sign) (o : AssignOp) → assign_of s ≡ Some o → step_of s ≡ None
assign_step sign.PlusPlus o h = cc
assign_step sign.MinusMinus o h = cc
assign_step _ o h = refl

pub past_target : (d : ℕ) (e : Expr) (k : List Frame) (other : Step) (s : Sign) → binds s ≡ false → machine.step_or (step_of s) d e k (machine.assign_or (assign_of s) d e k other) ≡ other
past_target d e k other sign.PlusPlus h = cc
past_target d e k other sign.MinusMinus h = cc
past_target d e k other sign.Assign h = cc
past_target d e k other sign.PlusAssign h = cc
past_target d e k other sign.MinusAssign h = cc
past_target d e k other sign.StarAssign h = cc
past_target d e k other sign.SlashAssign h = cc
past_target d e k other sign.PercentAssign h = cc
past_target d e k other sign.ShiftLeftAssign h = cc
past_target d e k other sign.ShiftRightAssign h = cc
past_target d e k other sign.ShiftRightZeroAssign h = cc
past_target d e k other sign.BitAndAssign h = cc
past_target d e k other sign.BitOrAssign h = cc
past_target d e k other sign.BitXorAssign h = cc
past_target d e k other _ h = refl

pub infix_unbound : (s : Sign) (b : Bool) (o : Infix) → infix_of s b ≡ Some o → binds s ≡ false
infix_unbound sign.Point b o h = cc
infix_unbound sign.OpenSquare b o h = cc
infix_unbound sign.Open b o h = cc
infix_unbound sign.PlusPlus b o h = cc
infix_unbound sign.MinusMinus b o h = cc
infix_unbound sign.Assign b o h = cc
infix_unbound sign.PlusAssign b o h = cc
infix_unbound sign.MinusAssign b o h = cc
infix_unbound sign.StarAssign b o h = cc
infix_unbound sign.SlashAssign b o h = cc
infix_unbound sign.PercentAssign b o h = cc
infix_unbound sign.ShiftLeftAssign b o h = cc
infix_unbound sign.ShiftRightAssign b o h = cc
infix_unbound sign.ShiftRightZeroAssign b o h = cc
infix_unbound sign.BitAndAssign b o h = cc
infix_unbound sign.BitOrAssign b o h = cc
infix_unbound sign.BitXorAssign b o h = cc
infix_unbound _ b o h = refl

pub past_infix : (r : Option Infix) (b : Bool) (n d : ℕ) (e : Expr) (k : List Frame) (other : Step) → ((o : Infix) → r ≡ Some o → n ≤ level_of o) → machine.infix_or r b n d e k other ≡ other
past_infix None b n d e k other h = refl
past_infix (Some o) b n d e k other h =
    let le : n ≤ level_of o = h o refl in
    let no : nat_lt (level_of o) n ≡ false = grind (arith, nat_tests) in
    rw no refl

pub past_choice : (b : Bool) (d : ℕ) (e : Expr) (k : List Frame) (other : Step) (s : Sign) → asks s ≡ false → machine.choice b d e k other s ≡ other
past_choice b d e k other sign.Question h = cc
past_choice b d e k other _ h = refl

module _ (p : Stmts) where
  -- an expression that is all there
  pub close_left : (ts : List Deep) (e : Expr) (d : ℕ) (k : List Frame) → Calm Unary ts → Takes (Gives e k) ts p → Takes (Gives e (Tail d ∷ Target d ∷ k)) ts p
  close_left [] e d k q h = cc
  close_left (t ∷ ts) e d k q h = (h.0, past_tail d e (Target d ∷ k) _ t.0 (unbound_tail t.0.0 q) ∙ past_target d e k _ t.0.0 q ∙ h.1, h.2)

  pub close_rest : (ts : List Deep) (e : Expr) (b : Bool) (n d : ℕ) (k : List Frame) → Calm (Operators b (suc n)) ts → Takes (Gives e k) ts p → Takes (Gives e (Rest b n d ∷ k)) ts p
  close_rest [] e b n d k q h = cc
  close_rest (t ∷ ts) e b n d k q h = (h.0, past_infix (infix_of t.0.0 b) b n d e k _ (λ o is. let le : suc n ≤ suc (level_of o) = q.1 o is in omega arith) ∙ h.1, h.2)

  pub close_operators : (ts : List Deep) (e : Expr) (b : Bool) (d : ℕ) (k : List Frame) → Calm (Assignment b) ts → Takes (Gives e k) ts p → Takes (Gives e (Rest b 10 d ∷ Choice b d ∷ k)) ts p
  close_operators [] e b d k q h = cc
  close_operators (t ∷ ts) e b d k q h = (h.0, past_infix (infix_of t.0.0 b) b 10 d e (Choice b d ∷ k) _ (λ o is. let none : None ≡ Some o = sym (q.1) ∙ is in cc) ∙ past_choice b d e k _ t.0.0 (q.2) ∙ h.1, h.2)

  pub close_new : (ts : List Deep) (e : Expr) (d : ℕ) (w : Lexeme) (k : List Frame) → goes_on ts ≡ false → Takes (Gives (ExprAt w.at [] (New e NoExprs)) k) ts p → Takes (Gives e (NewTail d w ∷ k)) ts p
  close_new [] e d w k q h = cc
  close_new (t ∷ ts) e d w k q h = (h.0, past_new_tail d w e k _ t.0 q ∙ h.1, h.2)

  -- a frame that passes on, whatever comes
  pub passes : (ts : List Deep) (f : Frame) (e made : Expr) (k : List Frame) → ((t : Token) → step (Gives e (f ∷ k)) t ≡ step (Gives made k) t) → Takes (Gives made k) ts p → Takes (Gives e (f ∷ k)) ts p
  passes [] f e made k same h = cc
  passes (t ∷ ts) f e made k same h = (h.0, same t.0 ∙ h.1, h.2)

  -- ## What begins as something else does

  pub begins_left : (d : ℕ) (k : List Frame) (ts : List Deep) → Takes (Wants (PrimaryAt d ∷ Tail d ∷ Target d ∷ k)) ts p → Takes (Wants (UnaryAt d ∷ k)) ts p
  begins_left d k [] h = cc
  begins_left d k (((sign.Delete, x), n) ∷ ts) h = cc
  begins_left d k (((sign.Void, x), n) ∷ ts) h = cc
  begins_left d k (((sign.TypeOf, x), n) ∷ ts) h = cc
  begins_left d k (((sign.Plus, x), n) ∷ ts) h = cc
  begins_left d k (((sign.Minus, x), n) ∷ ts) h = cc
  begins_left d k (((sign.BitNot, x), n) ∷ ts) h = cc
  begins_left d k (((sign.Not, x), n) ∷ ts) h = cc
  begins_left d k (((sign.PlusPlus, x), n) ∷ ts) h = cc
  begins_left d k (((sign.MinusMinus, x), n) ∷ ts) h = cc
  begins_left d k (((sign.New, x), n) ∷ ts) h = cc
  begins_left d k (t ∷ ts) h = h

  pub begins_items : (b : Bool) (d : ℕ) (k : List Frame) (ts : List Deep) → Takes (Wants (machine.expr b d (MoreItems b d NoExprs ∷ k))) ts p → Takes (Wants (ItemsAt b d ∷ k)) ts p
  begins_items b d k [] h = cc
  begins_items b d k (((sign.Close, x), n) ∷ ts) h = cc
  begins_items b d k (((sign.CloseSquare, x), n) ∷ ts) h = cc
  begins_items b d k (((sign.Semicolon, x), n) ∷ ts) h = cc
  begins_items b d k (t ∷ ts) h = h

  pub begins_unnamed : (d : ℕ) (w : Lexeme) (k : List Frame) (ts : List Deep) → Takes (Wants (FunOpen d w None ∷ FunExpr w ∷ k)) ts p → Takes (Wants (FunName d w ∷ k)) ts p
  begins_unnamed d w k [] h = cc
  begins_unnamed d w k (((sign.Name, x), n) ∷ ts) h = cc
  begins_unnamed d w k (t ∷ ts) h = h

  pub begins_in_block : (d : ℕ) (ss : Stmts) (k : List Frame) (ts : List Deep) → Takes (Wants (Statement d ∷ InBlock d ss ∷ k)) ts p → Takes (Wants (InBlock d ss ∷ k)) ts p
  begins_in_block d ss k [] h = cc
  begins_in_block d ss k (((sign.End, x), n) ∷ ts) h = cc
  begins_in_block d ss k (((sign.CloseBrace, x), n) ∷ ts) h = cc
  begins_in_block d ss k (((sign.Case, x), n) ∷ ts) h = cc
  begins_in_block d ss k (((sign.Default, x), n) ∷ ts) h = cc
  begins_in_block d ss k (t ∷ ts) h = h

  pub begins_in_body : (d : ℕ) (ss : Stmts) (fs : Funs) (k : List Frame) (ts : List Deep) → Takes (Wants (Statement d ∷ InBody d ss fs ∷ k)) ts p → Takes (Wants (InBody d ss fs ∷ k)) ts p
  begins_in_body d ss fs k [] h = cc
  begins_in_body d ss fs k (((sign.CloseBrace, x), n) ∷ ts) h = cc
  begins_in_body d ss fs k (((sign.Function, x), n) ∷ ts) h = cc
  begins_in_body d ss fs k (t ∷ ts) h = h

  pub did_in_block : (d : ℕ) (ss : Stmts) (s : Stmt) (k : List Frame) (ts : List Deep) → Takes (Wants (InBlock d (AndStmt ss s) ∷ k)) ts p → Takes (Did s (InBlock d ss ∷ k)) ts p
  did_in_block d ss s k [] h = cc
  did_in_block d ss s k (t ∷ ts) h = h

  pub did_in_body : (d : ℕ) (ss : Stmts) (fs : Funs) (s : Stmt) (k : List Frame) (ts : List Deep) → Takes (Wants (InBody d (AndStmt ss s) fs ∷ k)) ts p → Takes (Did s (InBody d ss fs ∷ k)) ts p
  did_in_body d ss fs s k [] h = cc
  did_in_body d ss fs s k (t ∷ ts) h = h

  pub begins_name : (d : ℕ) (x : Lexeme) (k : List Frame) (ts : List Deep) → Takes (Gives (ExprAt x.at [] (Name x.text)) (machine.tails false d (Commas d ∷ Semi d x ∷ k))) ts p → Takes (Wants (MaybeLabel d x ∷ k)) ts p
  begins_name d x k [] h = cc
  begins_name d x k (((sign.Colon, q), n) ∷ ts) h = cc
  begins_name d x k (t ∷ ts) h = h

  pub begins_for_name : (d : ℕ) (w x : Lexeme) (k : List Frame) (ts : List Deep) → Takes (Gives (ExprAt x.at [] (Name x.text)) (machine.tails true (suc d) (MoreItems true (suc d) NoExprs ∷ ForItemsEnd d w ∷ k))) ts p → Takes (Wants (ForName d w x ∷ k)) ts p
  begins_for_name d w x k [] h = cc
  begins_for_name d w x k (((sign.In, q), n) ∷ ts) h = cc
  begins_for_name d w x k (t ∷ ts) h = h

  pub begins_for_var : (d : ℕ) (w x : Lexeme) (k : List Frame) (ts : List Deep) → Takes (Wants (VarTail true (suc d) NoDecls x ∷ ForVarEnd d w ∷ k)) ts p → Takes (Wants (ForVarName d w x ∷ k)) ts p
  begins_for_var d w x k [] h = cc
  begins_for_var d w x k (((sign.In, q), n) ∷ ts) h = cc
  begins_for_var d w x k (t ∷ ts) h = h

  -- the same token at the same depth, and what comes of it
  pub one_step : {a b : ℕ} {x y : State} → ◌≡◌ {A = Step} (Some (a, x)) (Some (b, y)) → (a ≡ b) × (x ≡ y)
  one_step {a} {b} {x} {y} e = let pair : ◌≡◌ {A = ℕ × State} (a, x) (b, y) = cc in (ap (λ z. z.0) pair, ap (λ z. z.1) pair)

  pub never : {a : ℕ} {x : State} → ◌≡◌ {A = Step} None (Some (a, x)) → ⊥
  never h = cc

  -- a name that leads to one state leads to the other
  pub turn_name : (st other : State) (d n : ℕ) (a b : State) (x : Lexeme) (ts : List Deep) → step st (sign.Name, x) ≡ Some (d, a) → step other (sign.Name, x) ≡ Some (d, b) → (Takes a ts p → Takes b ts p) → Takes st (((sign.Name, x), n) ∷ ts) p → Takes other (((sign.Name, x), n) ∷ ts) p
  turn_name st other d n a b x ts first second turn h =
      let same = one_step (sym first ∙ h.1) in
      let depth : d ≡ n = same.0 in
      let next : a ≡ h.0 = same.1 in
      (b, subst (λ y. step other (sign.Name, x) ≡ Some (y, b)) depth second, turn (subst (λ y. Takes y ts p) (sym next) (h.2)))

  pub begins_only : (d n : ℕ) (s : Sign) (x : Lexeme) (k : List Frame) (ts : List Deep) → opens_other s ≡ false → Takes (Wants (machine.whole d (Semi d x ∷ k))) (((s, x), n) ∷ ts) p → Takes (Wants (Statement d ∷ k)) (((s, x), n) ∷ ts) p
  begins_only d n sign.Name x k ts fit h = turn_name (Wants (machine.whole d (Semi d x ∷ k))) (Wants (Statement d ∷ k)) d n (Gives (ExprAt x.at [] (Name x.text)) (machine.tails false d (Commas d ∷ Semi d x ∷ k))) (Wants (MaybeLabel d x ∷ k)) x ts refl refl (begins_name d x k ts) h
  begins_only d n sign.OpenBrace x k ts fit h = cc
  begins_only d n sign.Function x k ts fit h = cc
  begins_only d n sign.Var x k ts fit h = cc
  begins_only d n sign.If x k ts fit h = cc
  begins_only d n sign.While x k ts fit h = cc
  begins_only d n sign.Do x k ts fit h = cc
  begins_only d n sign.For x k ts fit h = cc
  begins_only d n sign.Continue x k ts fit h = cc
  begins_only d n sign.Break x k ts fit h = cc
  begins_only d n sign.Return x k ts fit h = cc
  begins_only d n sign.Throw x k ts fit h = cc
  begins_only d n sign.With x k ts fit h = cc
  begins_only d n sign.Switch x k ts fit h = cc
  begins_only d n sign.Try x k ts fit h = cc
  begins_only d n s x k ts fit h = h

  pub begins_for_items : (d : ℕ) (w : Lexeme) (k : List Frame) (ts : List Deep) → Takes (Wants (ItemsAt true (suc d) ∷ ForItemsEnd d w ∷ k)) ts p → Takes (Wants (ForFirst d w ∷ k)) ts p
  begins_for_items d w k [] h = cc
  begins_for_items d w k (((sign.Name, x), n) ∷ ts) h = turn_name (Wants (ItemsAt true (suc d) ∷ ForItemsEnd d w ∷ k)) (Wants (ForFirst d w ∷ k)) (suc d) n (Gives (ExprAt x.at [] (Name x.text)) (machine.tails true (suc d) (MoreItems true (suc d) NoExprs ∷ ForItemsEnd d w ∷ k))) (Wants (ForName d w x ∷ k)) x ts refl refl (begins_for_name d w x k ts) h
  begins_for_items d w k (((sign.Var, x), n) ∷ ts) h = cc
  begins_for_items d w k (t ∷ ts) h = h

  pub begins_for_vars : (d : ℕ) (w : Lexeme) (k : List Frame) (ts : List Deep) → Takes (Wants (VarName true (suc d) NoDecls ∷ ForVarEnd d w ∷ k)) ts p → Takes (Wants (ForVar d w ∷ k)) ts p
  begins_for_vars d w k [] h = cc
  begins_for_vars d w k (((sign.Name, x), n) ∷ ts) h = turn_name (Wants (VarName true (suc d) NoDecls ∷ ForVarEnd d w ∷ k)) (Wants (ForVar d w ∷ k)) (suc d) n (Wants (VarTail true (suc d) NoDecls x ∷ ForVarEnd d w ∷ k)) (Wants (ForVarName d w x ∷ k)) x ts refl refl (begins_for_var d w x k ts) h
  begins_for_vars d w k (((_, x), n) ∷ ts) h = cc

  pub begins_for_test : (d : ℕ) (w : Lexeme) (i : ForInit) (k : List Frame) (ts : List Deep) → Takes (Wants (machine.whole (suc d) (ForTestEnd d w i ∷ k))) ts p → Takes (Wants (ForTest d w i ∷ k)) ts p
  begins_for_test d w i k [] h = cc
  begins_for_test d w i k (((sign.Semicolon, x), n) ∷ ts) h = cc
  begins_for_test d w i k (t ∷ ts) h = h

  pub begins_return : (d : ℕ) (w : Lexeme) (k : List Frame) (ts : List Deep) → Takes (Wants (machine.whole d (ReturnSemi d w ∷ k))) ts p → Takes (Wants (AfterReturn d w ∷ k)) ts p
  begins_return d w k [] h = cc
  begins_return d w k (((sign.Semicolon, x), n) ∷ ts) h = cc
  begins_return d w k (t ∷ ts) h = h

  -- no statement goes on with `else` or `finally`, once it is all there
  pub no_else : (k : List Frame) (s : Stmt) (x : Lexeme) → machine.after_statement s k (sign.Else, x) ≡ None
  no_else [] s x = refl
  no_else (InBlock d ss ∷ k) s x = refl
  no_else (InBody d ss fs ∷ k) s x = refl
  no_else (Labelled y ∷ k) s x = no_else k _ x
  no_else (ElseIf w e ss ∷ k) s x = no_else k _ x
  no_else (_ ∷ k) s x = refl

  pub no_finally : (k : List Frame) (s : Stmt) (x : Lexeme) → machine.after_statement s k (sign.Finally, x) ≡ None
  no_finally [] s x = refl
  no_finally (InBlock d ss ∷ k) s x = refl
  no_finally (InBody d ss fs ∷ k) s x = refl
  no_finally (Labelled y ∷ k) s x = no_finally k _ x
  no_finally (ElseIf w e ss ∷ k) s x = no_finally k _ x
  no_finally (_ ∷ k) s x = refl

  pub ends_if : (d : ℕ) (w : Lexeme) (e : Expr) (ss : Stmts) (k : List Frame) (ts : List Deep) → Takes (Did (StmtAt w.at [] (If e ss NoStmts)) k) ts p → Takes (Wants (AfterIf d w e ss ∷ k)) ts p
  ends_if d w e ss k [] h = cc
  ends_if d w e ss k (((sign.Else, x), n) ∷ ts) h = absurd (never (sym (no_else k _ x) ∙ h.1))
  ends_if d w e ss k (t ∷ ts) h = h

  pub ends_catch : (d : ℕ) (w : Lexeme) (ss : Stmts) (x : Lexeme) (cs : Stmts) (k : List Frame) (ts : List Deep) → Takes (Did (StmtAt w.at (x.at ∷ []) (Try ss (CatchAs x.text cs) NoBlock)) k) ts p → Takes (Wants (AfterCatch d w ss x cs ∷ k)) ts p
  ends_catch d w ss x cs k [] h = cc
  ends_catch d w ss x cs k (((sign.Finally, y), n) ∷ ts) h = absurd (never (sym (no_finally k _ y) ∙ h.1))
  ends_catch d w ss x cs k (t ∷ ts) h = h

  pub ends_label : (x : Lexeme) (s : Stmt) (k : List Frame) (ts : List Deep) → Takes (Did (StmtAt x.at (x.at ∷ []) (Label x.text s)) k) ts p → Takes (Did s (Labelled x ∷ k)) ts p
  ends_label x s k [] h = cc
  ends_label x s k (t ∷ ts) h = h

  pub ends_else_if : (w : Lexeme) (e : Expr) (ss : Stmts) (s : Stmt) (k : List Frame) (ts : List Deep) → Takes (Did (StmtAt w.at [] (If e ss (AndStmt NoStmts s))) k) ts p → Takes (Did s (ElseIf w e ss ∷ k)) ts p
  ends_else_if w e ss s k [] h = cc
  ends_else_if w e ss s k (t ∷ ts) h = h

-- ## What the rows lead to

-- From before the thing, the machine takes what it takes from after it.
abbrev pub Leads : Thing → ℕ → List Deep → List Deep → Type 0
Leads (An Primary e) d ts rest = (k : List Frame) (p : Stmts) → Takes (Gives e k) rest p → Takes (Wants (PrimaryAt d ∷ k)) ts p
Leads (An Operand e) d ts rest = (w : Lexeme) (k : List Frame) (p : Stmts) → Takes (Gives e (NewTail d w ∷ k)) rest p → Takes (Wants (PrimaryAt d ∷ NewTail d w ∷ k)) ts p
Leads (An LeftHand e) d ts rest = (k : List Frame) (p : Stmts) → Takes (Gives e (Tail d ∷ Target d ∷ k)) rest p → Takes (Wants (UnaryAt d ∷ k)) ts p
Leads (An Unary e) d ts rest = (k : List Frame) (p : Stmts) → Calm Unary rest → Takes (Gives e k) rest p → Takes (Wants (UnaryAt d ∷ k)) ts p
Leads (An (Operators b n) e) d ts rest = (m : ℕ) (k : List Frame) (p : Stmts) → n ≤ m → Calm (Operators b n) rest → Takes (Gives e (Rest b m d ∷ k)) rest p → Takes (Wants (UnaryAt d ∷ Rest b m d ∷ k)) ts p
Leads (An (Assignment b) e) d ts rest = (k : List Frame) (p : Stmts) → Calm (Assignment b) rest → Takes (Gives e k) rest p → Takes (Wants (machine.expr b d k)) ts p
Leads (An Whole e) d ts rest = (k : List Frame) (p : Stmts) → Calm (Assignment false) rest → Takes (Gives e (Commas d ∷ k)) rest p → Takes (Wants (machine.whole d k)) ts p
Leads (Items b NoExprs) d ts rest = (k : List Frame) (p : Stmts) → Takes (Wants (ItemsAt b d ∷ k)) rest p → Takes (Wants (ItemsAt b d ∷ k)) ts p
Leads (Items b (AndExpr xs e)) d ts rest = (k : List Frame) (p : Stmts) → Calm (Assignment b) rest → Takes (Gives e (MoreItems b d xs ∷ k)) rest p → Takes (Wants (ItemsAt b d ∷ k)) ts p
Leads (Keys NoProperties []) d ts rest = (k : List Frame) (p : Stmts) → Takes (Wants (FirstKey d ∷ k)) rest p → Takes (Wants (FirstKey d ∷ k)) ts p
Leads (Keys NoProperties (a ∷ at)) d ts rest = ⊥
Leads (Keys (AndProperty ps n v) at) d ts rest = (k : List Frame) (p : Stmts) → Calm (Assignment false) rest → Takes (Gives v (Value d ps n at ∷ k)) rest p → Takes (Wants (FirstKey d ∷ k)) ts p
Leads (Maybe NoExpr) d ts rest = rest ≡ ts
Leads (Maybe (SomeExpr e)) d ts rest = (k : List Frame) (p : Stmts) → Calm (Assignment false) rest → Takes (Gives e (Commas d ∷ k)) rest p → Takes (Wants (machine.whole d k)) ts p
Leads (Names []) d ts rest = (k : List Frame) (p : Stmts) → Takes (Wants (FirstName d ∷ k)) rest p → Takes (Wants (FirstName d ∷ k)) ts p
Leads (Names (x ∷ xs)) d ts rest = (k : List Frame) (p : Stmts) → Takes (Wants (MoreNames d (x ∷ xs) ∷ k)) rest p → Takes (Wants (FirstName d ∷ k)) ts p
Leads (Code w own f) d ts rest = (k : List Frame) (p : Stmts) (next : State) → machine.has_function (suc d) f k ≡ Some (suc d, next) → Takes next rest p → Takes (Wants (FunOpen d w own ∷ k)) ts p
Leads (Init b NoExpr) d ts rest = (ds : Decls) (x : Lexeme) (k : List Frame) (p : Stmts) → Takes (Wants (VarTail b d ds x ∷ k)) rest p → Takes (Wants (VarTail b d ds x ∷ k)) ts p
Leads (Init b (SomeExpr e)) d ts rest = (ds : Decls) (x : Lexeme) (k : List Frame) (p : Stmts) → Calm (Assignment b) rest → Takes (Gives e (VarInit b d ds x ∷ k)) rest p → Takes (Wants (VarTail b d ds x ∷ k)) ts p
Leads (Vars b NoDecls) d ts rest = ⊥
Leads (Vars b (AndDecl ds n at NoExpr)) d ts rest = (k : List Frame) (p : Stmts) → Takes (Wants (VarTail b d ds (record { text = n; at = at }) ∷ k)) rest p → Takes (Wants (VarName b d NoDecls ∷ k)) ts p
Leads (Vars b (AndDecl ds n at (SomeExpr e))) d ts rest = (k : List Frame) (p : Stmts) → Calm (Assignment b) rest → Takes (Gives e (VarInit b d ds (record { text = n; at = at }) ∷ k)) rest p → Takes (Wants (VarName b d NoDecls ∷ k)) ts p
Leads (A s) d ts rest = (k : List Frame) (p : Stmts) → Takes (Did s k) rest p → Takes (Wants (Statement d ∷ k)) ts p
Leads (Statements ss) d ts rest = (k : List Frame) (p : Stmts) → Takes (Wants (InBlock d ss ∷ k)) rest p → Takes (Wants (InBlock d NoStmts ∷ k)) ts p
Leads (Block ss) d ts rest = (k : List Frame) (p : Stmts) (next : State) → machine.case_ends ss k sign.CloseBrace (machine.ends (suc d) ss k) ≡ Some (suc d, next) → Takes next rest p → Takes (Wants (BlockAt d ∷ k)) ts p
Leads (Cases NoClauses) d ts rest = (k : List Frame) (p : Stmts) → Takes (Wants (FirstCase d ∷ k)) rest p → Takes (Wants (FirstCase d ∷ k)) ts p
Leads (Cases (AndClause cs test ss)) d ts rest = (k : List Frame) (p : Stmts) → Takes (Wants (InBlock d ss ∷ InCase d cs test ∷ k)) rest p → Takes (Wants (FirstCase d ∷ k)) ts p
Leads (Body ss fs) d ts rest = (k : List Frame) (p : Stmts) → Takes (Wants (InBody d ss fs ∷ k)) rest p → Takes (Wants (InBody d NoStmts NoFuns ∷ k)) ts p
