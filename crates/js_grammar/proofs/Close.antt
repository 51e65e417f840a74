-- Whatever the machine has taken can be led to a program.
use Rattle.std.proofs.Common.{◌≡◌, ℕ, suc, List, [], ◌∷◌, ◌++◌, Bool, true, false, Option, Some, None, refl, sym, subst, ◌∙◌}
use Rattle.js_grammar.specs.declared.Sign.{Sign}
use Rattle.js_grammar.specs.declared.Sign.TheVariants as sign
use Rattle.js_grammar.specs.Tables.{infix_of, joined, prefixed}
use Rattle.js_grammar.specs.Grammar.{Lexeme, Deep, fun_of}
use Rattle.js_grammar.specs.Grammar.Spells.{no_statement}
use Rattle.js_grammar.specs.Machine as machine
use Rattle.js_grammar.specs.Machine.{Frame, State, Wants, Gives, Did, Done, Step, step, begin, finished}
use Rattle.js_grammar.specs.Machine.{PrimaryAt, UnaryAt, DotName, ItemsAt, FirstKey, NextKey, KeyColon, FunName, FunOpen, FirstName, MoreNames, NextName, FunBody, DeclName, Statement, MaybeLabel, BlockAt, Test, Ended, VarName, VarTail, AfterIf, AfterElse, AfterDo, ForOpen, ForFirst, ForVar, ForVarName, ForName, ForTest, AfterContinue, AfterBreak, AfterReturn, SwitchOpen, FirstCase, DefaultColon, AfterTry, CatchOpen, CatchName, CatchClose, AfterCatch, Tail, NewTail, Target, Prefixed, Rest, Right, Choice, Third, Assigned, Commas, CommaRight, Value, InBlock, InBody}
use Rattle.js_tree.specs.Plain.{Expr, Exprs, ExprAt, Name, Array, Object, Function, Dot, Sub, Call, New, Cond, Assign, Comma, NoExprs, AndExpr, NoExpr, SomeExpr, Properties, NoProperties, AndProperty, Decls, NoDecls, AndDecl, ForInit, DeclsFirst, ExprsFirst, Stmt, StmtAt, Var, Only, If, While, DoWhile, For, ForIn, Continue, Break, Return, Throw, With, Switch, Try, Label, Stmts, NoStmts, AndStmt, NoBlock, SomeBlock, NoCatch, CatchAs, Clauses, NoClauses, AndClause, Fun, Funs, NoFuns, AndFun, expr_place}
use Rattle.exact_refusals.specs.Judge as judge
use Rattle.js_grammar.proofs.Waits.{Need, Of, OfItems, OfKeys, OfNames, OfVars, OfCode, OfBody, OfTest, OfBlock, OfStatement, OfStatements, OfCases, Waits, HoldsWants, Holds, as_operand, as_left_hand, in_tail, in_new, in_target, in_prefix, in_rest, in_right, in_choice, in_second, in_third, in_assigned, in_commas, in_comma, in_paren, in_index, in_items, in_value, in_init, in_only, in_return, in_throw, in_over, in_for_test, in_case_test, in_test, in_if, in_while, in_do, in_with, in_switch, in_array, in_call, in_new_list, in_for_items, in_for_steps, in_object, in_names, in_vars, in_for_vars, in_cases, in_block, in_body, in_label, in_else_if, in_if_block, in_do_block, in_try_block, in_catch_block, in_else_block, in_while_block, in_with_block, in_for_block, in_for_in_block, in_finally_block, in_braces, in_case, in_program, in_function, in_fun_expr, in_declared}
use Rattle.js_grammar.proofs.Takes.{Takes, binds, asks, past_tail, past_new_tail, past_target, past_infix, past_choice, unbound_tail, passes, did_in_block, did_in_body, ends_if, ends_catch, ends_label, ends_else_if}
use Rattle.js_grammar.proofs.Sound.{step_keeps}
use Rattle.js_grammar.proofs.Complete.{at_items, at_more_items, ends_items}

-- a token of no text and no place
abbrev pub nowhere : Lexeme
nowhere = record { text = []; at = 0 }

-- a name to stand where an expression is to come
abbrev pub anything : Expr
anything = ExprAt 0 [] (Name [])

-- what ends every expression
abbrev pub quiet : Sign → Bool
quiet sign.Close = true
quiet sign.CloseSquare = true
quiet sign.CloseBrace = true
quiet sign.Semicolon = true
quiet sign.Colon = true
quiet _ = false

abbrev pub Quiet : List Deep → Type 0
Quiet [] = ⊥
Quiet (t ∷ ts) = quiet t.0.0 ≡ true

quiet_binds : (s : Sign) → quiet s ≡ true → binds s ≡ false
quiet_binds sign.Close h = refl
quiet_binds sign.CloseSquare h = refl
quiet_binds sign.CloseBrace h = refl
quiet_binds sign.Semicolon h = refl
quiet_binds sign.Colon h = refl
quiet_binds _ h = cc

quiet_infix : (s : Sign) (b : Bool) → quiet s ≡ true → infix_of s b ≡ None
quiet_infix sign.Close b h = refl
quiet_infix sign.CloseSquare b h = refl
quiet_infix sign.CloseBrace b h = refl
quiet_infix sign.Semicolon b h = refl
quiet_infix sign.Colon b h = refl
quiet_infix _ b h = cc

quiet_asks : (s : Sign) → quiet s ≡ true → asks s ≡ false
quiet_asks sign.Close h = refl
quiet_asks sign.CloseSquare h = refl
quiet_asks sign.CloseBrace h = refl
quiet_asks sign.Semicolon h = refl
quiet_asks sign.Colon h = refl
quiet_asks _ h = cc

past_comma : (d : ℕ) (next : List Frame) (other : Step) (s : Sign) → quiet s ≡ true → machine.comma_or d next other s ≡ other
past_comma d next other sign.Close h = refl
past_comma d next other sign.CloseSquare h = refl
past_comma d next other sign.CloseBrace h = refl
past_comma d next other sign.Semicolon h = refl
past_comma d next other sign.Colon h = refl
past_comma d next other _ h = cc

ends_items_quiet : (s : Sign) → ends_items s ≡ true → quiet s ≡ true
ends_items_quiet sign.Close h = refl
ends_items_quiet sign.CloseSquare h = refl
ends_items_quiet sign.Semicolon h = refl
ends_items_quiet _ h = cc

module _ (p : Stmts) where
  shut_tail : (ts : List Deep) (e : Expr) (d : ℕ) (k : List Frame) → Quiet ts → Takes (Gives e k) ts p → Takes (Gives e (Tail d ∷ k)) ts p
  shut_tail [] e d k q h = cc
  shut_tail (t ∷ ts) e d k q h = (h.0, past_tail d e k _ t.0 (unbound_tail t.0.0 (quiet_binds t.0.0 q)) ∙ h.1, h.2)

  shut_new : (ts : List Deep) (e : Expr) (d : ℕ) (w : Lexeme) (k : List Frame) → Quiet ts → Takes (Gives (ExprAt w.at [] (New e NoExprs)) k) ts p → Takes (Gives e (NewTail d w ∷ k)) ts p
  shut_new [] e d w k q h = cc
  shut_new (t ∷ ts) e d w k q h = (h.0, past_new_tail d w e k _ t.0 (unbound_tail t.0.0 (quiet_binds t.0.0 q)) ∙ h.1, h.2)

  shut_target : (ts : List Deep) (e : Expr) (d : ℕ) (k : List Frame) → Quiet ts → Takes (Gives e k) ts p → Takes (Gives e (Target d ∷ k)) ts p
  shut_target [] e d k q h = cc
  shut_target (t ∷ ts) e d k q h = (h.0, past_target d e k _ t.0.0 (quiet_binds t.0.0 q) ∙ h.1, h.2)

  shut_rest : (ts : List Deep) (e : Expr) (b : Bool) (n d : ℕ) (k : List Frame) → Quiet ts → Takes (Gives e k) ts p → Takes (Gives e (Rest b n d ∷ k)) ts p
  shut_rest [] e b n d k q h = cc
  shut_rest (t ∷ ts) e b n d k q h = (h.0, past_infix (infix_of t.0.0 b) b n d e k _ (λ o is. let none : None ≡ Some o = sym (quiet_infix t.0.0 b q) ∙ is in cc) ∙ h.1, h.2)

  shut_choice : (ts : List Deep) (e : Expr) (b : Bool) (d : ℕ) (k : List Frame) → Quiet ts → Takes (Gives e k) ts p → Takes (Gives e (Choice b d ∷ k)) ts p
  shut_choice [] e b d k q h = cc
  shut_choice (t ∷ ts) e b d k q h = (h.0, past_choice b d e k _ t.0.0 (quiet_asks t.0.0 q) ∙ h.1, h.2)

  shut_commas : (ts : List Deep) (e : Expr) (d : ℕ) (k : List Frame) → Quiet ts → Takes (Gives e k) ts p → Takes (Gives e (Commas d ∷ k)) ts p
  shut_commas [] e d k q h = cc
  shut_commas (t ∷ ts) e d k q h = (h.0, past_comma d _ _ t.0.0 q ∙ h.1, h.2)

  -- an assignment expression that is one name
  shut_tails : (ts : List Deep) (e : Expr) (b : Bool) (d : ℕ) (k : List Frame) → Quiet ts → Takes (Gives e k) ts p → Takes (Gives e (machine.tails b d k)) ts p
  shut_tails ts e b d k q h = shut_tail ts e d _ q (shut_target ts e d _ q (shut_rest ts e b 10 d _ q (shut_choice ts e b d k q h)))

-- ## What each need can be closed with

abbrev Closes : Need → ℕ → List Frame → Type 0
Closes (Of l) d k = (e : Expr) → (ts : List Deep) × (p : Stmts) × Quiet ts × Takes (Gives e k) ts p
Closes OfTest d k = (e : Expr) → (ts : List Deep) × (p : Stmts) × Quiet ts × Takes (Gives e k) ts p
Closes (OfItems b) d k = (xs : Exprs) → (s : Sign) × (n : ℕ) × (next : State) × (ts : List Deep) × (p : Stmts) × (ends_items s ≡ true) × (machine.listed xs k (s, nowhere) ≡ Some (n, next)) × Takes next ts p
Closes OfKeys d k = (ps : Properties) (at : List ℕ) → (n : ℕ) × (next : State) × (ts : List Deep) × (p : Stmts) × (machine.keyed d ps at k ≡ Some (n, next)) × Takes next ts p
Closes OfNames d k = (xs : List Lexeme) → (n : ℕ) × (next : State) × (ts : List Deep) × (p : Stmts) × (machine.named d xs k ≡ Some (n, next)) × Takes next ts p
Closes (OfVars b) d k = (ds : Decls) → (n : ℕ) × (next : State) × (ts : List Deep) × (p : Stmts) × (machine.declared ds k (sign.Semicolon, nowhere) ≡ Some (n, next)) × Takes next ts p
Closes (OfCode x own) d k = (f : Fun) → (n : ℕ) × (next : State) × (ts : List Deep) × (p : Stmts) × (machine.has_function (suc d) f k ≡ Some (n, next)) × Takes next ts p
Closes OfBody d k = (ss : Stmts) (fs : Funs) → (ts : List Deep) × (p : Stmts) × Takes (Wants (InBody d ss fs ∷ k)) ts p
Closes OfBlock d k = (ss : Stmts) → (next : State) × (ts : List Deep) × (p : Stmts) × (machine.case_ends ss k sign.CloseBrace (machine.ends (suc d) ss k) ≡ Some (suc d, next)) × Takes next ts p
Closes OfStatement d k = (s : Stmt) → (ts : List Deep) × (p : Stmts) × Takes (Did s k) ts p
Closes OfStatements d k = (ss : Stmts) → (ts : List Deep) × (p : Stmts) × Takes (Wants (InBlock d ss ∷ k)) ts p
Closes OfCases d k = (cs : Clauses) → (n : ℕ) × (next : State) × (ts : List Deep) × (p : Stmts) × (machine.cased d cs k ≡ Some (n, next)) × Takes next ts p

-- a closing token
abbrev mark : Sign → ℕ → Deep
mark s d = ((s, nowhere), d)

pub close : {w : List Deep} {need : Need} {d : ℕ} {start : List Deep} {k : List Frame} → Waits w need d start k → Closes need d k
close (as_operand h) = λ e. close h e
close (as_left_hand h) = λ e. close h e
close (in_tail {d = d} {k = k} h) = λ e. let c = close h e in (c.0, c.1, c.2, shut_tail (c.1) (c.0) e d k (c.2) (c.3))
close (in_new {x = x} {d = d} {k = k} h) = λ e. let c = close h (ExprAt x.at [] (New e NoExprs)) in (c.0, c.1, c.2, shut_new (c.1) (c.0) e d x k (c.2) (c.3))
close (in_target {d = d} {k = k} h) = λ e. let c = close h e in (c.0, c.1, c.2, shut_target (c.1) (c.0) e d k (c.2) (c.3))
close (in_prefix {x = x} {o = o} {k = k} is h) = λ e. let made = ExprAt x.at [] (prefixed o e) in let c = close h made in (c.0, c.1, c.2, passes (c.1) (c.0) (Prefixed x o) e made k (λ t. refl) (c.3))
close (in_rest {b = b} {n = n} {d = d} {k = k} h) = λ e. let c = close h e in (c.0, c.1, c.2, shut_rest (c.1) (c.0) e b n d k (c.2) (c.3))
close (in_right {b = b} {o = o} {a = a} {n = n} {d = d} {k = k} is le sp h) = λ e.
    let made = ExprAt (expr_place a) [] (joined o a e) in
    let c = close h made in
    (c.0, c.1, c.2, passes (c.1) (c.0) (Right o a) e made (Rest b n d ∷ k) (λ t. refl) (shut_rest (c.1) (c.0) made b n d k (c.2) (c.3)))
close (in_choice {b = b} {d = d} {k = k} h) = λ e. let c = close h e in (c.0, c.1, c.2, shut_choice (c.1) (c.0) e b d k (c.2) (c.3))
close (in_second {b = b} {a = a} {d = d} {k = k} sp h) = λ e.
    let made = ExprAt (expr_place a) [] (Cond a e anything) in
    let c = close h made in
    (mark sign.Colon (suc d) ∷ mark sign.Name (suc d) ∷ c.0, c.1, refl, (_, refl, (_, refl, shut_tails (c.1) (c.0) anything b (suc d) (Third a e ∷ k) (c.2) (passes (c.1) (c.0) (Third a e) anything made k (λ t. refl) (c.3)))))
close (in_third {a = a} {c = y} {k = k} sp sc h) = λ e. let made = ExprAt (expr_place a) [] (Cond a y e) in let c = close h made in (c.0, c.1, c.2, passes (c.1) (c.0) (Third a y) e made k (λ t. refl) (c.3))
close (in_assigned {o = o} {a = a} {k = k} is sp h) = λ e. let made = ExprAt (expr_place a) [] (Assign o a e) in let c = close h made in (c.0, c.1, c.2, passes (c.1) (c.0) (Assigned o a) e made k (λ t. refl) (c.3))
close (in_commas {d = d} {k = k} h) = λ e. let c = close h e in (c.0, c.1, c.2, shut_commas (c.1) (c.0) e d k (c.2) (c.3))
close (in_comma {a = a} {d = d} {k = k} sp h) = λ e.
    let made = ExprAt (expr_place a) [] (Comma a e) in
    let c = close h made in
    (c.0, c.1, c.2, passes (c.1) (c.0) (CommaRight a) e made (Commas d ∷ k) (λ t. refl) (shut_commas (c.1) (c.0) made d k (c.2) (c.3)))
close (in_paren {d = d} h) = λ e. let c = close h e in (mark sign.Close (suc d) ∷ c.0, c.1, refl, (_, refl, c.3))
close (in_index {a = a} {d = d} make free h) = λ e. let c = close h (ExprAt (expr_place a) [] (Sub a e)) in (mark sign.CloseSquare (suc d) ∷ c.0, c.1, refl, (_, refl, c.3))
close (in_items {b = b} {xs = xs} {d = d} {k = k} make h) = λ e.
    let c = close h (AndExpr xs e) in
    (mark (c.0) (c.1) ∷ c.3, c.4, ends_items_quiet (c.0) (c.5), (c.2, at_more_items b d xs e k (c.0) nowhere (c.5) ∙ c.6, c.7))
close (in_value {ps = ps} {n = n} {at = at} make h) = λ e. let c = close h (AndProperty ps n e) at in (mark sign.CloseBrace (c.0) ∷ c.2, c.3, refl, (c.1, c.4, c.5))
close (in_init {ds = ds} {x = x} make h) = λ e. let c = close h (AndDecl ds x.text x.at (SomeExpr e)) in (mark sign.Semicolon (c.0) ∷ c.2, c.3, refl, (c.1, c.4, c.5))
close (in_only {x = x} {d = d} make h) = λ e. let c = close h (StmtAt x.at [] (Only e)) in (mark sign.Semicolon d ∷ c.0, c.1, refl, (_, refl, c.2))
close (in_return {x = x} {d = d} h) = λ e. let c = close h (StmtAt x.at [] (Return (SomeExpr e))) in (mark sign.Semicolon d ∷ c.0, c.1, refl, (_, refl, c.2))
close (in_throw {x = x} {d = d} h) = λ e. let c = close h (StmtAt x.at [] (Throw e)) in (mark sign.Semicolon d ∷ c.0, c.1, refl, (_, refl, c.2))
close (in_over {v = v} {x = x} {y = y} {d = d} make h) = λ e.
    let c = close h (StmtAt x.at (y.at ∷ []) (ForIn v y.text e NoStmts)) in
    (mark sign.Close (suc d) ∷ mark sign.OpenBrace (suc d) ∷ mark sign.CloseBrace (suc d) ∷ c.0, c.1, refl, (_, refl, (_, refl, (_, refl, c.2))))
close (in_for_test {x = x} {i = i} {d = d} make h) = λ e.
    let c = close h (StmtAt x.at [] (For i (SomeExpr e) NoExprs NoStmts)) in
    (mark sign.Semicolon (suc d) ∷ mark sign.Close (suc d) ∷ mark sign.OpenBrace (suc d) ∷ mark sign.CloseBrace (suc d) ∷ c.0, c.1, refl, (_, refl, (_, refl, (_, refl, (_, refl, c.2)))))
close (in_case_test {cs = cs} {d = d} sp h) = λ e. let c = close h (AndClause cs (SomeExpr e) NoStmts) in (mark sign.Colon d ∷ mark sign.CloseBrace (c.0) ∷ c.2, c.3, refl, (_, refl, (c.1, c.4, c.5)))
close (in_test h) = λ e. close h e
close (in_if {x = x} {d = d} {k = k} h) = λ e.
    let c = close h (StmtAt x.at [] (If e NoStmts NoStmts)) in
    (mark sign.Close (suc d) ∷ mark sign.OpenBrace (suc d) ∷ mark sign.CloseBrace (suc d) ∷ c.0, c.1, refl, (_, refl, (_, refl, (_, refl, ends_if (c.1) d x e NoStmts k (c.0) (c.2)))))
close (in_while {x = x} {d = d} h) = λ e.
    let c = close h (StmtAt x.at [] (While e NoStmts)) in
    (mark sign.Close (suc d) ∷ mark sign.OpenBrace (suc d) ∷ mark sign.CloseBrace (suc d) ∷ c.0, c.1, refl, (_, refl, (_, refl, (_, refl, c.2))))
close (in_do {x = x} {ss = ss} {d = d} body h) = λ e.
    let c = close h (StmtAt x.at [] (DoWhile e ss)) in (mark sign.Close (suc d) ∷ mark sign.Semicolon d ∷ c.0, c.1, refl, (_, refl, (_, refl, c.2)))
close (in_with {x = x} {d = d} h) = λ e.
    let c = close h (StmtAt x.at [] (With e NoStmts)) in
    (mark sign.Close (suc d) ∷ mark sign.OpenBrace (suc d) ∷ mark sign.CloseBrace (suc d) ∷ c.0, c.1, refl, (_, refl, (_, refl, (_, refl, c.2))))
close (in_switch {x = x} {d = d} h) = λ e.
    let c = close h (StmtAt x.at [] (Switch e NoClauses)) in
    (mark sign.Close (suc d) ∷ mark sign.OpenBrace (suc d) ∷ mark sign.CloseBrace (suc d) ∷ c.0, c.1, refl, (_, refl, (_, refl, (_, refl, c.2))))
close (in_array {x = x} {d = d} h) = λ xs. let c = close h (ExprAt x.at [] (Array xs)) in (sign.CloseSquare, suc d, _, c.0, c.1, refl, refl, c.3)
close (in_call {f = f} {d = d} sp h) = λ xs. let c = close h (ExprAt (expr_place f) [] (Call f xs)) in (sign.Close, suc d, _, c.0, c.1, refl, refl, c.3)
close (in_new_list {x = x} {f = f} {d = d} sp h) = λ xs. let c = close h (ExprAt x.at [] (New f xs)) in (sign.Close, suc d, _, c.0, c.1, refl, refl, c.3)
close (in_for_items {x = x} {d = d} h) = λ xs.
    let c = close h (StmtAt x.at [] (For (ExprsFirst xs) NoExpr NoExprs NoStmts)) in
    (sign.Semicolon, suc d, _, mark sign.Semicolon (suc d) ∷ mark sign.Close (suc d) ∷ mark sign.OpenBrace (suc d) ∷ mark sign.CloseBrace (suc d) ∷ c.0, c.1, refl, refl, (_, refl, (_, refl, (_, refl, (_, refl, c.2)))))
close (in_for_steps {x = x} {i = i} {test = test} {d = d} make t h) = λ xs.
    let c = close h (StmtAt x.at [] (For i test xs NoStmts)) in
    (sign.Close, suc d, _, mark sign.OpenBrace (suc d) ∷ mark sign.CloseBrace (suc d) ∷ c.0, c.1, refl, refl, (_, refl, (_, refl, c.2)))
close (in_object {x = x} {d = d} h) = λ ps at. let c = close h (ExprAt x.at at (Object ps)) in (suc d, _, c.0, c.1, refl, c.3)
close (in_names {x = x} {own = own} {d = d} h) = λ xs.
    let c = close h (fun_of x own xs NoStmts NoFuns) in (suc d, _, mark sign.OpenBrace (suc d) ∷ mark sign.CloseBrace (c.0) ∷ c.2, c.3, refl, (_, refl, (c.1, c.4, c.5)))
close (in_vars {x = x} {d = d} h) = λ ds. let c = close h (StmtAt x.at [] (Var ds)) in (d, _, c.0, c.1, refl, c.2)
close (in_for_vars {x = x} {d = d} h) = λ ds.
    let c = close h (StmtAt x.at [] (For (DeclsFirst ds) NoExpr NoExprs NoStmts)) in
    (suc d, _, mark sign.Semicolon (suc d) ∷ mark sign.Close (suc d) ∷ mark sign.OpenBrace (suc d) ∷ mark sign.CloseBrace (suc d) ∷ c.0, c.1, refl, (_, refl, (_, refl, (_, refl, (_, refl, c.2)))))
close (in_cases {x = x} {e = e} {d = d} sp h) = λ cs. let c = close h (StmtAt x.at [] (Switch e cs)) in (suc d, _, c.0, c.1, refl, c.2)
close (in_block {ss = ss} {d = d} {k = k} sp h) = λ s. let c = close h (AndStmt ss s) in (c.0, c.1, did_in_block (c.1) d ss s k (c.0) (c.2))
close (in_body {ss = ss} {fs = fs} {d = d} {k = k} sp h) = λ s. let c = close h (AndStmt ss s) fs in (c.0, c.1, did_in_body (c.1) d ss fs s k (c.0) (c.2))
close (in_label {x = x} {k = k} h) = λ s. let c = close h (StmtAt x.at (x.at ∷ []) (Label x.text s)) in (c.0, c.1, ends_label (c.1) x s k (c.0) (c.2))
close (in_else_if {x = x} {e = e} {ss = ss} {k = k} sp body h) = λ s. let c = close h (StmtAt x.at [] (If e ss (AndStmt NoStmts s))) in (c.0, c.1, ends_else_if (c.1) x e ss s k (c.0) (c.2))
close (in_if_block {x = x} {e = e} {d = d} {k = k} sp h) = λ ss. let c = close h (StmtAt x.at [] (If e ss NoStmts)) in (_, c.0, c.1, refl, ends_if (c.1) d x e ss k (c.0) (c.2))
close (in_do_block {x = x} {d = d} h) = λ ss.
    let c = close h (StmtAt x.at [] (DoWhile anything ss)) in
    (_, mark sign.While d ∷ mark sign.Open (suc d) ∷ mark sign.Name (suc d) ∷ mark sign.Close (suc d) ∷ mark sign.Semicolon d ∷ c.0, c.1, refl, (_, refl, (_, refl, (_, refl, (_, refl, (_, refl, c.2))))))
close (in_try_block {x = x} {d = d} h) = λ ss.
    let c = close h (StmtAt x.at [] (Try ss NoCatch (SomeBlock NoStmts))) in
    (_, mark sign.Finally d ∷ mark sign.OpenBrace (suc d) ∷ mark sign.CloseBrace (suc d) ∷ c.0, c.1, refl, (_, refl, (_, refl, (_, refl, c.2))))
close (in_catch_block {x = x} {y = y} {ss = ss} {d = d} {k = k} sp h) = λ cs. let c = close h (StmtAt x.at (y.at ∷ []) (Try ss (CatchAs y.text cs) NoBlock)) in (_, c.0, c.1, refl, ends_catch (c.1) d x ss y cs k (c.0) (c.2))
close (in_else_block {x = x} {e = e} {before = before} make h) = λ ss. let c = close h (StmtAt x.at [] (If e before ss)) in (_, c.0, c.1, refl, c.2)
close (in_while_block {x = x} {e = e} make h) = λ ss. let c = close h (StmtAt x.at [] (While e ss)) in (_, c.0, c.1, refl, c.2)
close (in_with_block {x = x} {e = e} make h) = λ ss. let c = close h (StmtAt x.at [] (With e ss)) in (_, c.0, c.1, refl, c.2)
close (in_for_block {x = x} {i = i} {test = test} {xs = xs} make h) = λ ss. let c = close h (StmtAt x.at [] (For i test xs ss)) in (_, c.0, c.1, refl, c.2)
close (in_for_in_block {x = x} {y = y} {v = v} {e = e} make h) = λ ss. let c = close h (StmtAt x.at (y.at ∷ []) (ForIn v y.text e ss)) in (_, c.0, c.1, refl, c.2)
close (in_finally_block {x = x} {at = at} {before = before} {c = y} make h) = λ ss. let c = close h (StmtAt x.at at (Try before y (SomeBlock ss))) in (_, c.0, c.1, refl, c.2)
close (in_braces {d = d} h) = λ ss. let c = close h ss in (mark sign.CloseBrace (suc d) ∷ c.1, c.2, (c.0, c.3, c.4))
close (in_case {cs = cs} {test = test} make h) = λ ss. let c = close h (AndClause cs test ss) in (mark sign.CloseBrace (c.0) ∷ c.2, c.3, (c.1, c.4, c.5))
close in_program = λ ss. (mark sign.End 0 ∷ [], ss, (_, refl, refl))
close (in_function {x = x} {own = own} {params = params} sp h) = λ ss fs. let c = close h (fun_of x own params ss fs) in (mark sign.CloseBrace (c.0) ∷ c.2, c.3, (c.1, c.4, c.5))
close (in_fun_expr {x = x} {d = d} make h) = λ f. let c = close h (ExprAt x.at [] (Function f)) in (suc d, _, c.0, c.1, refl, c.3)
close (in_declared {ss = ss} {fs = fs} {d = d} sp h) = λ f. let c = close h ss (AndFun fs f) in (suc d, _, c.0, c.1, refl, c.2)

-- ## Whatever stands can be closed

abbrev pub Closable : State → Type 0
Closable st = (ts : List Deep) × (p : Stmts) × Takes st ts p

-- a value of a declared variable
shut_var : {w : List Deep} {b : Bool} {d : ℕ} {from : List Deep} {k : List Frame} (ds : Decls) (x : Lexeme) → Waits w (OfVars b) d from k → Closable (Wants (VarTail b d ds x ∷ k))
shut_var ds x h = let c = close h (AndDecl ds x.text x.at NoExpr) in (mark sign.Semicolon (c.0) ∷ c.2, c.3, (c.1, c.4, c.5))

shut_value : {w : List Deep} {d : ℕ} {from : List Deep} {k : List Frame} (ps : Properties) (n at : List ℕ) → Waits w OfKeys d from k → Closable (Wants (KeyColon d ps n at ∷ k))
shut_value {d = d} {k = k} ps n at h =
    let c = close h (AndProperty ps n anything) at in
    let rest = mark sign.CloseBrace (c.0) ∷ c.2 in
    (mark sign.Colon d ∷ mark sign.Name d ∷ rest, c.3, (_, refl, (_, refl, shut_tails (c.3) rest anything false d (Value d ps n at ∷ k) refl (c.1, c.4, c.5))))

shut_body : {w : List Deep} {x : Lexeme} {own : Option Lexeme} {d : ℕ} {start : List Deep} {k : List Frame} (xs : List Lexeme) → Waits w (OfCode x own) d start k → Closable (Wants (FunBody d x own xs ∷ k))
shut_body {x = x} {own = own} {d = d} xs h =
    let c = close h (fun_of x own xs NoStmts NoFuns) in
    (mark sign.OpenBrace (suc d) ∷ mark sign.CloseBrace (c.0) ∷ c.2, c.3, (_, refl, (c.1, c.4, c.5)))

shut_code : {w : List Deep} {x : Lexeme} {own : Option Lexeme} {d : ℕ} {start : List Deep} {k : List Frame} → Waits w (OfCode x own) d start k → Closable (Wants (FunOpen d x own ∷ k))
shut_code {d = d} h = let c = shut_body [] h in (mark sign.Open (suc d) ∷ mark sign.Close (suc d) ∷ c.0, c.1, (_, refl, (_, refl, c.2)))

shut_for : (w : List Deep) {x : Lexeme} {d : ℕ} {from : List Deep} {k : List Frame} (i : ForInit) → Waits w OfStatement d from k → Closable (Wants (ForTest d x i ∷ k))
shut_for w {x = x} {d = d} i h =
    let c = close h (StmtAt x.at [] (For i NoExpr NoExprs NoStmts)) in
    (mark sign.Semicolon (suc d) ∷ mark sign.Close (suc d) ∷ mark sign.OpenBrace (suc d) ∷ mark sign.CloseBrace (suc d) ∷ c.0, c.1, (_, refl, (_, refl, (_, refl, (_, refl, c.2)))))

close_wants : (w : List Deep) (k : List Frame) (ts : List Deep) → HoldsWants w k ts → Closable (Wants k)
close_wants w (PrimaryAt d ∷ k) ts h = let c = close h anything in (mark sign.Name d ∷ c.0, c.1, (_, refl, c.3))
close_wants w (UnaryAt d ∷ k) ts h = let c = close h anything in (mark sign.Name d ∷ c.0, c.1, (_, refl, shut_tail (c.1) (c.0) anything d (Target d ∷ k) (c.2) (shut_target (c.1) (c.0) anything d k (c.2) (c.3))))
close_wants w (DotName d e ∷ k) ts h = let c = close (h.4) (ExprAt (expr_place e) (0 ∷ []) (Dot e [])) in (mark sign.Name d ∷ c.0, c.1, (_, refl, c.3))
close_wants w (ItemsAt b d ∷ k) ts h = let c = close h NoExprs in (mark (c.0) (c.1) ∷ c.3, c.4, (c.2, at_items b d k (c.0) nowhere (c.5) ∙ c.6, c.7))
close_wants w (FirstKey d ∷ k) ts h = let c = close h NoProperties [] in (mark sign.CloseBrace (c.0) ∷ c.2, c.3, (c.1, c.4, c.5))
close_wants w (NextKey d ps at ∷ k) ts h = let c = shut_value ps [] (at ++ 0 ∷ []) (h.2) in (mark sign.Name d ∷ c.0, c.1, (_, refl, c.2))
close_wants w (KeyColon d ps n at ∷ k) ts h = shut_value ps n at (h.2)
close_wants w (FunName d x ∷ k) ts h =
    let c = close h (ExprAt x.at [] (Function (fun_of x None [] NoStmts NoFuns))) in
    (mark sign.Open (suc d) ∷ mark sign.Close (suc d) ∷ mark sign.OpenBrace (suc d) ∷ mark sign.CloseBrace (suc d) ∷ c.0, c.1, (_, refl, (_, refl, (_, refl, (_, refl, c.3)))))
close_wants w (FunOpen d x own ∷ k) ts h = shut_code h
close_wants w (FirstName d ∷ k) ts h = let c = close h [] in (mark sign.Close (c.0) ∷ c.2, c.3, (c.1, c.4, c.5))
close_wants w (MoreNames d (y ∷ ys) ∷ k) ts h = let c = close (h.2) (y ∷ ys) in (mark sign.Close (c.0) ∷ c.2, c.3, (c.1, c.4, c.5))
close_wants w (NextName d (y ∷ ys) ∷ k) ts h = let c = close (h.3) (y ∷ ys ++ nowhere ∷ []) in (mark sign.Name d ∷ mark sign.Close (c.0) ∷ c.2, c.3, (_, refl, (c.1, c.4, c.5)))
close_wants w (FunBody d x own ys ∷ k) ts h = shut_body ys (h.4)
close_wants w (DeclName d x ss fs ∷ k) ts h =
    let c = close (h.2) ss (AndFun fs (fun_of x (Some nowhere) [] NoStmts NoFuns)) in
    (mark sign.Name d ∷ mark sign.Open (suc d) ∷ mark sign.Close (suc d) ∷ mark sign.OpenBrace (suc d) ∷ mark sign.CloseBrace (suc d) ∷ c.0, c.1, (_, refl, (_, refl, (_, refl, (_, refl, (_, refl, c.2))))))
close_wants w (Statement d ∷ k) ts h = let c = close h (StmtAt 0 [] (Break None)) in (mark sign.Break d ∷ mark sign.Semicolon d ∷ c.0, c.1, (_, refl, (_, refl, c.2)))
close_wants w (MaybeLabel d x ∷ k) ts h = let c = close h (StmtAt x.at [] (Only (ExprAt x.at [] (Name x.text)))) in (mark sign.Semicolon d ∷ c.0, c.1, (_, refl, c.2))
close_wants w (BlockAt d ∷ k) ts h = let c = close h NoStmts in (mark sign.OpenBrace (suc d) ∷ mark sign.CloseBrace (suc d) ∷ c.1, c.2, (_, refl, (c.0, c.3, c.4)))
close_wants w (Test d ∷ k) ts h =
    let c = close h anything in
    (mark sign.Open (suc d) ∷ mark sign.Name (suc d) ∷ c.0, c.1, (_, refl, (_, refl, shut_tails (c.1) (c.0) anything false (suc d) (Commas (suc d) ∷ k) (c.2) (shut_commas (c.1) (c.0) anything (suc d) k (c.2) (c.3)))))
close_wants w (Ended d s ∷ k) ts h = let c = close (h.2) s in (mark sign.Semicolon d ∷ c.0, c.1, (_, refl, c.2))
close_wants w (VarName b d ds ∷ k) ts h = let c = shut_var ds nowhere (h.2) in (mark sign.Name d ∷ c.0, c.1, (_, refl, c.2))
close_wants w (VarTail b d ds x ∷ k) ts h = shut_var ds x (h.2)
close_wants w (AfterIf d x e ss ∷ k) ts h = let c = close (h.6) (StmtAt x.at [] (If e ss NoStmts)) in (c.0, c.1, ends_if (c.1) d x e ss k (c.0) (c.2))
close_wants w (AfterElse d x e ss ∷ k) ts h = let c = close (h.7) (StmtAt x.at [] (If e ss NoStmts)) in (mark sign.OpenBrace (suc d) ∷ mark sign.CloseBrace (suc d) ∷ c.0, c.1, (_, refl, (_, refl, c.2)))
close_wants w (AfterDo d x ss ∷ k) ts h =
    let c = close (h.2) (StmtAt x.at [] (DoWhile anything ss)) in
    (mark sign.While d ∷ mark sign.Open (suc d) ∷ mark sign.Name (suc d) ∷ mark sign.Close (suc d) ∷ mark sign.Semicolon d ∷ c.0, c.1, (_, refl, (_, refl, (_, refl, (_, refl, (_, refl, c.2))))))
close_wants w (ForOpen d x ∷ k) ts h = let c = shut_for w {x = x} {d = d} (ExprsFirst NoExprs) h in (mark sign.Open (suc d) ∷ mark sign.Semicolon (suc d) ∷ c.0, c.1, (_, refl, (_, refl, c.2)))
close_wants w (ForFirst d x ∷ k) ts h = let c = shut_for w {x = x} {d = d} (ExprsFirst NoExprs) (h.1) in (mark sign.Semicolon (suc d) ∷ c.0, c.1, (_, refl, c.2))
close_wants w (ForVar d x ∷ k) ts h = let c = shut_for w {x = x} {d = d} (DeclsFirst (AndDecl NoDecls [] 0 NoExpr)) (h.2) in (mark sign.Name (suc d) ∷ mark sign.Semicolon (suc d) ∷ c.0, c.1, (_, refl, (_, refl, c.2)))
close_wants w (ForVarName d x y ∷ k) ts h = let c = shut_for w {x = x} {d = d} (DeclsFirst (AndDecl NoDecls y.text y.at NoExpr)) (h.2) in (mark sign.Semicolon (suc d) ∷ c.0, c.1, (_, refl, c.2))
close_wants w (ForName d x y ∷ k) ts h = let c = shut_for w {x = x} {d = d} (ExprsFirst (AndExpr NoExprs (ExprAt y.at [] (Name y.text)))) (h.1) in (mark sign.Semicolon (suc d) ∷ c.0, c.1, (_, refl, c.2))
close_wants w (ForTest d x i ∷ k) ts h = shut_for w i (h.2)
close_wants w (AfterContinue d x ∷ k) ts h = let c = close h (StmtAt x.at [] (Continue None)) in (mark sign.Semicolon d ∷ c.0, c.1, (_, refl, c.2))
close_wants w (AfterBreak d x ∷ k) ts h = let c = close h (StmtAt x.at [] (Break None)) in (mark sign.Semicolon d ∷ c.0, c.1, (_, refl, c.2))
close_wants w (AfterReturn d x ∷ k) ts h = let c = close h (StmtAt x.at [] (Return NoExpr)) in (mark sign.Semicolon d ∷ c.0, c.1, (_, refl, c.2))
close_wants w (SwitchOpen d x e ∷ k) ts h = let c = close (h.4) (StmtAt x.at [] (Switch e NoClauses)) in (mark sign.OpenBrace (suc d) ∷ mark sign.CloseBrace (suc d) ∷ c.0, c.1, (_, refl, (_, refl, c.2)))
close_wants w (FirstCase d ∷ k) ts h = let c = close h NoClauses in (mark sign.CloseBrace (c.0) ∷ c.2, c.3, (c.1, c.4, c.5))
close_wants w (DefaultColon d cs ∷ k) ts h = let c = close (h.4) (AndClause cs NoExpr NoStmts) in (mark sign.Colon d ∷ mark sign.CloseBrace (c.0) ∷ c.2, c.3, (_, refl, (c.1, c.4, c.5)))
close_wants w (InBlock d ss ∷ k) ts h = close (h.2) ss
close_wants w (InBody d ss fs ∷ k) ts h = close (h.2) ss fs
close_wants w (AfterTry d x ss ∷ k) ts h =
    let c = close (h.2) (StmtAt x.at [] (Try ss NoCatch (SomeBlock NoStmts))) in
    (mark sign.Finally d ∷ mark sign.OpenBrace (suc d) ∷ mark sign.CloseBrace (suc d) ∷ c.0, c.1, (_, refl, (_, refl, (_, refl, c.2))))
close_wants w (CatchOpen d x ss ∷ k) ts h =
    let c = close (h.3) (StmtAt x.at (0 ∷ []) (Try ss (CatchAs [] NoStmts) NoBlock)) in
    (mark sign.Open (suc d) ∷ mark sign.Name (suc d) ∷ mark sign.Close (suc d) ∷ mark sign.OpenBrace (suc d) ∷ mark sign.CloseBrace (suc d) ∷ c.0, c.1, (_, refl, (_, refl, (_, refl, (_, refl, (_, refl, ends_catch (c.1) d x ss nowhere NoStmts k (c.0) (c.2)))))))
close_wants w (CatchName d x ss ∷ k) ts h =
    let c = close (h.4) (StmtAt x.at (0 ∷ []) (Try ss (CatchAs [] NoStmts) NoBlock)) in
    (mark sign.Name (suc d) ∷ mark sign.Close (suc d) ∷ mark sign.OpenBrace (suc d) ∷ mark sign.CloseBrace (suc d) ∷ c.0, c.1, (_, refl, (_, refl, (_, refl, (_, refl, ends_catch (c.1) d x ss nowhere NoStmts k (c.0) (c.2))))))
close_wants w (CatchClose d x ss y ∷ k) ts h =
    let c = close (h.4) (StmtAt x.at (y.at ∷ []) (Try ss (CatchAs y.text NoStmts) NoBlock)) in
    (mark sign.Close (suc d) ∷ mark sign.OpenBrace (suc d) ∷ mark sign.CloseBrace (suc d) ∷ c.0, c.1, (_, refl, (_, refl, (_, refl, ends_catch (c.1) d x ss y NoStmts k (c.0) (c.2)))))
close_wants w (AfterCatch d x ss y cs ∷ k) ts h = let c = close (h.7) (StmtAt x.at (y.at ∷ []) (Try ss (CatchAs y.text cs) NoBlock)) in (c.0, c.1, ends_catch (c.1) d x ss y cs k (c.0) (c.2))
close_wants w _ ts h = absurd h

close_state : (w : List Deep) (st : State) (ts : List Deep) → Holds w st ts → Closable st
close_state w (Wants k) ts h = close_wants w k ts h
close_state w (Gives e k) ts h = let c = close (h.4) e in (c.0, c.1, c.3)
close_state w (Did s k) ts h = close (h.3) s
close_state w (Done p) ts h = ([], p, refl)

moves_holds : (w front rest : List Deep) (st last : State) → judge.Moves step st front last → Holds w st (front ++ rest) → Holds w last rest
moves_holds w [] rest st last m h = subst (λ x. Holds w x rest) m h
moves_holds w (t ∷ front) rest st last m h = moves_holds w front rest (m.0) last (m.2) (step_keeps w st (t.0) (t.1) (front ++ rest) (m.0) (m.1) h)

-- each state that arises can be led to a program
pub closable : judge.IsClosable step finished begin
closable front last m = close_state (front ++ []) last [] (moves_holds (front ++ []) front [] begin last m (front ++ [], no_statement, in_program))
