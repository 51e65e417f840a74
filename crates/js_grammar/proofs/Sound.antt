-- What the machine takes spells the program that it ends with.
use Rattle.std.proofs.Common.{◌≡◌, ℕ, suc, List, [], ◌∷◌, ◌++◌, Bool, true, false, Some, None, refl, ap, sym, subst, cond as choose}
use Rattle.js_grammar.specs.declared.Sign.{Sign}
use Rattle.js_grammar.specs.declared.Sign.TheVariants as sign
use Rattle.js_grammar.specs.Tables.{is_key}
use Rattle.js_grammar.specs.Grammar.{Lexeme, Token, Deep, Primary, LeftHand, Unary, An, Items, Keys, Names, Vars, A, Statements, Cases, Body, Spells, has_default, IsProgram}
use Rattle.js_grammar.specs.Grammar.Spells.{name, unnamed, named, left_hand, no_items, first_item, no_keys, first_key, nothing, no_names, first_name, next_name, code, empty_body, body_statement, body_function, no_statement, next_statement, block, no_init, init, first_var, next_var, only, if_alone, if_else, else_if, for_in, for_var_in, continue_loop, continue_label, break_loop, break_label, returns, switch, no_case, default_case, label, try_catch, try_finally, try_both}
use Rattle.js_grammar.specs.Machine as machine
use Rattle.js_grammar.specs.Machine.{Frame, State, Wants, Gives, Did, Done, Step, step, begin}
use Rattle.js_grammar.specs.Machine.{PrimaryAt, UnaryAt, DotName, ItemsAt, FirstKey, NextKey, KeyColon, FunName, FunOpen, FirstName, MoreNames, NextName, FunBody, DeclName, Statement, MaybeLabel, BlockAt, Test, Ended, VarName, VarTail, AfterIf, AfterElse, AfterDo, ForOpen, ForFirst, ForVar, ForVarName, ForName, ForTest, AfterContinue, AfterBreak, AfterReturn, SwitchOpen, FirstCase, DefaultColon, AfterTry, CatchOpen, CatchName, CatchClose, AfterCatch, Rest, Choice, Commas, MoreItems, Semi, ReturnSemi, ForTestEnd, ForItemsEnd, ForVarEnd, InBlock, InBody}
use Rattle.js_tree.specs.Plain.{Expr, ExprAt, Name, NoExprs, NoExpr, SomeExpr, Properties, NoProperties, AndProperty, Decls, NoDecls, AndDecl, ForInit, Stmt, StmtAt, If, Continue, Break, Try, Label, Stmts, NoStmts, AndStmt, NoBlock, CatchAs, Clauses, NoClauses, AndClause, Funs}
use Rattle.js_grammar.proofs.Waits.{Of, OfItems, OfKeys, OfNames, OfBody, OfStatement, OfStatements, OfCases, Waits, HoldsWants, Holds, in_tail, in_target, in_items, in_value, in_init, in_only, in_return, in_throw, in_over, in_for_test, in_case_test, in_test, in_if, in_while, in_do, in_with, in_switch, in_for_items, in_for_steps, in_names, in_vars, in_for_vars, in_cases, in_block, in_body, in_label, in_else_if, in_if_block, in_do_block, in_try_block, in_catch_block, in_else_block, in_while_block, in_with_block, in_for_block, in_for_in_block, in_finally_block, in_braces, in_case, in_program, in_function, in_fun_expr, in_declared}
use Rattle.js_grammar.proofs.Takes.{Takes}
use Rattle.js_grammar.proofs.Keeps.{Keeps, weaken, given, waits_expr, waits_whole, primary_keeps, unary_keeps, listed_keeps, keyed_keeps, named_keeps, declared_keeps, after_keeps}

module _ (w : List Deep) where
  nothing_fits : (st : Step) (rest : List Deep) → Keeps w (λ m. ⊥) st rest
  nothing_fits None rest = tt
  nothing_fits (Some (m, next)) rest = λ h. absurd h

  -- ## Lists, at their first token or behind it

  items_keeps : (b : Bool) (d : ℕ) (k : List Frame) (s : Sign) (x : Lexeme) (rest : List Deep) → Keeps w (λ m. Waits w (OfItems b) d (((s, x), m) ∷ rest) k) (machine.items b d k (s, x)) rest
  items_keeps b d k sign.Close x rest = given w (λ m. Waits w (OfItems b) d (((sign.Close, x), m) ∷ rest) k) (λ m h j. Spells (Items b NoExprs) d (((sign.Close, x), m) ∷ rest) (((sign.Close, x), j) ∷ rest)) (machine.listed NoExprs k (sign.Close, x)) rest (λ m h. listed_keeps w h NoExprs (sign.Close, x) rest) (λ m h. no_items)
  items_keeps b d k sign.CloseSquare x rest = given w (λ m. Waits w (OfItems b) d (((sign.CloseSquare, x), m) ∷ rest) k) (λ m h j. Spells (Items b NoExprs) d (((sign.CloseSquare, x), m) ∷ rest) (((sign.CloseSquare, x), j) ∷ rest)) (machine.listed NoExprs k (sign.CloseSquare, x)) rest (λ m h. listed_keeps w h NoExprs (sign.CloseSquare, x) rest) (λ m h. no_items)
  items_keeps b d k sign.Semicolon x rest = given w (λ m. Waits w (OfItems b) d (((sign.Semicolon, x), m) ∷ rest) k) (λ m h j. Spells (Items b NoExprs) d (((sign.Semicolon, x), m) ∷ rest) (((sign.Semicolon, x), j) ∷ rest)) (machine.listed NoExprs k (sign.Semicolon, x)) rest (λ m h. listed_keeps w h NoExprs (sign.Semicolon, x) rest) (λ m h. no_items)
  items_keeps b d k s x rest = weaken w (λ m. Waits w (OfItems b) d (((s, x), m) ∷ rest) k) (λ m. Waits w (Of Unary) d (((s, x), m) ∷ rest) (Rest b 10 d ∷ Choice b d ∷ MoreItems b d NoExprs ∷ k)) (machine.unary d (Rest b 10 d ∷ Choice b d ∷ MoreItems b d NoExprs ∷ k) (s, x)) rest
      (λ m h. waits_expr w (in_items (λ e end sp. first_item sp) h)) (unary_keeps w d (Rest b 10 d ∷ Choice b d ∷ MoreItems b d NoExprs ∷ k) s x rest)

  key_cases : (c : Bool) (d : ℕ) (ps : Properties) (at : List ℕ) (k : List Frame) (s : Sign) (x : Lexeme) (rest : List Deep) → is_key s x.text ≡ c → Keeps w (λ m. HoldsWants w (NextKey d ps at ∷ k) (((s, x), m) ∷ rest)) (choose c (Some (d, Wants (KeyColon d ps x.text (at ++ x.at ∷ []) ∷ k))) None) rest
  key_cases true d ps at k s x rest fit = λ h. (h.0, λ q e us end is t. h.1 s x q e us end fit (ap (λ l. ((s, x), d) ∷ l) is) t, h.2)
  key_cases false d ps at k s x rest fit = tt

  key_keeps : (d : ℕ) (ps : Properties) (at : List ℕ) (k : List Frame) (s : Sign) (x : Lexeme) (rest : List Deep) → Keeps w (λ m. HoldsWants w (NextKey d ps at ∷ k) (((s, x), m) ∷ rest)) (machine.key d ps at k (s, x)) rest
  key_keeps d ps at k s x rest = key_cases (is_key s x.text) d ps at k s x rest refl

  first_key_keeps : (d : ℕ) (k : List Frame) (s : Sign) (x : Lexeme) (rest : List Deep) → Keeps w (λ m. Waits w OfKeys d (((s, x), m) ∷ rest) k) (machine.first_key d k (s, x)) rest
  first_key_keeps d k sign.CloseBrace x rest = given w (λ m. Waits w OfKeys d (((sign.CloseBrace, x), m) ∷ rest) k) (λ m h j. Spells (Keys NoProperties []) d (((sign.CloseBrace, x), m) ∷ rest) (((sign.CloseBrace, x), j) ∷ rest)) (machine.keyed d NoProperties [] k) rest (λ m h. keyed_keeps w h NoProperties [] x rest) (λ m h. no_keys)
  first_key_keeps d k s x rest = weaken w (λ m. Waits w OfKeys d (((s, x), m) ∷ rest) k) (λ m. HoldsWants w (NextKey d NoProperties [] ∷ k) (((s, x), m) ∷ rest)) (machine.key d NoProperties [] k (s, x)) rest
      (λ m h. (_, λ u y q e us end fit is t. subst (λ l. Spells (Keys (AndProperty NoProperties y.text e) (y.at ∷ [])) d l end) (sym is) (first_key fit t), h)) (key_keeps d NoProperties [] k s x rest)

  var_tail_keeps : (b : Bool) (d : ℕ) (ds : Decls) (y : Lexeme) (k : List Frame) (s : Sign) (x : Lexeme) (rest : List Deep) → Keeps w (λ m. HoldsWants w (VarTail b d ds y ∷ k) (((s, x), m) ∷ rest)) (machine.var_tail b d ds y k (s, x)) rest
  var_tail_keeps b d ds y k sign.Assign x rest = λ h. waits_expr w (in_init (λ e end sp. h.1 (SomeExpr e) end (init sp)) (h.2))
  var_tail_keeps b d ds y k sign.Comma x rest = λ h.
      (h.0, λ z v us end is t. next_var (subst (λ l. Spells (Vars b (AndDecl ds y.text y.at NoExpr)) d (h.0) (((sign.Comma, x), d) ∷ l)) is (h.1 NoExpr (((sign.Comma, x), d) ∷ rest) no_init)) t, h.2)
  var_tail_keeps b d ds y k s x rest = given w (λ m. HoldsWants w (VarTail b d ds y ∷ k) (((s, x), m) ∷ rest)) (λ m h j. Spells (Vars b (AndDecl ds y.text y.at NoExpr)) d (h.0) (((s, x), j) ∷ rest)) (machine.declared (AndDecl ds y.text y.at NoExpr) k (s, x)) rest
      (λ m h. declared_keeps w (h.2) (AndDecl ds y.text y.at NoExpr) (s, x) rest) (λ m h. h.1 NoExpr (((s, x), m) ∷ rest) no_init)

  -- ## Statements

  only_keeps : (d : ℕ) (k : List Frame) (s : Sign) (x : Lexeme) (rest : List Deep) → Keeps w (λ m. Waits w OfStatement d (((s, x), m) ∷ rest) k) (machine.only d k (s, x)) rest
  only_keeps d k sign.Name x rest = λ h. h
  only_keeps d k sign.OpenBrace x rest = tt
  only_keeps d k sign.Function x rest = tt
  only_keeps d k s x rest = weaken w (λ m. Waits w OfStatement d (((s, x), m) ∷ rest) k) (λ m. Waits w (Of Unary) d (((s, x), m) ∷ rest) (Rest false 10 d ∷ Choice false d ∷ Commas d ∷ Semi d x ∷ k)) (machine.unary d (Rest false 10 d ∷ Choice false d ∷ Commas d ∷ Semi d x ∷ k) (s, x)) rest
      (λ m h. waits_whole w (in_only (λ e y end sp. only refl sp) h)) (unary_keeps w d (Rest false 10 d ∷ Choice false d ∷ Commas d ∷ Semi d x ∷ k) s x rest)

  statement_keeps : (d : ℕ) (k : List Frame) (s : Sign) (x : Lexeme) (rest : List Deep) → Keeps w (λ m. Waits w OfStatement d (((s, x), m) ∷ rest) k) (machine.statement d k (s, x)) rest
  statement_keeps d k sign.Var x rest = λ h. (rest, λ y v us end is t. subst (λ l. Spells (Vars false (AndDecl NoDecls y.text y.at v)) d l end) (sym is) (first_var t), in_vars h)
  statement_keeps d k sign.If x rest = λ h. in_if h
  statement_keeps d k sign.While x rest = λ h. in_while h
  statement_keeps d k sign.Do x rest = λ h. in_do_block h
  statement_keeps d k sign.For x rest = λ h. h
  statement_keeps d k sign.Continue x rest = λ h. h
  statement_keeps d k sign.Break x rest = λ h. h
  statement_keeps d k sign.Return x rest = λ h. h
  statement_keeps d k sign.Throw x rest = λ h. waits_whole w (in_throw h)
  statement_keeps d k sign.With x rest = λ h. in_with h
  statement_keeps d k sign.Switch x rest = λ h. in_switch h
  statement_keeps d k sign.Try x rest = λ h. in_try_block h
  statement_keeps d k s x rest = only_keeps d k s x rest

  cased_keeps : {d : ℕ} {start : List Deep} {k : List Frame} → Waits w OfCases d start k → (cs : Clauses) (x : Lexeme) (rest : List Deep) → Keeps w (λ m. Spells (Cases cs) d start (((sign.CloseBrace, x), m) ∷ rest)) (machine.cased d cs k) rest
  cased_keeps (in_cases sp h) cs x rest = λ s. (_, _, switch sp s, h)

  default_keeps : (c : Bool) {d : ℕ} {start : List Deep} {k : List Frame} → Waits w OfCases d start k → (cs : Clauses) (x : Lexeme) (rest : List Deep) → has_default cs ≡ c → Keeps w (λ m. Spells (Cases cs) d start (((sign.Default, x), m) ∷ rest)) (choose c None (Some (d, Wants (DefaultColon d cs ∷ k)))) rest
  default_keeps true h cs x rest one = tt
  default_keeps false h cs x rest one = λ s. (_, x, one, s, h)

  next_case_keeps : {d : ℕ} {start : List Deep} {k : List Frame} → Waits w OfCases d start k → (cs : Clauses) (s : Sign) (x : Lexeme) (rest : List Deep) → Keeps w (λ m. Spells (Cases cs) d start (((s, x), m) ∷ rest)) (machine.next_case d cs k s) rest
  next_case_keeps h cs sign.Case x rest = λ sp. waits_whole w (in_case_test sp h)
  next_case_keeps h cs sign.Default x rest = default_keeps (has_default cs) h cs x rest refl
  next_case_keeps h cs sign.CloseBrace x rest = cased_keeps h cs x rest
  next_case_keeps h cs _ x rest = tt

  -- a block, or a clause, and its brace
  ends_keeps : {d : ℕ} {start : List Deep} {k : List Frame} → Waits w OfStatements d start k → (ss : Stmts) (x : Lexeme) (rest : List Deep) → Keeps w (λ m. Spells (Statements ss) d start (((sign.CloseBrace, x), m) ∷ rest)) (machine.case_ends ss k sign.CloseBrace (machine.ends d ss k)) rest
  ends_keeps (in_braces (in_if_block sp h)) ss x rest = λ s. (_, _, _, _, sp, block s, h)
  ends_keeps (in_braces (in_do_block h)) ss x rest = λ s. (_, block s, h)
  ends_keeps (in_braces (in_try_block h)) ss x rest = λ s. (_, block s, h)
  ends_keeps (in_braces (in_catch_block sp h)) ss x rest = λ s. (_, _, _, _, _, sp, block s, h)
  ends_keeps (in_braces (in_else_block make h)) ss x rest = λ s. (_, _, make ss rest (block s), h)
  ends_keeps (in_braces (in_while_block make h)) ss x rest = λ s. (_, _, make ss rest (block s), h)
  ends_keeps (in_braces (in_with_block make h)) ss x rest = λ s. (_, _, make ss rest (block s), h)
  ends_keeps (in_braces (in_for_block make h)) ss x rest = λ s. (_, _, make ss rest (block s), h)
  ends_keeps (in_braces (in_for_in_block make h)) ss x rest = λ s. (_, _, make ss rest (block s), h)
  ends_keeps (in_braces (in_finally_block make h)) ss x rest = λ s. (_, _, make ss rest (block s), h)
  ends_keeps (in_case {cs} {test} {d} {from} {start} {k} make h) ss x rest =
      weaken w _ (λ m. Spells (Cases (AndClause cs test ss)) d from (((sign.CloseBrace, x), m) ∷ rest)) (machine.cased d (AndClause cs test ss) k) rest (λ m s. make ss _ s) (cased_keeps h (AndClause cs test ss) x rest)
  ends_keeps in_program ss x rest = tt

  -- the next clause, or none
  case_keeps : {d : ℕ} {start : List Deep} {k : List Frame} → Waits w OfStatements d start k → (ss : Stmts) (s : Sign) (x : Lexeme) (rest : List Deep) → Keeps w (λ m. Spells (Statements ss) d start (((s, x), m) ∷ rest)) (machine.case_ends ss k s None) rest
  case_keeps (in_braces (in_if_block sp h)) ss s x rest = tt
  case_keeps (in_braces (in_do_block h)) ss s x rest = tt
  case_keeps (in_braces (in_try_block h)) ss s x rest = tt
  case_keeps (in_braces (in_catch_block sp h)) ss s x rest = tt
  case_keeps (in_braces (in_else_block make h)) ss s x rest = tt
  case_keeps (in_braces (in_while_block make h)) ss s x rest = tt
  case_keeps (in_braces (in_with_block make h)) ss s x rest = tt
  case_keeps (in_braces (in_for_block make h)) ss s x rest = tt
  case_keeps (in_braces (in_for_in_block make h)) ss s x rest = tt
  case_keeps (in_braces (in_finally_block make h)) ss s x rest = tt
  case_keeps (in_case {cs} {test} {d} {from} {start} {k} make h) ss s x rest =
      weaken w _ (λ m. Spells (Cases (AndClause cs test ss)) d from (((s, x), m) ∷ rest)) (machine.next_case d (AndClause cs test ss) k s) rest (λ m t. make ss _ t) (next_case_keeps h (AndClause cs test ss) s x rest)
  case_keeps in_program ss s x rest = tt

  finishes_keeps : {d : ℕ} {start : List Deep} {k : List Frame} → Waits w OfStatements d start k → (ss : Stmts) (x : Lexeme) (rest : List Deep) → Keeps w (λ m. Spells (Statements ss) d start (((sign.End, x), m) ∷ rest)) (machine.finishes d ss k) rest
  finishes_keeps (in_braces (in_if_block sp h)) ss x rest = tt
  finishes_keeps (in_braces (in_do_block h)) ss x rest = tt
  finishes_keeps (in_braces (in_try_block h)) ss x rest = tt
  finishes_keeps (in_braces (in_catch_block sp h)) ss x rest = tt
  finishes_keeps (in_braces (in_else_block make h)) ss x rest = tt
  finishes_keeps (in_braces (in_while_block make h)) ss x rest = tt
  finishes_keeps (in_braces (in_with_block make h)) ss x rest = tt
  finishes_keeps (in_braces (in_for_block make h)) ss x rest = tt
  finishes_keeps (in_braces (in_for_in_block make h)) ss x rest = tt
  finishes_keeps (in_braces (in_finally_block make h)) ss x rest = tt
  finishes_keeps (in_case make h) ss x rest = tt
  finishes_keeps in_program ss x rest = λ s. (x, s)

  in_block_keeps : (d : ℕ) (ss : Stmts) (k : List Frame) (s : Sign) (x : Lexeme) (rest : List Deep) → Keeps w (λ m. HoldsWants w (InBlock d ss ∷ k) (((s, x), m) ∷ rest)) (machine.in_block d ss k (s, x)) rest
  in_block_keeps d ss k sign.End x rest = given w (λ m. HoldsWants w (InBlock d ss ∷ k) (((sign.End, x), m) ∷ rest)) (λ m h j. Spells (Statements ss) d (h.0) (((sign.End, x), j) ∷ rest)) (machine.finishes d ss k) rest (λ m h. finishes_keeps (h.2) ss x rest) (λ m h. h.1)
  in_block_keeps d ss k sign.CloseBrace x rest = given w (λ m. HoldsWants w (InBlock d ss ∷ k) (((sign.CloseBrace, x), m) ∷ rest)) (λ m h j. Spells (Statements ss) d (h.0) (((sign.CloseBrace, x), j) ∷ rest)) (machine.case_ends ss k sign.CloseBrace (machine.ends d ss k)) rest (λ m h. ends_keeps (h.2) ss x rest) (λ m h. h.1)
  in_block_keeps d ss k sign.Case x rest = given w (λ m. HoldsWants w (InBlock d ss ∷ k) (((sign.Case, x), m) ∷ rest)) (λ m h j. Spells (Statements ss) d (h.0) (((sign.Case, x), j) ∷ rest)) (machine.case_ends ss k sign.Case None) rest (λ m h. case_keeps (h.2) ss sign.Case x rest) (λ m h. h.1)
  in_block_keeps d ss k sign.Default x rest = given w (λ m. HoldsWants w (InBlock d ss ∷ k) (((sign.Default, x), m) ∷ rest)) (λ m h j. Spells (Statements ss) d (h.0) (((sign.Default, x), j) ∷ rest)) (machine.case_ends ss k sign.Default None) rest (λ m h. case_keeps (h.2) ss sign.Default x rest) (λ m h. h.1)
  in_block_keeps d ss k s x rest = weaken w (λ m. HoldsWants w (InBlock d ss ∷ k) (((s, x), m) ∷ rest)) (λ m. Waits w OfStatement d (((s, x), m) ∷ rest) (InBlock d ss ∷ k)) (machine.statement d (InBlock d ss ∷ k) (s, x)) rest (λ m h. in_block (h.1) (h.2)) (statement_keeps d (InBlock d ss ∷ k) s x rest)

  body_ends_keeps : {d : ℕ} {start : List Deep} {k : List Frame} → Waits w OfBody d start k → (ss : Stmts) (fs : Funs) (x : Lexeme) (rest : List Deep) → Keeps w (λ m. Spells (Body ss fs) d start (((sign.CloseBrace, x), m) ∷ rest)) (machine.body_ends d ss fs k) rest
  body_ends_keeps (in_function sp (in_fun_expr make h)) ss fs x rest = λ s. (Primary, _, _, make _ rest (code sp s), h, λ s. tt)
  body_ends_keeps (in_function sp (in_declared sd h)) ss fs x rest = λ s. (_, body_function sd (code sp s), h)

  in_body_keeps : (d : ℕ) (ss : Stmts) (fs : Funs) (k : List Frame) (s : Sign) (x : Lexeme) (rest : List Deep) → Keeps w (λ m. HoldsWants w (InBody d ss fs ∷ k) (((s, x), m) ∷ rest)) (machine.in_body d ss fs k (s, x)) rest
  in_body_keeps d ss fs k sign.CloseBrace x rest = given w (λ m. HoldsWants w (InBody d ss fs ∷ k) (((sign.CloseBrace, x), m) ∷ rest)) (λ m h j. Spells (Body ss fs) d (h.0) (((sign.CloseBrace, x), j) ∷ rest)) (machine.body_ends d ss fs k) rest (λ m h. body_ends_keeps (h.2) ss fs x rest) (λ m h. h.1)
  in_body_keeps d ss fs k sign.Function x rest = λ h. h
  in_body_keeps d ss fs k s x rest = weaken w (λ m. HoldsWants w (InBody d ss fs ∷ k) (((s, x), m) ∷ rest)) (λ m. Waits w OfStatement d (((s, x), m) ∷ rest) (InBody d ss fs ∷ k)) (machine.statement d (InBody d ss fs ∷ k) (s, x)) rest (λ m h. in_body (h.1) (h.2)) (statement_keeps d (InBody d ss fs ∷ k) s x rest)

  after_statement_keeps : {d : ℕ} {start : List Deep} {k : List Frame} → Waits w OfStatement d start k → (st : Stmt) (s : Sign) (x : Lexeme) (rest : List Deep) → Keeps w (λ m. Spells (A st) d start (((s, x), m) ∷ rest)) (machine.after_statement st k (s, x)) rest
  after_statement_keeps (in_block {ss} {d} {from} {start} {k} sp h) st s x rest = weaken w _ (λ m. HoldsWants w (InBlock d (AndStmt ss st) ∷ k) (((s, x), m) ∷ rest)) (machine.in_block d (AndStmt ss st) k (s, x)) rest (λ m t. (from, next_statement sp t, h)) (in_block_keeps d (AndStmt ss st) k s x rest)
  after_statement_keeps (in_body {ss} {fs} {d} {from} {start} {k} sp h) st s x rest = weaken w _ (λ m. HoldsWants w (InBody d (AndStmt ss st) fs ∷ k) (((s, x), m) ∷ rest)) (machine.in_body d (AndStmt ss st) fs k (s, x)) rest (λ m t. (from, body_statement sp t, h)) (in_body_keeps d (AndStmt ss st) fs k s x rest)
  after_statement_keeps (in_label {x = y} {q} {d} {start} {k} h) st s x rest =
      weaken w _ (λ m. Spells (A (StmtAt y.at (y.at ∷ []) (Label y.text st))) d (((sign.Name, y), d) ∷ ((sign.Colon, q), d) ∷ start) (((s, x), m) ∷ rest)) (machine.after_statement (StmtAt y.at (y.at ∷ []) (Label y.text st)) k (s, x)) rest (λ m t. label t) (after_statement_keeps h (StmtAt y.at (y.at ∷ []) (Label y.text st)) s x rest)
  after_statement_keeps (in_else_if {x = y} {p = p} {e = e} {ss = ss} {d = d} {ts = ts} {k = k} sp body h) st s x rest =
      weaken w _ (λ m. Spells (A (StmtAt y.at [] (If e ss (AndStmt NoStmts st)))) d (((sign.If, y), d) ∷ ((sign.Open, p), suc d) ∷ ts) (((s, x), m) ∷ rest)) (machine.after_statement (StmtAt y.at [] (If e ss (AndStmt NoStmts st))) k (s, x)) rest (λ m t. else_if sp body t) (after_statement_keeps h (StmtAt y.at [] (If e ss (AndStmt NoStmts st))) s x rest)

  after_if_keeps : (d : ℕ) (y : Lexeme) (e : Expr) (ss : Stmts) (k : List Frame) (s : Sign) (x : Lexeme) (rest : List Deep) → Keeps w (λ m. HoldsWants w (AfterIf d y e ss ∷ k) (((s, x), m) ∷ rest)) (machine.after_if d y e ss k (s, x)) rest
  after_if_keeps d y e ss k sign.Else x rest = λ h. (h.0, h.1, h.2, h.3, x, h.4, h.5, h.6)
  after_if_keeps d y e ss k s x rest = given w (λ m. HoldsWants w (AfterIf d y e ss ∷ k) (((s, x), m) ∷ rest)) (λ m h j. Spells (A (StmtAt y.at [] (If e ss NoStmts))) d (((sign.If, y), d) ∷ ((sign.Open, h.2), suc d) ∷ h.0) (((s, x), j) ∷ rest)) (machine.after_statement (StmtAt y.at [] (If e ss NoStmts)) k (s, x)) rest
      (λ m h. after_statement_keeps (h.6) (StmtAt y.at [] (If e ss NoStmts)) s x rest) (λ m h. if_alone (h.4) (h.5))

  after_catch_keeps : (d : ℕ) (y : Lexeme) (ss : Stmts) (z : Lexeme) (cs : Stmts) (k : List Frame) (s : Sign) (x : Lexeme) (rest : List Deep) → Keeps w (λ m. HoldsWants w (AfterCatch d y ss z cs ∷ k) (((s, x), m) ∷ rest)) (machine.after_catch d y ss z cs k (s, x)) rest
  after_catch_keeps d y ss z cs k sign.Finally x rest = λ h. in_finally_block (λ fs end t. try_both (h.5) (h.6) t) (h.7)
  after_catch_keeps d y ss z cs k s x rest = given w (λ m. HoldsWants w (AfterCatch d y ss z cs ∷ k) (((s, x), m) ∷ rest)) (λ m h j. Spells (A (StmtAt y.at (z.at ∷ []) (Try ss (CatchAs z.text cs) NoBlock))) d (((sign.Try, y), d) ∷ h.0) (((s, x), j) ∷ rest)) (machine.after_statement (StmtAt y.at (z.at ∷ []) (Try ss (CatchAs z.text cs) NoBlock)) k (s, x)) rest
      (λ m h. after_statement_keeps (h.7) (StmtAt y.at (z.at ∷ []) (Try ss (CatchAs z.text cs) NoBlock)) s x rest) (λ m h. try_catch (h.5) (h.6))

  for_first_keeps : (d : ℕ) (y : Lexeme) (k : List Frame) (s : Sign) (x : Lexeme) (rest : List Deep) → Keeps w (λ m. HoldsWants w (ForFirst d y ∷ k) (((s, x), m) ∷ rest)) (machine.for_first d y k (s, x)) rest
  for_first_keeps d y k sign.Var x rest = λ h. (h.0, x, h.1)
  for_first_keeps d y k sign.Name x rest = λ h. h
  for_first_keeps d y k s x rest = weaken w (λ m. HoldsWants w (ForFirst d y ∷ k) (((s, x), m) ∷ rest)) (λ m. Waits w (OfItems true) (suc d) (((s, x), m) ∷ rest) (ForItemsEnd d y ∷ k)) (machine.items true (suc d) (ForItemsEnd d y ∷ k) (s, x)) rest (λ m h. in_for_items (h.1)) (items_keeps true (suc d) (ForItemsEnd d y ∷ k) s x rest)

  for_var_name_keeps : (d : ℕ) (y z : Lexeme) (k : List Frame) (s : Sign) (x : Lexeme) (rest : List Deep) → Keeps w (λ m. HoldsWants w (ForVarName d y z ∷ k) (((s, x), m) ∷ rest)) (machine.for_var_name d y z k (s, x)) rest
  for_var_name_keeps d y z k sign.In x rest = λ h. waits_whole w (in_over (λ e ss q us end s t. for_var_in s t) (h.2))
  for_var_name_keeps d y z k s x rest = weaken w (λ m. HoldsWants w (ForVarName d y z ∷ k) (((s, x), m) ∷ rest)) (λ m. HoldsWants w (VarTail true (suc d) NoDecls z ∷ ForVarEnd d y ∷ k) (((s, x), m) ∷ rest)) (machine.var_tail true (suc d) NoDecls z (ForVarEnd d y ∷ k) (s, x)) rest
      (λ m h. (_, λ v end t. first_var t, in_for_vars (h.2))) (var_tail_keeps true (suc d) NoDecls z (ForVarEnd d y ∷ k) s x rest)

  for_test_keeps : (d : ℕ) (y : Lexeme) (i : ForInit) (k : List Frame) (s : Sign) (x : Lexeme) (rest : List Deep) → Keeps w (λ m. HoldsWants w (ForTest d y i ∷ k) (((s, x), m) ∷ rest)) (machine.for_test d y i k (s, x)) rest
  for_test_keeps d y i k sign.Semicolon x rest = λ h. in_for_steps (h.1) nothing (h.2)
  for_test_keeps d y i k s x rest = weaken w (λ m. HoldsWants w (ForTest d y i ∷ k) (((s, x), m) ∷ rest)) (λ m. Waits w (Of Unary) (suc d) (((s, x), m) ∷ rest) (Rest false 10 (suc d) ∷ Choice false (suc d) ∷ Commas (suc d) ∷ ForTestEnd d y i ∷ k)) (machine.unary (suc d) (Rest false 10 (suc d) ∷ Choice false (suc d) ∷ Commas (suc d) ∷ ForTestEnd d y i ∷ k) (s, x)) rest
      (λ m h. waits_whole w (in_for_test (h.1) (h.2))) (unary_keeps w (suc d) (Rest false 10 (suc d) ∷ Choice false (suc d) ∷ Commas (suc d) ∷ ForTestEnd d y i ∷ k) s x rest)

  after_return_keeps : (d : ℕ) (y : Lexeme) (k : List Frame) (s : Sign) (x : Lexeme) (rest : List Deep) → Keeps w (λ m. HoldsWants w (AfterReturn d y ∷ k) (((s, x), m) ∷ rest)) (machine.after_return d y k (s, x)) rest
  after_return_keeps d y k sign.Semicolon x rest = λ h. (_, _, returns nothing, h)
  after_return_keeps d y k s x rest = weaken w (λ m. HoldsWants w (AfterReturn d y ∷ k) (((s, x), m) ∷ rest)) (λ m. Waits w (Of Unary) d (((s, x), m) ∷ rest) (Rest false 10 d ∷ Choice false d ∷ Commas d ∷ ReturnSemi d y ∷ k)) (machine.unary d (Rest false 10 d ∷ Choice false d ∷ Commas d ∷ ReturnSemi d y ∷ k) (s, x)) rest
      (λ m h. waits_whole w (in_return h)) (unary_keeps w d (Rest false 10 d ∷ Choice false d ∷ Commas d ∷ ReturnSemi d y ∷ k) s x rest)

  after_name_keeps : (d : ℕ) (y : Lexeme) (k : List Frame) (s : Sign) (x : Lexeme) (rest : List Deep) → Keeps w (λ m. HoldsWants w (MaybeLabel d y ∷ k) (((s, x), m) ∷ rest)) (machine.after_name d y k (s, x)) rest
  after_name_keeps d y k sign.Colon x rest = λ h. in_label h
  after_name_keeps d y k s x rest = given w (λ m. HoldsWants w (MaybeLabel d y ∷ k) (((s, x), m) ∷ rest)) (λ m h j. Spells (An LeftHand (ExprAt y.at [] (Name y.text))) d (((sign.Name, y), d) ∷ ((s, x), m) ∷ rest) (((s, x), j) ∷ rest)) (machine.after (ExprAt y.at [] (Name y.text)) (machine.tails false d (Commas d ∷ Semi d y ∷ k)) (s, x)) rest
      (λ m h. after_keeps w {d = d} {start = ((sign.Name, y), d) ∷ ((s, x), m) ∷ rest} {k = machine.tails false d (Commas d ∷ Semi d y ∷ k)} (in_tail (in_target (waits_whole w (in_only (λ e z end sp. only refl sp) h)))) (ExprAt y.at [] (Name y.text)) s x rest tt) (λ m h. left_hand name)

  for_name_keeps : (d : ℕ) (y z : Lexeme) (k : List Frame) (s : Sign) (x : Lexeme) (rest : List Deep) → Keeps w (λ m. HoldsWants w (ForName d y z ∷ k) (((s, x), m) ∷ rest)) (machine.for_name d y z k (s, x)) rest
  for_name_keeps d y z k sign.In x rest = λ h. waits_whole w (in_over (λ e ss q us end s t. for_in s t) (h.1))
  for_name_keeps d y z k s x rest = given w (λ m. HoldsWants w (ForName d y z ∷ k) (((s, x), m) ∷ rest)) (λ m h j. Spells (An LeftHand (ExprAt z.at [] (Name z.text))) (suc d) (((sign.Name, z), suc d) ∷ ((s, x), m) ∷ rest) (((s, x), j) ∷ rest)) (machine.after (ExprAt z.at [] (Name z.text)) (machine.tails true (suc d) (MoreItems true (suc d) NoExprs ∷ ForItemsEnd d y ∷ k)) (s, x)) rest
      (λ m h. after_keeps w {d = suc d} {start = ((sign.Name, z), suc d) ∷ ((s, x), m) ∷ rest} {k = machine.tails true (suc d) (MoreItems true (suc d) NoExprs ∷ ForItemsEnd d y ∷ k)} (in_tail (in_target (waits_expr w (in_items (λ e end sp. first_item sp) (in_for_items (h.1)))))) (ExprAt z.at [] (Name z.text)) s x rest tt) (λ m h. left_hand name)

  -- ## A token where one is awaited

  wants_keeps : (k : List Frame) (s : Sign) (x : Lexeme) (rest : List Deep) → Keeps w (λ m. HoldsWants w k (((s, x), m) ∷ rest)) (machine.wants k (s, x)) rest
  wants_keeps (PrimaryAt d ∷ k) s x rest = primary_keeps w d k (s, x) rest
  wants_keeps (UnaryAt d ∷ k) s x rest = unary_keeps w d k s x rest
  wants_keeps (DotName d e ∷ k) sign.Name x rest = λ h. (h.0, d, h.1, h.2 x rest refl, h.4, h.3)
  wants_keeps (ItemsAt b d ∷ k) s x rest = items_keeps b d k s x rest
  wants_keeps (FirstKey d ∷ k) s x rest = first_key_keeps d k s x rest
  wants_keeps (NextKey d ps at ∷ k) s x rest = key_keeps d ps at k s x rest
  wants_keeps (KeyColon d ps n at ∷ k) sign.Colon x rest = λ h. waits_expr w (in_value (λ e end sp. h.1 x e rest end refl sp) (h.2))
  wants_keeps (FunName d y ∷ k) sign.Name x rest = λ h. in_fun_expr (λ f end sp. named sp) h
  wants_keeps (FunName d y ∷ k) sign.Open x rest = λ h. in_names (in_fun_expr (λ f end sp. unnamed sp) h)
  wants_keeps (FunOpen d y own ∷ k) sign.Open x rest = λ h. in_names h
  wants_keeps (FirstName d ∷ k) sign.Close x rest = given w (λ m. Waits w OfNames d (((sign.Close, x), m) ∷ rest) k) (λ m h j. Spells (Names []) d (((sign.Close, x), m) ∷ rest) (((sign.Close, x), j) ∷ rest)) (machine.named d [] k) rest (λ m h. named_keeps w h [] x rest) (λ m h. no_names)
  wants_keeps (FirstName d ∷ k) sign.Name x rest = λ h. (_, first_name, h)
  wants_keeps (MoreNames d (y ∷ ys) ∷ k) sign.Close x rest = given w (λ m. HoldsWants w (MoreNames d (y ∷ ys) ∷ k) (((sign.Close, x), m) ∷ rest)) (λ m h j. Spells (Names (y ∷ ys)) d (h.0) (((sign.Close, x), j) ∷ rest)) (machine.named d (y ∷ ys) k) rest (λ m h. named_keeps w (h.2) (y ∷ ys) x rest) (λ m h. h.1)
  wants_keeps (MoreNames d (y ∷ ys) ∷ k) sign.Comma x rest = λ h. (h.0, x, h.1, h.2)
  wants_keeps (MoreNames d [] ∷ k) sign.Close x rest = weaken w _ (λ m. ⊥) (machine.named d [] k) rest (λ m h. h) (nothing_fits (machine.named d [] k) rest)
  wants_keeps (MoreNames d [] ∷ k) sign.Comma x rest = λ h. absurd h
  wants_keeps (NextName d (y ∷ ys) ∷ k) sign.Name x rest = λ h. (h.0, next_name (h.2), h.3)
  wants_keeps (NextName d [] ∷ k) sign.Name x rest = λ h. absurd h
  wants_keeps (FunBody d y own ys ∷ k) sign.OpenBrace x rest = λ h. (rest, empty_body, in_function (h.3) (h.4))
  wants_keeps (DeclName d y ss fs ∷ k) sign.Name x rest = λ h. in_declared (h.1) (h.2)
  wants_keeps (Statement d ∷ k) s x rest = statement_keeps d k s x rest
  wants_keeps (MaybeLabel d y ∷ k) s x rest = after_name_keeps d y k s x rest
  wants_keeps (BlockAt d ∷ k) sign.OpenBrace x rest = λ h. (rest, no_statement, in_braces h)
  wants_keeps (Test d ∷ k) sign.Open x rest = λ h. waits_whole w (in_test h)
  wants_keeps (Ended d st ∷ k) sign.Semicolon x rest = λ h. (d, h.0, h.1 x rest refl, h.2)
  wants_keeps (VarName b d ds ∷ k) sign.Name x rest = λ h. (h.0, λ v end sp. h.1 x v rest end refl sp, h.2)
  wants_keeps (VarTail b d ds y ∷ k) s x rest = var_tail_keeps b d ds y k s x rest
  wants_keeps (AfterIf d y e ss ∷ k) s x rest = after_if_keeps d y e ss k s x rest
  wants_keeps (AfterElse d y e ss ∷ k) sign.OpenBrace x rest = λ h. (rest, no_statement, in_braces (in_else_block (λ os end t. if_else (h.5) (h.6) t) (h.7)))
  wants_keeps (AfterElse d y e ss ∷ k) sign.If x rest = λ h. in_if (in_else_if (h.5) (h.6) (h.7))
  wants_keeps (AfterDo d y ss ∷ k) sign.While x rest = λ h. in_do (h.1) (h.2)
  wants_keeps (ForOpen d y ∷ k) sign.Open x rest = λ h. (x, h)
  wants_keeps (ForFirst d y ∷ k) s x rest = for_first_keeps d y k s x rest
  wants_keeps (ForVar d y ∷ k) sign.Name x rest = λ h. (h.0, h.1, h.2)
  wants_keeps (ForVarName d y z ∷ k) s x rest = for_var_name_keeps d y z k s x rest
  wants_keeps (ForName d y z ∷ k) s x rest = for_name_keeps d y z k s x rest
  wants_keeps (ForTest d y i ∷ k) s x rest = for_test_keeps d y i k s x rest
  wants_keeps (AfterContinue d y ∷ k) sign.Semicolon x rest = λ h. (d, _, continue_loop, h)
  wants_keeps (AfterContinue d y ∷ k) sign.Name x rest = λ h. (_, λ m end is. subst (λ l. Spells (A (StmtAt y.at (x.at ∷ []) (Continue (Some x.text)))) d (((sign.Continue, y), d) ∷ ((sign.Name, x), d) ∷ l) end) (sym is) continue_label, h)
  wants_keeps (AfterBreak d y ∷ k) sign.Semicolon x rest = λ h. (d, _, break_loop, h)
  wants_keeps (AfterBreak d y ∷ k) sign.Name x rest = λ h. (_, λ m end is. subst (λ l. Spells (A (StmtAt y.at (x.at ∷ []) (Break (Some x.text)))) d (((sign.Break, y), d) ∷ ((sign.Name, x), d) ∷ l) end) (sym is) break_label, h)
  wants_keeps (AfterReturn d y ∷ k) s x rest = after_return_keeps d y k s x rest
  wants_keeps (SwitchOpen d y e ∷ k) sign.OpenBrace x rest = λ h. in_cases (h.3) (h.4)
  wants_keeps (FirstCase d ∷ k) s x rest = given w (λ m. Waits w OfCases d (((s, x), m) ∷ rest) k) (λ m h j. Spells (Cases NoClauses) d (((s, x), m) ∷ rest) (((s, x), j) ∷ rest)) (machine.next_case d NoClauses k s) rest (λ m h. next_case_keeps h NoClauses s x rest) (λ m h. no_case)
  wants_keeps (DefaultColon d cs ∷ k) sign.Colon x rest = λ h. (rest, no_statement, in_case (λ ss end t. default_case (h.2) (h.3) t) (h.4))
  wants_keeps (InBlock d ss ∷ k) s x rest = in_block_keeps d ss k s x rest
  wants_keeps (InBody d ss fs ∷ k) s x rest = in_body_keeps d ss fs k s x rest
  wants_keeps (AfterTry d y ss ∷ k) sign.Catch x rest = λ h. (h.0, x, h.1, h.2)
  wants_keeps (AfterTry d y ss ∷ k) sign.Finally x rest = λ h. in_finally_block (λ fs end t. try_finally (h.1) t) (h.2)
  wants_keeps (CatchOpen d y ss ∷ k) sign.Open x rest = λ h. (h.0, h.1, x, h.2, h.3)
  wants_keeps (CatchName d y ss ∷ k) sign.Name x rest = λ h. (h.0, h.1, h.2, h.3, h.4)
  wants_keeps (CatchClose d y ss z ∷ k) sign.Close x rest = λ h. in_catch_block (h.3) (h.4)
  wants_keeps (AfterCatch d y ss z cs ∷ k) s x rest = after_catch_keeps d y ss z cs k s x rest
  wants_keeps _ _ x rest = tt

  -- one step
  pub step_keeps : (st : State) (t : Token) (m : ℕ) (rest : List Deep) (next : State) → step st t ≡ Some (m, next) → Holds w st ((t, m) ∷ rest) → Holds w next rest
  step_keeps (Wants k) t m rest next is h = (subst (λ r. Keeps w (λ n. HoldsWants w k ((t, n) ∷ rest)) r rest) is (wants_keeps k (t.0) (t.1) rest)) h
  step_keeps (Gives e k) t m rest next is h = (subst (λ r. Keeps w (λ n. Spells (An (h.0) e) (h.1) (h.2) ((t, n) ∷ rest)) r rest) is (after_keeps w (h.4) e (t.0) (t.1) rest (h.5 (t.0)))) (h.3)
  step_keeps (Did s k) t m rest next is h = (subst (λ r. Keeps w (λ n. Spells (A s) (h.0) (h.1) ((t, n) ∷ rest)) r rest) is (after_statement_keeps (h.3) s (t.0) (t.1) rest)) (h.2)
  step_keeps (Done p) t m rest next is h = cc

  holds_to_end : (ts : List Deep) (st : State) (p : Stmts) → Takes st ts p → Holds w st ts → IsProgram w p
  holds_to_end [] (Done q) p takes h = let same : q ≡ p = cc in subst (λ y. IsProgram w y) same h
  holds_to_end [] (Wants k) p takes h = cc
  holds_to_end [] (Gives e k) p takes h = cc
  holds_to_end [] (Did s k) p takes h = cc
  holds_to_end (t ∷ ts) st p takes h = holds_to_end ts (takes.0) p (takes.2) (step_keeps st (t.0) (t.1) ts (takes.0) (takes.1) h)

-- what the machine takes is a program
pub sound : (ts : List Deep) (p : Stmts) → Takes begin ts p → IsProgram ts p
sound ts p takes = holds_to_end ts ts begin p takes (ts, no_statement, in_program)
