-- What is found of statements.
use Rattle.std.proofs.Common.{◌≡◌, ℕ, suc, List, [], ◌∷◌, true, false, Some, None, refl, ap, sym, subst, ◌∙◌}
use Rattle.std.specs.Prelude.{codes}
use Rattle.js_grammar.specs.declared.Sign.{Sign}
use Rattle.js_grammar.specs.declared.Sign.TheVariants as sign
use Rattle.js_grammar.specs.Grammar.{Lexeme, Deep, Whole, Thing, An, A, Block, Cases, Spells, has_default}
use Rattle.js_grammar.specs.Grammar.Spells.{block, variables, only, if_alone, if_else, else_if, while_loop, do_loop, for_vars, for_items, for_in, for_var_in, continue_loop, continue_label, break_loop, break_label, returns, throws, with_object, switch, no_case, next_case, default_case, label, try_catch, try_finally, try_both}
use Rattle.js_grammar.specs.Tables.{opens_other}
use Rattle.js_grammar.specs.Unplaced.{unplaced_expr, unplaced_exprs, unplaced_stmts, unplaced_clauses}
use Rattle.js_tree.specs.Plain.{Expr, Exprs, OptionalExpr, NoExpr, SomeExpr, Decls, DeclsFirst, ExprsFirst, Stmt, StmtAt, Var, Only, If, While, DoWhile, For, ForIn, Continue, Break, Return, Throw, With, Switch, Try, Label, Stmts, NoStmts, AndStmt, NoBlock, SomeBlock, NoCatch, CatchAs, Clauses, NoClauses, AndClause}
use Rattle.js_print.specs.Tidy.{Tokens, flat, mark, enclosed, braced, else_tokens, expr_tokens, stmts_tokens, clauses_tokens}
use Rattle.tidy_laws.specs.Told.{as_name, Written, end, next}
use Rattle.tidy_laws.proofs.Making.{Bound, tok, append, fixed_next, Begun, Made, MakesExpr, Found, later, begins_with}
use Rattle.tidy_laws.proofs.Rows.{made, below, marked, GoodItems}
use Rattle.tidy_laws.proofs.Parts.{reworded, default_bare, GoodMaybe, GoodVars, GoodStmt, GoodStmts, stmts_made}

-- ## The first token of an `if`

abbrev BeginsIf : Thing → ℕ → List Deep → Type 0
BeginsIf (A (StmtAt at names (If e ss os))) d ts = (v : Lexeme) × (vs : List Deep) × (ts ≡ ((sign.If, v), d) ∷ vs)
BeginsIf thing d ts = Unit {0}

begins_if : {thing : Thing} {d : ℕ} {ts rest : List Deep} → Spells thing d ts rest → BeginsIf thing d ts
begins_if (if_alone {w = w} s t) = (w, _, refl)
begins_if (if_else {w = w} s t u) = (w, _, refl)
begins_if (else_if {w = w} s t u) = (w, _, refl)
begins_if s = tt

-- a statement that begins with an expression
only_made : (e : Expr) (d : ℕ) (ts : List Deep) (m : Lexeme) (rest : List Deep) → Begun ts → Spells (An Whole e) d ts (((sign.Semicolon, m), d) ∷ rest) → Spells (A (StmtAt 0 [] (Only e))) d ts rest
only_made e d [] m rest b s = absurd b
only_made e d (((g, x), n) ∷ ts) m rest b s = subst (λ at. Spells (A (StmtAt at [] (Only e))) d (((g, x), n) ∷ ts) rest) b.1 (only b.0 s)

module _ (limit : Bound) where
  -- ## Blocks, and expressions in parentheses

  abbrev pub GoodBlock : Stmts → ℕ → Type 0
  GoodBlock ss d = limit.Allowed (suc d) × GoodStmts limit ss (suc d)

  block_made : (ss : Stmts) (d : ℕ) → GoodBlock ss d → (n : ℕ) → limit.Stands n d → Made limit (Block (unplaced_stmts ss)) n (braced (stmts_tokens ss))
  block_made ss d g n h rest =
      let m = stmts_made limit ss (suc d) g.1 (suc n) (limit.down n d h) (tok sign.CloseBrace (codes "}") (suc n) ∷ rest) in
      made (tok sign.OpenBrace (codes "{") (suc n) ∷ m.tokens) (block m.spells) (marked limit sign.OpenBrace sign.CloseBrace refl refl (below limit (suc n) (suc d) (limit.down n d h) g.0) m.written)

  -- an expression in parentheses
  pub record GoodHead (e : Expr) (d : ℕ) : Type 0 where
    pub held : List Deep
    pub room : limit.Allowed (suc d)
    pub is : Found limit Whole e (suc d) held

  head_made : (e : Expr) (d : ℕ) → GoodHead e d → (n : ℕ) → limit.Stands n d → (rest : List Deep) → MakesExpr limit false Whole (unplaced_expr e) (suc n) (expr_tokens false 1 e) (tok sign.Close (codes ")") (suc n) ∷ rest)
  head_made e d g n h rest = later limit Whole e (suc d) g.held g.is (suc n) (limit.down n d h) false (tok sign.Close (codes ")") (suc n) ∷ rest)

  head_written : {words : Tokens} (d : ℕ) (n : ℕ) {ts rest : List Deep} → limit.Allowed (suc d) → limit.Stands n d → Written limit.Allowed limit.Fit words ts (tok sign.Close (codes ")") (suc n) ∷ rest) → Written limit.Allowed limit.Fit (enclosed words) (tok sign.Open (codes "(") (suc n) ∷ ts) rest
  head_written d n le h w = marked limit sign.Open sign.Close refl refl (below limit (suc n) (suc d) (limit.down n d h) le) w

  -- ## `if`

  if_alone_made : (e : Expr) (ss : Stmts) (d : ℕ) → GoodHead e d → GoodBlock ss d → GoodStmt limit (StmtAt 0 [] (If e ss NoStmts)) d
  unfolding unplaced_exprs expr_tokens
  if_alone_made e ss d f g n h rest =
      let b = block_made ss d g n h rest in
      let m = head_made e d f n h b.tokens in
      made (tok sign.If (codes "if") n ∷ tok sign.Open (codes "(") (suc n) ∷ m.tokens) (if_alone m.spells b.spells)
      (fixed_next limit refl (below limit n d h (limit.flat d f.room)) (append (head_written d n f.room h m.written) (append b.written end)))

  if_block_made : (e : Expr) (ss os : Stmts) (d : ℕ) → else_tokens os (stmts_tokens os) ≡ flat (mark (codes "else") ∷ braced (stmts_tokens os) ∷ []) → GoodHead e d → GoodBlock ss d → GoodStmts limit os (suc d) → GoodStmt limit (StmtAt 0 [] (If e ss os)) d
  unfolding unplaced_exprs expr_tokens
  if_block_made e ss os d same f g k n h rest =
      let l = below limit n d h (limit.flat d f.room) in
      let o = block_made os d (f.room, k) n h rest in
      let b = block_made ss d g n h (tok sign.Else (codes "else") n ∷ o.tokens) in
      let m = head_made e d f n h b.tokens in
      reworded _ (ap (λ ws. flat (mark (codes "if") ∷ enclosed (expr_tokens false 1 e) ∷ braced (stmts_tokens ss) ∷ ws ∷ [])) (sym same))
      (made (tok sign.If (codes "if") n ∷ tok sign.Open (codes "(") (suc n) ∷ m.tokens) (if_else m.spells b.spells o.spells)
      (fixed_next limit refl l (append (head_written d n f.room h m.written) (append b.written (append (fixed_next limit refl l (append o.written end)) end)))))

  else_if_spelled : (e : Expr) (ss : Stmts) (s : Stmt) (n : ℕ) (ms bs ks vs rest : List Deep) (q v : Lexeme) → ks ≡ ((sign.If, v), suc n) ∷ vs
      → Spells (An Whole e) (suc n) ms (((sign.Close, q), suc n) ∷ bs) → Spells (Block ss) n bs (tok sign.Else (codes "else") n ∷ ks) → Spells (A s) (suc n) ks rest
      → Spells (A (StmtAt 0 [] (If e ss (AndStmt NoStmts s)))) n (tok sign.If (codes "if") n ∷ tok sign.Open (codes "(") (suc n) ∷ ms) rest
  else_if_spelled e ss s n ms bs ks vs rest q v same a b c =
      else_if a (subst (λ us. Spells (Block ss) n bs (tok sign.Else (codes "else") n ∷ us)) same b) (subst (λ us. Spells (A s) (suc n) us rest) same c)

  else_if_made : (e : Expr) (ss : Stmts) (at : ℕ) (names : List ℕ) (c : Expr) (x y : Stmts) (d : ℕ) → GoodHead e d → GoodBlock ss d → GoodStmt limit (StmtAt at names (If c x y)) (suc d) → GoodStmt limit (StmtAt 0 [] (If e ss (AndStmt NoStmts (StmtAt at names (If c x y))))) d
  unfolding unplaced_exprs expr_tokens
  else_if_made e ss at names c x y d f g k n h rest =
      let l = below limit n d h (limit.flat d f.room) in
      let o = k (suc n) (limit.down n d h) rest in
      let i = begins_if o.spells in
      let b = block_made ss d g n h (tok sign.Else (codes "else") n ∷ o.tokens) in
      let m = head_made e d f n h b.tokens in
      made (tok sign.If (codes "if") n ∷ tok sign.Open (codes "(") (suc n) ∷ m.tokens)
      (else_if_spelled (unplaced_expr e) (unplaced_stmts ss) _ n m.tokens b.tokens o.tokens i.1 rest _ i.0 i.2 m.spells b.spells o.spells)
      (fixed_next limit refl l (append (head_written d n f.room h m.written) (append b.written (append (fixed_next limit refl l (append o.written end)) end))))

  pub if_row : (w : Lexeme) (e : Expr) (ss os : Stmts) (d : ℕ) → GoodHead e d → GoodBlock ss d → GoodStmts limit os (suc d) → GoodStmt limit (StmtAt w.at [] (If e ss os)) d
  unfolding unplaced_exprs expr_tokens
  if_row w e ss NoStmts d f g k = if_alone_made e ss d f g
  if_row w e ss (AndStmt NoStmts (StmtAt at names (If c x y))) d f g k = else_if_made e ss at names c x y d f g k.1
  if_row w e ss (AndStmt NoStmts s) d f g k = if_block_made e ss (AndStmt NoStmts s) d refl f g k
  if_row w e ss (AndStmt (AndStmt os r) s) d f g k = if_block_made e ss (AndStmt (AndStmt os r) s) d refl f g k

  -- ## Loops

  pub while_row : (w : Lexeme) (e : Expr) (ss : Stmts) (d : ℕ) → GoodHead e d → GoodBlock ss d → GoodStmt limit (StmtAt w.at [] (While e ss)) d
  unfolding unplaced_exprs expr_tokens
  while_row w e ss d f g n h rest =
      let b = block_made ss d g n h rest in
      let m = head_made e d f n h b.tokens in
      made (tok sign.While (codes "while") n ∷ tok sign.Open (codes "(") (suc n) ∷ m.tokens) (while_loop m.spells b.spells)
      (fixed_next limit refl (below limit n d h (limit.flat d f.room)) (append (head_written d n f.room h m.written) (append b.written end)))

  pub do_row : (w : Lexeme) (e : Expr) (ss : Stmts) (d : ℕ) → GoodHead e d → GoodBlock ss d → GoodStmt limit (StmtAt w.at [] (DoWhile e ss)) d
  unfolding unplaced_exprs expr_tokens
  do_row w e ss d f g n h rest =
      let l = below limit n d h (limit.flat d f.room) in
      let m = head_made e d f n h (tok sign.Semicolon (codes ";") n ∷ rest) in
      let b = block_made ss d g n h (tok sign.While (codes "while") n ∷ tok sign.Open (codes "(") (suc n) ∷ m.tokens) in
      made (tok sign.Do (codes "do") n ∷ b.tokens) (do_loop b.spells m.spells)
      (fixed_next limit refl l (append b.written (fixed_next limit refl l (append (head_written d n f.room h m.written) (fixed_next limit refl l end)))))

  pub for_vars_row : (w : Lexeme) (ds : Decls) (test : OptionalExpr) (xs : Exprs) (ss : Stmts) (d : ℕ) → limit.Allowed (suc d) → GoodVars limit true ds (suc d) → GoodMaybe limit test (suc d) → GoodItems limit false xs (suc d) → GoodBlock ss d
      → GoodStmt limit (StmtAt w.at [] (For (DeclsFirst ds) test xs ss)) d
  unfolding unplaced_exprs expr_tokens
  for_vars_row w ds test xs ss d le f g k j n h rest =
      let l = below limit (suc n) (suc d) (limit.down n d h) le in
      let b = block_made ss d j n h rest in
      let z = k (suc n) (limit.down n d h) (tok sign.Close (codes ")") (suc n) ∷ b.tokens) in
      let y = g (suc n) (limit.down n d h) (tok sign.Semicolon (codes ";") (suc n) ∷ z.tokens) in
      let x = f (suc n) (limit.down n d h) (tok sign.Semicolon (codes ";") (suc n) ∷ y.tokens) in
      made (tok sign.For (codes "for") n ∷ tok sign.Open (codes "(") (suc n) ∷ tok sign.Var (codes "var") (suc n) ∷ x.tokens) (for_vars x.spells y.spells z.spells b.spells)
      (fixed_next limit refl (limit.flat n l) (fixed_next limit refl l (append (fixed_next limit refl l (append x.written end)) (fixed_next limit refl l (append y.written (fixed_next limit refl l (append z.written (fixed_next limit refl l (append b.written end)))))))))

  pub for_items_row : (w : Lexeme) (is : Exprs) (test : OptionalExpr) (xs : Exprs) (ss : Stmts) (d : ℕ) → limit.Allowed (suc d) → GoodItems limit true is (suc d) → GoodMaybe limit test (suc d) → GoodItems limit false xs (suc d) → GoodBlock ss d
      → GoodStmt limit (StmtAt w.at [] (For (ExprsFirst is) test xs ss)) d
  unfolding unplaced_exprs expr_tokens
  for_items_row w is test xs ss d le f g k j n h rest =
      let l = below limit (suc n) (suc d) (limit.down n d h) le in
      let b = block_made ss d j n h rest in
      let z = k (suc n) (limit.down n d h) (tok sign.Close (codes ")") (suc n) ∷ b.tokens) in
      let y = g (suc n) (limit.down n d h) (tok sign.Semicolon (codes ";") (suc n) ∷ z.tokens) in
      let x = f (suc n) (limit.down n d h) (tok sign.Semicolon (codes ";") (suc n) ∷ y.tokens) in
      made (tok sign.For (codes "for") n ∷ tok sign.Open (codes "(") (suc n) ∷ x.tokens) (for_items x.spells y.spells z.spells b.spells)
      (fixed_next limit refl (limit.flat n l) (fixed_next limit refl l (append (append x.written end) (fixed_next limit refl l (append y.written (fixed_next limit refl l (append z.written (fixed_next limit refl l (append b.written end)))))))))

  pub for_in_row : (w x : Lexeme) (e : Expr) (ss : Stmts) (d : ℕ) → limit.Fit sign.Name x.text → GoodHead e d → GoodBlock ss d → GoodStmt limit (StmtAt w.at (x.at ∷ []) (ForIn false x.text e ss)) d
  unfolding unplaced_exprs expr_tokens
  for_in_row w x e ss d fit f g n h rest =
      let l = below limit (suc n) (suc d) (limit.down n d h) f.room in
      let b = block_made ss d g n h rest in
      let m = head_made e d f n h b.tokens in
      made (tok sign.For (codes "for") n ∷ tok sign.Open (codes "(") (suc n) ∷ tok sign.Name x.text (suc n) ∷ tok sign.In (codes "in") (suc n) ∷ m.tokens) (for_in m.spells b.spells)
      (fixed_next limit refl (limit.flat n l) (fixed_next limit refl l (next as_name fit l (fixed_next limit refl l (append m.written (fixed_next limit refl l (append b.written end)))))))

  pub for_var_in_row : (w x : Lexeme) (e : Expr) (ss : Stmts) (d : ℕ) → limit.Fit sign.Name x.text → GoodHead e d → GoodBlock ss d → GoodStmt limit (StmtAt w.at (x.at ∷ []) (ForIn true x.text e ss)) d
  unfolding unplaced_exprs expr_tokens
  for_var_in_row w x e ss d fit f g n h rest =
      let l = below limit (suc n) (suc d) (limit.down n d h) f.room in
      let b = block_made ss d g n h rest in
      let m = head_made e d f n h b.tokens in
      made (tok sign.For (codes "for") n ∷ tok sign.Open (codes "(") (suc n) ∷ tok sign.Var (codes "var") (suc n) ∷ tok sign.Name x.text (suc n) ∷ tok sign.In (codes "in") (suc n) ∷ m.tokens) (for_var_in m.spells b.spells)
      (fixed_next limit refl (limit.flat n l) (fixed_next limit refl l (fixed_next limit refl l (next as_name fit l (fixed_next limit refl l (append m.written (fixed_next limit refl l (append b.written end))))))))

  -- ## Jumps

  pub continue_row : (w : Lexeme) (d : ℕ) → limit.Allowed d → GoodStmt limit (StmtAt w.at [] (Continue None)) d
  unfolding unplaced_exprs expr_tokens
  continue_row w d le n h rest =
      let l = below limit n d h le in
      made (tok sign.Continue (codes "continue") n ∷ tok sign.Semicolon (codes ";") n ∷ rest) continue_loop (fixed_next limit refl l (fixed_next limit refl l end))

  pub continue_to_row : (w x : Lexeme) (d : ℕ) → limit.Fit sign.Name x.text → limit.Allowed d → GoodStmt limit (StmtAt w.at (x.at ∷ []) (Continue (Some x.text))) d
  unfolding unplaced_exprs expr_tokens
  continue_to_row w x d fit le n h rest =
      let l = below limit n d h le in
      made (tok sign.Continue (codes "continue") n ∷ tok sign.Name x.text n ∷ tok sign.Semicolon (codes ";") n ∷ rest) continue_label (fixed_next limit refl l (next as_name fit l (fixed_next limit refl l end)))

  pub break_row : (w : Lexeme) (d : ℕ) → limit.Allowed d → GoodStmt limit (StmtAt w.at [] (Break None)) d
  unfolding unplaced_exprs expr_tokens
  break_row w d le n h rest =
      let l = below limit n d h le in
      made (tok sign.Break (codes "break") n ∷ tok sign.Semicolon (codes ";") n ∷ rest) break_loop (fixed_next limit refl l (fixed_next limit refl l end))

  pub break_to_row : (w x : Lexeme) (d : ℕ) → limit.Fit sign.Name x.text → limit.Allowed d → GoodStmt limit (StmtAt w.at (x.at ∷ []) (Break (Some x.text))) d
  unfolding unplaced_exprs expr_tokens
  break_to_row w x d fit le n h rest =
      let l = below limit n d h le in
      made (tok sign.Break (codes "break") n ∷ tok sign.Name x.text n ∷ tok sign.Semicolon (codes ";") n ∷ rest) break_label (fixed_next limit refl l (next as_name fit l (fixed_next limit refl l end)))

  pub return_row : (w : Lexeme) (v : OptionalExpr) (d : ℕ) → limit.Allowed d → GoodMaybe limit v d → GoodStmt limit (StmtAt w.at [] (Return v)) d
  unfolding unplaced_exprs expr_tokens
  return_row w v d le g n h rest =
      let l = below limit n d h le in
      let m = g n h (tok sign.Semicolon (codes ";") n ∷ rest) in
      made (tok sign.Return (codes "return") n ∷ m.tokens) (returns m.spells) (fixed_next limit refl l (append m.written (fixed_next limit refl l end)))

  pub throw_row : (w : Lexeme) (e : Expr) (d : ℕ) (ts : List Deep) → limit.Allowed d → Found limit Whole e d ts → GoodStmt limit (StmtAt w.at [] (Throw e)) d
  unfolding unplaced_exprs expr_tokens
  throw_row w e d ts le f n h rest =
      let l = below limit n d h le in
      let m = later limit Whole e d ts f n h false (tok sign.Semicolon (codes ";") n ∷ rest) in
      made (tok sign.Throw (codes "throw") n ∷ m.tokens) (throws m.spells) (fixed_next limit refl l (append m.written (fixed_next limit refl l end)))

  -- ## Other statements

  pub variables_row : (w : Lexeme) (ds : Decls) (d : ℕ) → limit.Allowed d → GoodVars limit false ds d → GoodStmt limit (StmtAt w.at [] (Var ds)) d
  unfolding unplaced_exprs expr_tokens
  variables_row w ds d le g n h rest =
      let l = below limit n d h le in
      let m = g n h (tok sign.Semicolon (codes ";") n ∷ rest) in
      made (tok sign.Var (codes "var") n ∷ m.tokens) (variables m.spells) (fixed_next limit refl l (append m.written (fixed_next limit refl l end)))

  pub only_row : (e : Expr) (s : Sign) (x : Lexeme) (d k : ℕ) (ts : List Deep) → opens_other s ≡ false → limit.Allowed d → Found limit Whole e d (((s, x), k) ∷ ts) → GoodStmt limit (StmtAt x.at [] (Only e)) d
  unfolding unplaced_exprs expr_tokens
  only_row e s x d k ts bare le f n h rest =
      let m = begins_with limit Whole e d (((s, x), k) ∷ ts) f bare n h false (tok sign.Semicolon (codes ";") n ∷ rest) in
      made m.tokens (only_made (unplaced_expr e) n m.tokens _ rest (m.begins refl) m.spells) (append m.written (fixed_next limit refl (below limit n d h le) end))

  pub with_row : (w : Lexeme) (e : Expr) (ss : Stmts) (d : ℕ) → GoodHead e d → GoodBlock ss d → GoodStmt limit (StmtAt w.at [] (With e ss)) d
  unfolding unplaced_exprs expr_tokens
  with_row w e ss d f g n h rest =
      let b = block_made ss d g n h rest in
      let m = head_made e d f n h b.tokens in
      made (tok sign.With (codes "with") n ∷ tok sign.Open (codes "(") (suc n) ∷ m.tokens) (with_object m.spells b.spells)
      (fixed_next limit refl (below limit n d h (limit.flat d f.room)) (append (head_written d n f.room h m.written) (append b.written end)))

  abbrev pub GoodCases : Clauses → ℕ → Type 0
  GoodCases cs d = (n : ℕ) → limit.Stands n d → Made limit (Cases (unplaced_clauses cs)) n (clauses_tokens cs)

  pub switch_row : (w : Lexeme) (e : Expr) (cs : Clauses) (d : ℕ) → GoodHead e d → GoodCases cs (suc d) → GoodStmt limit (StmtAt w.at [] (Switch e cs)) d
  unfolding unplaced_exprs expr_tokens
  switch_row w e cs d f g n h rest =
      let l = below limit (suc n) (suc d) (limit.down n d h) f.room in
      let k = g (suc n) (limit.down n d h) (tok sign.CloseBrace (codes "}") (suc n) ∷ rest) in
      let m = head_made e d f n h (tok sign.OpenBrace (codes "{") (suc n) ∷ k.tokens) in
      made (tok sign.Switch (codes "switch") n ∷ tok sign.Open (codes "(") (suc n) ∷ m.tokens) (switch m.spells k.spells)
      (fixed_next limit refl (limit.flat n l) (append (head_written d n f.room h m.written) (fixed_next limit refl l (append k.written (fixed_next limit refl l end)))))

  pub no_case_row : (d : ℕ) → GoodCases NoClauses d
  unfolding unplaced_exprs expr_tokens
  no_case_row d n h rest = made rest no_case end

  pub next_case_row : (cs : Clauses) (e : Expr) (ss : Stmts) (d : ℕ) (us : List Deep) → limit.Allowed d → GoodCases cs d → Found limit Whole e d us → GoodStmts limit ss d → GoodCases (AndClause cs (SomeExpr e) ss) d
  unfolding unplaced_exprs expr_tokens
  next_case_row cs e ss d us le g f k n h rest =
      let l = below limit n d h le in
      let j = stmts_made limit ss d k n h rest in
      let i = later limit Whole e d us f n h false (tok sign.Colon (codes ":") n ∷ j.tokens) in
      let m = g n h (tok sign.Case (codes "case") n ∷ i.tokens) in
      made m.tokens (next_case m.spells i.spells j.spells) (append m.written (append (fixed_next limit refl l (append i.written end)) (fixed_next limit refl l (append j.written end))))

  pub default_case_row : (cs : Clauses) (ss : Stmts) (d : ℕ) → has_default cs ≡ false → limit.Allowed d → GoodCases cs d → GoodStmts limit ss d → GoodCases (AndClause cs NoExpr ss) d
  unfolding unplaced_exprs expr_tokens
  default_case_row cs ss d one le g k n h rest =
      let l = below limit n d h le in
      let j = stmts_made limit ss d k n h rest in
      let m = g n h (tok sign.Default (codes "default") n ∷ tok sign.Colon (codes ":") n ∷ j.tokens) in
      made m.tokens (default_case (default_bare cs ∙ one) m.spells j.spells) (append m.written (fixed_next limit refl l (fixed_next limit refl l (append j.written end))))

  pub label_row : (x : Lexeme) (s : Stmt) (d : ℕ) → limit.Fit sign.Name x.text → limit.Allowed d → GoodStmt limit s d → GoodStmt limit (StmtAt x.at (x.at ∷ []) (Label x.text s)) d
  unfolding unplaced_exprs expr_tokens
  label_row x s d fit le g n h rest =
      let l = below limit n d h le in
      let m = g n h rest in
      made (tok sign.Name x.text n ∷ tok sign.Colon (codes ":") n ∷ m.tokens) (label m.spells) (next as_name fit l (fixed_next limit refl l (append m.written end)))

  -- ## `try`

  pub try_catch_row : (w x : Lexeme) (ss cs : Stmts) (d : ℕ) → limit.Fit sign.Name x.text → GoodBlock ss d → GoodBlock cs d → GoodStmt limit (StmtAt w.at (x.at ∷ []) (Try ss (CatchAs x.text cs) NoBlock)) d
  unfolding unplaced_exprs expr_tokens
  try_catch_row w x ss cs d fit f g n h rest =
      let l = below limit (suc n) (suc d) (limit.down n d h) f.0 in
      let o = below limit n d h (limit.flat d f.0) in
      let k = block_made cs d g n h rest in
      let m = block_made ss d f n h (tok sign.Catch (codes "catch") n ∷ tok sign.Open (codes "(") (suc n) ∷ tok sign.Name x.text (suc n) ∷ tok sign.Close (codes ")") (suc n) ∷ k.tokens) in
      made (tok sign.Try (codes "try") n ∷ m.tokens) (try_catch m.spells k.spells)
      (fixed_next limit refl o (append m.written (append (fixed_next limit refl o (fixed_next limit refl l (next as_name fit l (fixed_next limit refl l (append k.written end))))) end)))

  pub try_finally_row : (w : Lexeme) (ss fs : Stmts) (d : ℕ) → GoodBlock ss d → GoodBlock fs d → GoodStmt limit (StmtAt w.at [] (Try ss NoCatch (SomeBlock fs))) d
  unfolding unplaced_exprs expr_tokens
  try_finally_row w ss fs d f g n h rest =
      let o = below limit n d h (limit.flat d f.0) in
      let k = block_made fs d g n h rest in
      let m = block_made ss d f n h (tok sign.Finally (codes "finally") n ∷ k.tokens) in
      made (tok sign.Try (codes "try") n ∷ m.tokens) (try_finally m.spells k.spells)
      (fixed_next limit refl o (append m.written (append (fixed_next limit refl o (append k.written end)) end)))

  pub try_both_row : (w x : Lexeme) (ss cs fs : Stmts) (d : ℕ) → limit.Fit sign.Name x.text → GoodBlock ss d → GoodBlock cs d → GoodBlock fs d → GoodStmt limit (StmtAt w.at (x.at ∷ []) (Try ss (CatchAs x.text cs) (SomeBlock fs))) d
  unfolding unplaced_exprs expr_tokens
  try_both_row w x ss cs fs d fit f g j n h rest =
      let l = below limit (suc n) (suc d) (limit.down n d h) f.0 in
      let o = below limit n d h (limit.flat d f.0) in
      let i = block_made fs d j n h rest in
      let k = block_made cs d g n h (tok sign.Finally (codes "finally") n ∷ i.tokens) in
      let m = block_made ss d f n h (tok sign.Catch (codes "catch") n ∷ tok sign.Open (codes "(") (suc n) ∷ tok sign.Name x.text (suc n) ∷ tok sign.Close (codes ")") (suc n) ∷ k.tokens) in
      made (tok sign.Try (codes "try") n ∷ m.tokens) (try_both m.spells k.spells i.spells)
      (fixed_next limit refl o (append m.written (append (fixed_next limit refl o (fixed_next limit refl l (next as_name fit l (fixed_next limit refl l (append k.written end))))) (append (fixed_next limit refl o (append i.written end)) end))))
