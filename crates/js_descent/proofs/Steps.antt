-- What each function of the statements has read, from what its calls read.
use Rattle.std.proofs.Common.{◌≡◌, ℕ, suc, ◌+◌, ◌<◌, ◌≤◌, List, [], ◌∷◌, true, false, Some, None, refl, ap, sym, subst, ◌∙◌, length, arith, nat_lt}
use Rattle.std.specs.Prelude.{Result, Ok, Err, All, MatchResult, ◌≢◌}
use Rattle.std.proofs.lemmas.Bool.Decides.{nat_tests}
use Rattle.std.proofs.lemmas.List.Elements.{All-push}
use Rattle.exact_refusals.specs.Judge as judge
use Rattle.exact_refusals.specs.Judge.Outcome.{Refused}
use Rattle.std.specs.declared.vec.Vec.{Vec}
use Rattle.std.specs.declared.alloc.Global.{Global}
use Rattle.js_tree.specs.declared.nodes.ExprId.{ExprId}
use Rattle.js_tree.specs.declared.nodes.StmtId.{StmtId}
use Rattle.js_tree.specs.declared.nodes.Decl.{Decl}
use Rattle.js_tree.specs.Plain.{Expr, ExprAt, Name, Stmt, StmtAt, Only, If, While, DoWhile, Return, Throw, With, Var, Stmts, NoStmts, AndStmt, Decls, NoDecls, NoExpr, SomeExpr}
use Rattle.js_tree.specs.Forest.{Forest, IsExpr, IsStmt, expr_at, stmt_at, stmts_at, decls_at}
use Rattle.js_grammar.specs.declared.Sign.{Sign}
use Rattle.js_grammar.specs.declared.Sign.TheVariants as sign
use Rattle.js_grammar.specs.Grammar.{Token, Lexeme}
use Rattle.js_grammar.specs.Machine as machine
use Rattle.js_grammar.specs.Machine.{Frame, State, Step, step, finished, Wants, Gives, Did, Statement, InBlock, BlockAt, Test, IfTest, WhileTest, WithTest, DoTest, IfBlock, WhileBlock, WithBlock, DoBlock, ElseBlock, ElseIf, AfterIf, AfterElse, AfterDo, AfterReturn, Ended, Semi, ReturnSemi, ThrowSemi, VarName, VarEnd, MaybeLabel}
use Rattle.js_cursor.specs.declared.refusal.Refusal.{Refusal}
use Rattle.js_cursor.specs.declared.refusal.Refusal.TheVariants as refusal
use Rattle.js_cursor.specs.Reads.{goes, from, lexeme_at, Next, IsOther, Refuses, MadeStmt}
use Rattle.js_descent.specs.Rows.{IsReady, Reads, ReadsStmt, ReadsOne}
use Rattle.js_descent.specs.Walks.{Walks, OnlyAt, OnlyBlock, ReadsMarked, ReadsStatements, ReadsBlock, ReadsElse, ReadsDecls, BeginsOnly, begins_only, goes_by}
use Rattle.js_cursor.specs.Named.{IsUnlabelled}
use Rattle.js_cursor.proofs.Reading.{take_one, take_to, refuse_one, deep_one, same_one}
use Rattle.js_descent.proofs.Joins.{keeps_same, keeps_then, refuses_before, stmt_made}
use Rattle.js_descent.proofs.Chain.{walks_same}
use Rattle.js_descent.proofs.Lists.{stmts_more_kept, stmts_kept_all}

-- one token stands at a place
abbrev head_of : List Token → Sign
head_of [] = sign.End
head_of (t ∷ ts) = t.0

pub next_once : (ts : List Token) (at : ℕ) (s u : Sign) → Next ts at s → Next ts at u → s ≡ u
next_once ts at s u h g = ap head_of (sym h ∙ g)

-- ## An expression and the mark after it

module _ (ts : List Token) (at d : ℕ) (a : Forest) (mark : Sign) where
  pub marked_refused : (e : Refusal) → Refuses (λ k. Wants (machine.whole d k)) ts at e → (f : Frame) → OnlyAt mark f → Refuses (λ k. Wants (machine.whole d (f ∷ k))) ts at e
  marked_refused e h f only = refuses_before _ (λ k. Wants (machine.whole d k)) (λ k. f ∷ k) ts at at e (λ k. refl) h

  module _ (b : Forest) (id : ExprId) (last : ℕ) (h : Reads (λ k. Wants (machine.whole d k)) (λ k. k) ts at a b id last) where
    pub marked_unmarked : IsOther ts last mark → (f : Frame) → OnlyAt mark f → Refuses (λ k. Wants (machine.whole d (f ∷ k))) ts at (refusal.Syntax last)
    marked_unmarked other f only = (h.in_text, λ k. h.leads (f ∷ k) ∙ refuse_one ts (Gives (expr_at b id) (f ∷ k)) last (other.0) (other.1) (only (expr_at b id) k (other.0) (lexeme_at ts last) (other.2)))

    pub marked_reads : (next : ℕ) → next ≡ last + 1 → Next ts last mark → next < length ts → ReadsMarked mark (λ k. Wants (machine.whole d k)) ts at a b id next
    marked_reads next to here inside = record {
      walks = record { in_text = inside; later = omega (arith, h.later, to); few = omega (arith, h.few, to); kept = h.kept };
      is_in = h.is_in;
      last = last;
      later_last = h.later;
      to = to;
      mark = here;
      leads = h.leads;
    }

-- ## An expression in brackets

no_open : (d : ℕ) (k : List Frame) (s : Sign) (x : Lexeme) → s ≢ sign.Open → ◌≡◌ {A = Step} (step (Wants (Test d ∷ k)) (s, x)) None
no_open d k sign.Open x p = absurd (p refl)
no_open d k _ x p = refl

module _ (ts : List Token) (at d : ℕ) (a : Forest) (ready : IsReady ts at d a) where
  pub test_unopened : IsOther ts at sign.Open → (f : Frame) → OnlyAt sign.Close f → Refuses (λ k. Wants (Test d ∷ f ∷ k)) ts at (refusal.Syntax at)
  test_unopened other f only = (ready.in_text, λ k. refuse_one ts (Wants (Test d ∷ f ∷ k)) at (other.0) (other.1) (no_open d (f ∷ k) (other.0) (lexeme_at ts at) (other.2)))

  module _ (here : Next ts at sign.Open) where
    pub test_deep : d ≡ 200 → (f : Frame) → OnlyAt sign.Close f → Refuses (λ k. Wants (Test d ∷ f ∷ k)) ts at (refusal.TooDeep at)
    test_deep is f only = (ready.in_text, λ k. deep_one ts (Wants (Test d ∷ f ∷ k)) (Wants (machine.whole (suc d) (f ∷ k))) at (suc d) sign.Open here refl (omega (arith, is)))

    module _ (first inner : ℕ) (to : first ≡ at + 1) (is : inner ≡ suc d) (le : inner ≤ 200) where
      test_opens : (k : List Frame) → goes ts (Wants (Test d ∷ k)) at ≡ goes ts (Wants (machine.whole inner k)) first
      test_opens k = take_to ts (Wants (Test d ∷ k)) (Wants (machine.whole inner k)) at first inner sign.Open here (rw is refl) le to

      pub test_result : (b : Forest) (r : Result (ExprId × ℕ) Refusal) → MatchResult r (λ x. ReadsMarked sign.Close (λ k. Wants (machine.whole inner k)) ts first a b x.0 x.1) (λ e. (f : Frame) → OnlyAt sign.Close f → Refuses (λ k. Wants (machine.whole inner (f ∷ k))) ts first e) → MatchResult r (λ x. (suc d ≤ 200) × ReadsMarked sign.Close (λ k. Wants (Test d ∷ k)) ts at a b x.0 x.1) (λ e. (f : Frame) → OnlyAt sign.Close f → Refuses (λ k. Wants (Test d ∷ f ∷ k)) ts at e)
      test_result b (Ok x) h = (
        omega (arith, is, le),
        record {
          walks = record { in_text = h.walks.in_text; later = omega (arith, h.walks.later, to); few = omega (arith, h.walks.few, to); kept = h.walks.kept };
          is_in = h.is_in;
          last = h.last;
          later_last = omega (arith, h.later_last, to);
          to = h.to;
          mark = h.mark;
          leads = λ k. test_opens k ∙ h.leads k;
        },
      )
      test_result b (Err e) h = λ f only. refuses_before _ (λ k. Wants (machine.whole inner (f ∷ k))) (λ k. k) ts at first e (λ k. test_opens (f ∷ k)) (h f only)

-- ## A block

no_brace : (d : ℕ) (k : List Frame) (s : Sign) (x : Lexeme) → s ≢ sign.OpenBrace → ◌≡◌ {A = Step} (step (Wants (BlockAt d ∷ k)) (s, x)) None
no_brace d k sign.OpenBrace x p = absurd (p refl)
no_brace d k _ x p = refl

module _ (ts : List Token) (at d : ℕ) (a : Forest) (ready : IsReady ts at d a) where
  pub block_unopened : IsOther ts at sign.OpenBrace → (f : Frame) → OnlyBlock f → Refuses (λ k. Wants (BlockAt d ∷ f ∷ k)) ts at (refusal.Syntax at)
  block_unopened other f only = (ready.in_text, λ k. refuse_one ts (Wants (BlockAt d ∷ f ∷ k)) at (other.0) (other.1) (no_brace d (f ∷ k) (other.0) (lexeme_at ts at) (other.2)))

  module _ (here : Next ts at sign.OpenBrace) where
    pub block_deep : d ≡ 200 → (f : Frame) → OnlyBlock f → Refuses (λ k. Wants (BlockAt d ∷ f ∷ k)) ts at (refusal.TooDeep at)
    block_deep is f only = (ready.in_text, λ k. deep_one ts (Wants (BlockAt d ∷ f ∷ k)) (Wants (InBlock (suc d) NoStmts ∷ f ∷ k)) at (suc d) sign.OpenBrace here refl (omega (arith, is)))

    module _ (first inner : ℕ) (to : first ≡ at + 1) (is : inner ≡ suc d) (le : inner ≤ 200) where
      block_opens : (k : List Frame) → goes ts (Wants (BlockAt d ∷ k)) at ≡ goes ts (Wants (InBlock inner NoStmts ∷ k)) first
      block_opens k = take_to ts (Wants (BlockAt d ∷ k)) (Wants (InBlock inner NoStmts ∷ k)) at first inner sign.OpenBrace here (rw is refl) le to

      pub block_refused : (e : Refusal) → Refuses (λ k. Wants (InBlock inner NoStmts ∷ k)) ts first e → (f : Frame) → OnlyBlock f → Refuses (λ k. Wants (BlockAt d ∷ f ∷ k)) ts at e
      block_refused e h f only = refuses_before _ (λ k. Wants (InBlock inner NoStmts ∷ k)) (λ k. f ∷ k) ts at first e (λ k. block_opens (f ∷ k)) h

      module _ (b : Forest) (ids : List StmtId) (last : ℕ) (h : ReadsStatements inner ts first a b ids last) where
        pub block_unclosed : IsOther ts last sign.CloseBrace → (f : Frame) → OnlyBlock f → Refuses (λ k. Wants (BlockAt d ∷ f ∷ k)) ts at (refusal.Syntax last)
        block_unclosed other f only =
            let s = h.ends.0 in
            let same : s ≡ other.0 = next_once ts last s (other.0) (h.ends.1) (other.1) in
            (h.walks.in_text, λ k. block_opens (f ∷ k) ∙ h.leads (f ∷ k) ∙ refuse_one ts (Wants (InBlock inner (stmts_at b ids) ∷ f ∷ k)) last s (h.ends.1) (only inner (stmts_at b ids) k s (lexeme_at ts last) (h.ends.2) (λ p. other.2 (sym same ∙ p))))

        pub block_reads : (next : ℕ) → next ≡ last + 1 → Next ts last sign.CloseBrace → next < length ts → ReadsBlock d ts at a b ids next
        block_reads next end mark inside = record {
          walks = record { in_text = inside; later = omega (arith, h.walks.later, to, end); few = omega (arith, h.walks.few, to, end); kept = h.walks.kept };
          deep = omega (arith, is, le);
          are_in = h.are_in;
          last = last;
          to = end;
          mark = mark;
          leads = λ k. block_opens k ∙ h.leads k ∙ ap (λ n. goes ts (Wants (InBlock n (stmts_at b ids) ∷ k)) last) is;
        }

-- ## Frames that take what they wait for at one sign alone

pub only_while : (d : ℕ) (w : Lexeme) → OnlyAt sign.Close (WhileTest d w)
only_while d w e k sign.Close x p = absurd (p refl)
only_while d w e k _ x p = refl

pub only_with : (d : ℕ) (w : Lexeme) → OnlyAt sign.Close (WithTest d w)
only_with d w e k sign.Close x p = absurd (p refl)
only_with d w e k _ x p = refl

pub only_if : (d : ℕ) (w : Lexeme) → OnlyAt sign.Close (IfTest d w)
only_if d w e k sign.Close x p = absurd (p refl)
only_if d w e k _ x p = refl

pub only_do : (d : ℕ) (w : Lexeme) (ss : Stmts) → OnlyAt sign.Close (DoTest d w ss)
only_do d w ss e k sign.Close x p = absurd (p refl)
only_do d w ss e k _ x p = refl

pub only_semi : (d : ℕ) (w : Lexeme) → OnlyAt sign.Semicolon (Semi d w)
only_semi d w e k sign.Semicolon x p = absurd (p refl)
only_semi d w e k _ x p = refl

pub only_return : (d : ℕ) (w : Lexeme) → OnlyAt sign.Semicolon (ReturnSemi d w)
only_return d w e k sign.Semicolon x p = absurd (p refl)
only_return d w e k _ x p = refl

pub only_throw : (d : ℕ) (w : Lexeme) → OnlyAt sign.Semicolon (ThrowSemi d w)
only_throw d w e k sign.Semicolon x p = absurd (p refl)
only_throw d w e k _ x p = refl

pub only_block : (f : Frame) → ((d : ℕ) (ss : Stmts) (k : List Frame) → machine.finishes d ss (f ∷ k) ≡ None) → ((ss : Stmts) (k : List Frame) (s : Sign) → machine.case_ends ss (f ∷ k) s None ≡ None) → OnlyBlock f
only_block f end case d ss k sign.End x ends p = end d ss k
only_block f end case d ss k sign.Case x ends p = case ss k sign.Case
only_block f end case d ss k sign.Default x ends p = case ss k sign.Default
only_block f end case d ss k sign.CloseBrace x ends p = absurd (p refl)
only_block f end case d ss k _ x ends p = cc

-- ## Statements with a test and a block: from their word on

module _ (ts : List Token) (at d : ℕ) (a : Forest) (ready : IsReady ts at d a) (word : Sign) (here : Next ts at word) (F : Frame) (F' : Expr → Frame) (st : Expr → Stmts → List Frame → State)
    (first_step : (k : List Frame) → ◌≡◌ {A = Step} (step (Wants (Statement d ∷ k)) (word, lexeme_at ts at)) (Some (d, Wants (Test d ∷ F ∷ k))))
    (only_test : OnlyAt sign.Close F)
    (test_step : (e : Expr) (k : List Frame) (x : Lexeme) → ◌≡◌ {A = Step} (step (Gives e (F ∷ k)) (sign.Close, x)) (Some (suc d, Wants (BlockAt d ∷ F' e ∷ k))))
    (only_body : (e : Expr) → OnlyBlock (F' e))
    (body_step : (e : Expr) (ss : Stmts) (k : List Frame) (x : Lexeme) → ◌≡◌ {A = Step} (step (Wants (InBlock (suc d) ss ∷ F' e ∷ k)) (sign.CloseBrace, x)) (Some (suc d, st e ss k))) where
  tested_word : (k : List Frame) → goes ts (Wants (Statement d ∷ k)) at ≡ goes ts (Wants (Test d ∷ F ∷ k)) (at + 1)
  tested_word k = take_one ts (Wants (Statement d ∷ k)) (Wants (Test d ∷ F ∷ k)) at d word here (first_step k) ready.shallow

  pub tested_refused : (e : Refusal) → ((f : Frame) → OnlyAt sign.Close f → Refuses (λ k. Wants (Test d ∷ f ∷ k)) ts (at + 1) e) → Refuses (λ k. Wants (Statement d ∷ k)) ts at e
  tested_refused e h = refuses_before _ (λ k. Wants (Test d ∷ F ∷ k)) (λ k. k) ts at (at + 1) e tested_word (h F only_test)

  module _ (b : Forest) (id : ExprId) (first : ℕ) (test : (suc d ≤ 200) × ReadsMarked sign.Close (λ k. Wants (Test d ∷ k)) ts (at + 1) a b id first) where
    tested : (k : List Frame) → goes ts (Wants (Statement d ∷ k)) at ≡ goes ts (Wants (BlockAt d ∷ F' (expr_at b id) ∷ k)) first
    tested k =
        let h = test.1 in
        tested_word k ∙ h.leads (F ∷ k) ∙ take_to ts (Gives (expr_at b id) (F ∷ k)) (Wants (BlockAt d ∷ F' (expr_at b id) ∷ k)) h.last first (suc d) sign.Close h.mark (test_step (expr_at b id) k (lexeme_at ts h.last)) (test.0) h.to

    pub tested_ready : IsReady ts first d b
    tested_ready = let h = test.1 in record { in_text = h.walks.in_text; shallow = ready.shallow; short = ready.short; few = omega (arith, h.walks.few, ready.few) }

    pub body_refused : (e : Refusal) → ((f : Frame) → OnlyBlock f → Refuses (λ k. Wants (BlockAt d ∷ f ∷ k)) ts first e) → Refuses (λ k. Wants (Statement d ∷ k)) ts at e
    body_refused e h = refuses_before _ (λ k. Wants (BlockAt d ∷ F' (expr_at b id) ∷ k)) (λ k. k) ts at first e tested (h (F' (expr_at b id)) (only_body (expr_at b id)))

    module _ (c : Forest) (ids : List StmtId) (next : ℕ) (body : ReadsBlock d ts first b c ids next) where
      pub body_goes : (k : List Frame) → goes ts (Wants (Statement d ∷ k)) at ≡ goes ts (st (expr_at c id) (stmts_at c ids) k) next
      body_goes k =
          let h = test.1 in
          let same : expr_at b id ≡ expr_at c id = sym (body.walks.kept.exprs id h.is_in).1 in
          tested k
          ∙ ap (λ e. goes ts (Wants (BlockAt d ∷ F' e ∷ k)) first) same
          ∙ body.leads (F' (expr_at c id) ∷ k)
          ∙ take_to ts (Wants (InBlock (suc d) (stmts_at c ids) ∷ F' (expr_at c id) ∷ k)) (st (expr_at c id) (stmts_at c ids) k) body.last next (suc d) sign.CloseBrace body.mark (body_step (expr_at c id) (stmts_at c ids) k (lexeme_at ts body.last)) body.deep body.to

      pub body_walks : Walks 2 ts at next a c
      body_walks = let h = test.1 in record { in_text = body.walks.in_text; later = omega (arith, h.walks.later, body.walks.later); few = omega (arith, h.walks.few, body.walks.few); kept = keeps_then a b c h.walks.kept body.walks.kept }

      pub test_in : IsExpr c id
      test_in = (body.walks.kept.exprs id (test.1).is_in).0

      pub body_later : at < next
      body_later = let h = test.1 in omega (arith, h.walks.later, body.walks.later)

-- a statement is made where the machine did one
pub made_of : (ts : List Token) (at next d : ℕ) (a c g : Forest) (s : Stmt) (result : Result (StmtId × ℕ) Refusal) → Walks 1 ts at next a c → at < next → ((k : List Frame) → goes ts (Wants (Statement d ∷ k)) at ≡ goes ts (Did s k) next) → MadeStmt c g s next result → ReadsOne (λ k. Wants (Statement d ∷ k)) ts at a g result
made_of ts at next d a c g s result walks later leads made = stmt_made _ ts at next a c g s result walks.in_text later (omega (arith, walks.few)) walks.kept leads made

-- ## Statements that end with an expression and a semicolon

module _ (ts : List Token) (at d : ℕ) (a : Forest) (ready : IsReady ts at d a) (first : ℕ) (later : at ≤ first) (F : Frame) (made : Expr → Stmt)
    (go : (k : List Frame) → goes ts (Wants (Statement d ∷ k)) at ≡ goes ts (Wants (machine.whole d (F ∷ k))) first)
    (only : OnlyAt sign.Semicolon F)
    (end_step : (e : Expr) (k : List Frame) (x : Lexeme) → ◌≡◌ {A = Step} (step (Gives e (F ∷ k)) (sign.Semicolon, x)) (Some (d, Did (made e) k))) where
  pub ended_refused : (e : Refusal) → ((f : Frame) → OnlyAt sign.Semicolon f → Refuses (λ k. Wants (machine.whole d (f ∷ k))) ts first e) → Refuses (λ k. Wants (Statement d ∷ k)) ts at e
  ended_refused e h = refuses_before _ (λ k. Wants (machine.whole d (F ∷ k))) (λ k. k) ts at first e go (h F only)

  pub ended_ends : (b c : Forest) (id : ExprId) (next : ℕ) (result : Result (StmtId × ℕ) Refusal) → ReadsMarked sign.Semicolon (λ k. Wants (machine.whole d k)) ts first a b id next → MadeStmt b c (made (expr_at b id)) next result → ReadsOne (λ k. Wants (Statement d ∷ k)) ts at a c result
  ended_ends b c id next result h m =
      let w = h.walks in
      made_of ts at next d a b c (made (expr_at b id)) result
      (record { in_text = w.in_text; later = omega (arith, w.later, later); few = omega (arith, w.few, later); kept = w.kept })
      (omega (arith, h.later_last, later, h.to))
      (λ k. go k ∙ h.leads (F ∷ k) ∙ take_to ts (Gives (expr_at b id) (F ∷ k)) (Did (made (expr_at b id)) k) h.last next d sign.Semicolon h.mark (end_step (expr_at b id) k (lexeme_at ts h.last)) ready.shallow h.to) m

no_label : (d : ℕ) (y : Lexeme) (k : List Frame) (s : Sign) (x : Lexeme) → s ≢ sign.Colon → step (Wants (MaybeLabel d y ∷ k)) (s, x) ≡ step (Gives (ExprAt y.at [] (Name y.text)) (machine.tails false d (machine.Commas d ∷ Semi d y ∷ k))) (s, x)
no_label d y k sign.Colon x p = absurd (p refl)
no_label d y k _ x p = refl

other_only : (d : ℕ) (k : List Frame) (s : Sign) (x : Lexeme) → begins_only s ≡ true → s ≢ sign.Name → step (Wants (Statement d ∷ k)) (s, x) ≡ step (Wants (machine.whole d (Semi d x ∷ k))) (s, x)
other_only d k sign.Name x fit p = absurd (p refl)
other_only d k sign.Var x fit p = cc
other_only d k sign.If x fit p = cc
other_only d k sign.While x fit p = cc
other_only d k sign.Do x fit p = cc
other_only d k sign.For x fit p = cc
other_only d k sign.Continue x fit p = cc
other_only d k sign.Break x fit p = cc
other_only d k sign.Return x fit p = cc
other_only d k sign.Throw x fit p = cc
other_only d k sign.With x fit p = cc
other_only d k sign.Switch x fit p = cc
other_only d k sign.Try x fit p = cc
other_only d k sign.OpenBrace x fit p = cc
other_only d k sign.Function x fit p = cc
other_only d k _ x fit p = refl

-- the first token of an expression statement
only_goes : (ts : List Token) (at d : ℕ) (k : List Frame) (s : Sign) → d ≤ 200 → Next ts at s → begins_only s ≡ true → (s ≡ sign.Name → IsOther ts (at + 1) sign.Colon) → goes ts (Wants (Statement d ∷ k)) at ≡ goes ts (Wants (machine.whole d (Semi d (lexeme_at ts at) ∷ k))) at
only_goes ts at d k sign.Name le here fit un =
    let x = lexeme_at ts at in
    let other = un refl in
    let e : Expr = ExprAt x.at [] (Name x.text) in
    let t = machine.tails false d (machine.Commas d ∷ Semi d x ∷ k) in
    take_one ts (Wants (Statement d ∷ k)) (Wants (MaybeLabel d x ∷ k)) at d sign.Name here refl le
    ∙ same_one ts (Wants (MaybeLabel d x ∷ k)) (Gives e t) (at + 1) (other.0) (other.1) (no_label d x k (other.0) (lexeme_at ts (at + 1)) (other.2))
    ∙ sym (take_one ts (Wants (machine.whole d (Semi d x ∷ k))) (Gives e t) at d sign.Name here refl le)
only_goes ts at d k s le here fit un = same_one ts (Wants (Statement d ∷ k)) (Wants (machine.whole d (Semi d (lexeme_at ts at) ∷ k))) at s here (other_only d k s (lexeme_at ts at) fit (λ p. cc))

pub begins_goes : (ts : List Token) (at d : ℕ) → d ≤ 200 → BeginsOnly ts at → (k : List Frame) → goes ts (Wants (Statement d ∷ k)) at ≡ goes ts (Wants (machine.whole d (Semi d (lexeme_at ts at) ∷ k))) at
begins_goes ts at d le h k = only_goes ts at d k h.first le h.here h.other (λ p. h.unlabelled.2 (next_once ts at (h.unlabelled.0) h.first (h.unlabelled.1) h.here ∙ p))

pub begins_at : (ts : List Token) (at : ℕ) (s : Sign) → Next ts at s → IsUnlabelled ts at → begins_only s ≡ true → BeginsOnly ts at
begins_at ts at s here un fit = record { first = s; here = here; unlabelled = un; other = fit }

-- the first token of a `throw`, and of a `return`
pub throw_goes : (ts : List Token) (at d : ℕ) → d ≤ 200 → Next ts at sign.Throw → (k : List Frame) → goes ts (Wants (Statement d ∷ k)) at ≡ goes ts (Wants (machine.whole d (ThrowSemi d (lexeme_at ts at) ∷ k))) (at + 1)
throw_goes ts at d le here k = take_one ts (Wants (Statement d ∷ k)) (Wants (machine.whole d (ThrowSemi d (lexeme_at ts at) ∷ k))) at d sign.Throw here refl le

no_semi : (d : ℕ) (w : Lexeme) (k : List Frame) (s : Sign) (x : Lexeme) → s ≢ sign.Semicolon → step (Wants (AfterReturn d w ∷ k)) (s, x) ≡ step (Wants (machine.whole d (ReturnSemi d w ∷ k))) (s, x)
no_semi d w k sign.Semicolon x p = absurd (p refl)
no_semi d w k _ x p = refl

pub return_goes : (ts : List Token) (at d : ℕ) (s : Sign) → d ≤ 200 → Next ts at sign.Return → Next ts (at + 1) s → s ≢ sign.Semicolon → (k : List Frame) → goes ts (Wants (Statement d ∷ k)) at ≡ goes ts (Wants (machine.whole d (ReturnSemi d (lexeme_at ts at) ∷ k))) (at + 1)
return_goes ts at d s le here next p k =
    let w = lexeme_at ts at in
    take_one ts (Wants (Statement d ∷ k)) (Wants (AfterReturn d w ∷ k)) at d sign.Return here refl le
    ∙ same_one ts (Wants (AfterReturn d w ∷ k)) (Wants (machine.whole d (ReturnSemi d w ∷ k))) (at + 1) s next (no_semi d w k s (lexeme_at ts (at + 1)) p)

pub return_nothing : (ts : List Token) (at d : ℕ) (a c : Forest) (result : Result (StmtId × ℕ) Refusal) → IsReady ts at d a → Next ts at sign.Return → Next ts (at + 1) sign.Semicolon → at + 1 + 1 < length ts → MadeStmt a c (StmtAt (lexeme_at ts at).at [] (Return NoExpr)) (at + 1 + 1) result → ReadsOne (λ k. Wants (Statement d ∷ k)) ts at a c result
return_nothing ts at d a c result ready here semi inside m =
    let w = lexeme_at ts at in
    made_of ts at (at + 1 + 1) d a a c (StmtAt w.at [] (Return NoExpr)) result
    (record { in_text = inside; later = omega arith; few = omega arith; kept = keeps_same a }) (omega arith)
    (λ k. take_one ts (Wants (Statement d ∷ k)) (Wants (AfterReturn d w ∷ k)) at d sign.Return here refl ready.shallow
    ∙ take_one ts (Wants (AfterReturn d w ∷ k)) (Did (StmtAt w.at [] (Return NoExpr)) k) (at + 1) d sign.Semicolon semi refl ready.shallow) m

-- ## Declared variables of a statement

no_var_end : (d : ℕ) (w : Lexeme) (ds : Decls) (k : List Frame) (s : Sign) (x : Lexeme) → s ≢ sign.Semicolon → ◌≡◌ {A = Step} (machine.declared ds (VarEnd d w ∷ k) (s, x)) None
no_var_end d w ds k sign.Semicolon x p = absurd (p refl)
no_var_end d w ds k _ x p = refl

-- what comes of a token by what it does
pub by_take : (ts : List Token) (f : Token → Step) (st : State) (at next m : ℕ) (s : Sign) → Next ts at s → ◌≡◌ {A = Step} (f (s, lexeme_at ts at)) (Some (m, st)) → m ≤ 200 → next ≡ at + 1 → goes_by ts f at ≡ goes ts st next
by_take ts f st at next m s here is le to =
    let shallow : nat_lt 200 m ≡ false = grind (arith, nat_tests) in
    rw (here, is, shallow) (ap (λ n. goes ts st n) (sym to))

pub by_none : (ts : List Token) (f : Token → Step) (at : ℕ) (s : Sign) → Next ts at s → ◌≡◌ {A = Step} (f (s, lexeme_at ts at)) None → goes_by ts f at ≡ Refused (length (from ts at))
by_none ts f at s here is = rw (here, is) refl

module _ (ts : List Token) (at d : ℕ) (a : Forest) (ready : IsReady ts at d a) (here : Next ts at sign.Var) where
  var_goes : (k : List Frame) → goes ts (Wants (Statement d ∷ k)) at ≡ goes ts (Wants (VarName false d NoDecls ∷ VarEnd d (lexeme_at ts at) ∷ k)) (at + 1)
  var_goes k = take_one ts (Wants (Statement d ∷ k)) (Wants (VarName false d NoDecls ∷ VarEnd d (lexeme_at ts at) ∷ k)) at d sign.Var here refl ready.shallow

  pub var_refused : (e : Refusal) → Refuses (λ k. Wants (VarName false d NoDecls ∷ k)) ts (at + 1) e → Refuses (λ k. Wants (Statement d ∷ k)) ts at e
  var_refused e h = refuses_before _ (λ k. Wants (VarName false d NoDecls ∷ k)) (λ k. VarEnd d (lexeme_at ts at) ∷ k) ts at (at + 1) e var_goes h

  module _ (b : Forest) (ds : List Decl) (last : ℕ) (h : ReadsDecls false d ts (at + 1) a b ds last) where
    pub var_unmarked : IsOther ts last sign.Semicolon → Refuses (λ k. Wants (Statement d ∷ k)) ts at (refusal.Syntax last)
    var_unmarked other = (h.walks.in_text, λ k. var_goes k ∙ h.leads (VarEnd d (lexeme_at ts at) ∷ k) ∙ by_none ts (machine.declared (decls_at b ds) (VarEnd d (lexeme_at ts at) ∷ k)) last (other.0) (other.1) (no_var_end d (lexeme_at ts at) (decls_at b ds) k (other.0) (lexeme_at ts last) (other.2)))

    pub var_ends : (next : ℕ) (c : Forest) (result : Result (StmtId × ℕ) Refusal) → next ≡ last + 1 → Next ts last sign.Semicolon → next < length ts → MadeStmt b c (StmtAt (lexeme_at ts at).at [] (Var (decls_at b ds))) next result → ReadsOne (λ k. Wants (Statement d ∷ k)) ts at a c result
    var_ends next c result to mark inside m =
        let w = lexeme_at ts at in
        made_of ts at next d a b c (StmtAt w.at [] (Var (decls_at b ds))) result
        (record { in_text = inside; later = omega (arith, h.walks.later, to); few = omega (arith, h.walks.few, to); kept = h.walks.kept }) (omega (arith, h.walks.later, to))
        (λ k. var_goes k ∙ h.leads (VarEnd d w ∷ k) ∙ by_take ts (machine.declared (decls_at b ds) (VarEnd d w ∷ k)) (Did (StmtAt w.at [] (Var (decls_at b ds))) k) last next d sign.Semicolon mark refl ready.shallow to) m

-- ## `else`

one_in : (b : Forest) (id : StmtId) → IsStmt b id → All (IsStmt b) (id ∷ [])
one_in b id h = All-push (IsStmt b) [] id (λ i x lt. absurd (omega arith)) h

did_else_if : (ts : List Token) (at : ℕ) (w : Lexeme) (e : Expr) (ss : Stmts) (s : Stmt) (k : List Frame) → goes ts (Did s (ElseIf w e ss ∷ k)) at ≡ goes ts (Did (StmtAt w.at [] (If e ss (AndStmt NoStmts s))) k) at
did_else_if ts at w e ss s k = passes (from ts at)
  where
    passes : (l : List Token) → judge.judge step finished 200 (Did s (ElseIf w e ss ∷ k)) l ≡ judge.judge step finished 200 (Did (StmtAt w.at [] (If e ss (AndStmt NoStmts s))) k) l
    passes [] = refl
    passes (t ∷ l) = refl

no_else : (d : ℕ) (w : Lexeme) (e : Expr) (ss : Stmts) (k : List Frame) (s : Sign) (x : Lexeme) → s ≢ sign.Else → step (Wants (AfterIf d w e ss ∷ k)) (s, x) ≡ step (Did (StmtAt w.at [] (If e ss NoStmts)) k) (s, x)
no_else d w e ss k sign.Else x p = absurd (p refl)
no_else d w e ss k _ x p = refl

no_if : (d : ℕ) (w : Lexeme) (e : Expr) (ss : Stmts) (k : List Frame) (s : Sign) (x : Lexeme) → s ≢ sign.If → step (Wants (AfterElse d w e ss ∷ k)) (s, x) ≡ step (Wants (BlockAt d ∷ ElseBlock w e ss ∷ k)) (s, x)
no_if d w e ss k sign.If x p = absurd (p refl)
no_if d w e ss k _ x p = refl

only_else : (w : Lexeme) (e : Expr) (ss : Stmts) → OnlyBlock (ElseBlock w e ss)
only_else w e ss = only_block (ElseBlock w e ss) (λ d bs k. refl) (λ bs k s. refl)

pub else_none : (ts : List Token) (at d : ℕ) (a : Forest) (s : Sign) → IsReady ts at d a → Next ts at s → s ≢ sign.Else → ReadsElse d ts at a a [] at
else_none ts at d a s ready here p = record {
  walks = walks_same ts at a ready.in_text;
  are_in = λ i x lt. absurd (omega arith);
  leads = λ w e ss k. same_one ts (Wants (AfterIf d w e ss ∷ k)) (Did (StmtAt w.at [] (If e ss NoStmts)) k) at s here (no_else d w e ss k s (lexeme_at ts at) p);
}

module _ (ts : List Token) (at d : ℕ) (a : Forest) (ready : IsReady ts at d a) (here : Next ts at sign.Else) where
  else_goes : (w : Lexeme) (e : Expr) (ss : Stmts) (k : List Frame) → goes ts (Wants (AfterIf d w e ss ∷ k)) at ≡ goes ts (Wants (AfterElse d w e ss ∷ k)) (at + 1)
  else_goes w e ss k = take_one ts (Wants (AfterIf d w e ss ∷ k)) (Wants (AfterElse d w e ss ∷ k)) at d sign.Else here refl ready.shallow

  pub else_block : (b : Forest) (s : Sign) → Next ts (at + 1) s → s ≢ sign.If → (r : Result (Vec StmtId Global × ℕ) Refusal) → MatchResult r (λ x. ReadsBlock d ts (at + 1) a b x.0.items x.1) (λ e. (f : Frame) → OnlyBlock f → Refuses (λ k. Wants (BlockAt d ∷ f ∷ k)) ts (at + 1) e) → MatchResult r (λ x. ReadsElse d ts at a b x.0.items x.1) (λ e. (w : Lexeme) (e' : Expr) (ss : Stmts) → Refuses (λ k. Wants (AfterIf d w e' ss ∷ k)) ts at e)
  else_block b s next p (Ok x) h = record {
    walks = record { in_text = h.walks.in_text; later = omega (arith, h.walks.later); few = omega (arith, h.walks.few); kept = h.walks.kept };
    are_in = h.are_in;
    leads = λ w e ss k. else_goes w e ss k
        ∙ same_one ts (Wants (AfterElse d w e ss ∷ k)) (Wants (BlockAt d ∷ ElseBlock w e ss ∷ k)) (at + 1) s next (no_if d w e ss k s (lexeme_at ts (at + 1)) p)
        ∙ h.leads (ElseBlock w e ss ∷ k)
        ∙ take_to ts (Wants (InBlock (suc d) (stmts_at b x.0.items) ∷ ElseBlock w e ss ∷ k)) (Did (StmtAt w.at [] (If e ss (stmts_at b x.0.items))) k) h.last x.1 (suc d) sign.CloseBrace h.mark refl h.deep h.to;
  }
  else_block b s next p (Err f) h = λ w e ss. refuses_before _ (λ k. Wants (BlockAt d ∷ ElseBlock w e ss ∷ k)) (λ k. k) ts at (at + 1) f
      (λ k. else_goes w e ss k ∙ same_one ts (Wants (AfterElse d w e ss ∷ k)) (Wants (BlockAt d ∷ ElseBlock w e ss ∷ k)) (at + 1) s next (no_if d w e ss k s (lexeme_at ts (at + 1)) p)) (h (ElseBlock w e ss) (only_else w e ss))

  module _ (mark : Next ts (at + 1) sign.If) where
    pub else_if_deep : at + 1 < length ts → d ≡ 200 → (w : Lexeme) (e : Expr) (ss : Stmts) → Refuses (λ k. Wants (AfterIf d w e ss ∷ k)) ts at (refusal.TooDeep (at + 1))
    else_if_deep inside is w e ss = (inside, λ k. else_goes w e ss k ∙ deep_one ts (Wants (AfterElse d w e ss ∷ k)) (Wants (Test (suc d) ∷ IfTest (suc d) (lexeme_at ts (at + 1)) ∷ ElseIf w e ss ∷ k)) (at + 1) (suc d) sign.If mark refl (omega (arith, is)))

    module _ (inner : ℕ) (is : inner ≡ suc d) where
      else_if_goes : (w : Lexeme) (e : Expr) (ss : Stmts) (k : List Frame) → goes ts (Wants (AfterIf d w e ss ∷ k)) at ≡ goes ts (Wants (Statement inner ∷ ElseIf w e ss ∷ k)) (at + 1)
      else_if_goes w e ss k = else_goes w e ss k ∙ same_one ts (Wants (AfterElse d w e ss ∷ k)) (Wants (Statement inner ∷ ElseIf w e ss ∷ k)) (at + 1) sign.If mark (rw is refl)

      pub else_if_refused : (e : Refusal) → Refuses (λ k. Wants (Statement inner ∷ k)) ts (at + 1) e → (w : Lexeme) (e' : Expr) (ss : Stmts) → Refuses (λ k. Wants (AfterIf d w e' ss ∷ k)) ts at e
      else_if_refused e h w e' ss = refuses_before _ (λ k. Wants (Statement inner ∷ k)) (λ k. ElseIf w e' ss ∷ k) ts at (at + 1) e (else_if_goes w e' ss) h

      pub else_if_reads : (b : Forest) (id : StmtId) (next : ℕ) (list : List StmtId) → ReadsStmt (λ k. Wants (Statement inner ∷ k)) ts (at + 1) a b id next → list ≡ id ∷ [] → ReadsElse d ts at a b list next
      else_if_reads b id next list h is_list = subst (λ l. ReadsElse d ts at a b l next) (sym is_list) (record {
        walks = record { in_text = h.in_text; later = omega (arith, h.later); few = omega (arith, h.few); kept = h.kept };
        are_in = one_in b id h.is_in;
        leads = λ w e ss k. else_if_goes w e ss k ∙ h.leads (ElseIf w e ss ∷ k) ∙ did_else_if ts next w e ss (stmt_at b id) k;
      })

-- ## `while`, `with`, `if`

module _ (ts : List Token) (at d : ℕ) (a : Forest) (ready : IsReady ts at d a) (here : Next ts at sign.While) where
  pub while_refused : (e : Refusal) → ((f : Frame) → OnlyAt sign.Close f → Refuses (λ k. Wants (Test d ∷ f ∷ k)) ts (at + 1) e) → Refuses (λ k. Wants (Statement d ∷ k)) ts at e
  while_refused = tested_refused ts at d a ready sign.While here (WhileTest d (lexeme_at ts at)) (λ e. WhileBlock (lexeme_at ts at) e) (λ e ss k. Did (StmtAt (lexeme_at ts at).at [] (While e ss)) k) (λ k. refl) (only_while d (lexeme_at ts at)) (λ e k x. refl) (λ e. only_block (WhileBlock (lexeme_at ts at) e) (λ d ss k. refl) (λ ss k s. refl)) (λ e ss k x. refl)

  module _ (b : Forest) (id : ExprId) (first : ℕ) (test : (suc d ≤ 200) × ReadsMarked sign.Close (λ k. Wants (Test d ∷ k)) ts (at + 1) a b id first) where
    pub while_body : (e : Refusal) → ((f : Frame) → OnlyBlock f → Refuses (λ k. Wants (BlockAt d ∷ f ∷ k)) ts first e) → Refuses (λ k. Wants (Statement d ∷ k)) ts at e
    while_body = body_refused ts at d a ready sign.While here (WhileTest d (lexeme_at ts at)) (λ e. WhileBlock (lexeme_at ts at) e) (λ e ss k. Did (StmtAt (lexeme_at ts at).at [] (While e ss)) k) (λ k. refl) (only_while d (lexeme_at ts at)) (λ e k x. refl) (λ e. only_block (WhileBlock (lexeme_at ts at) e) (λ d ss k. refl) (λ ss k s. refl)) (λ e ss k x. refl) b id first test

    pub while_ends : (c g : Forest) (ids : List StmtId) (next : ℕ) (result : Result (StmtId × ℕ) Refusal) → ReadsBlock d ts first b c ids next → MadeStmt c g (StmtAt (lexeme_at ts at).at [] (While (expr_at c id) (stmts_at c ids))) next result → ReadsOne (λ k. Wants (Statement d ∷ k)) ts at a g result
    while_ends c g ids next result body m =
        let h = test.1 in
        made_of ts at next d a c g (StmtAt (lexeme_at ts at).at [] (While (expr_at c id) (stmts_at c ids))) result
        (record { in_text = body.walks.in_text; later = omega (arith, h.walks.later, body.walks.later); few = omega (arith, h.walks.few, body.walks.few); kept = keeps_then a b c h.walks.kept body.walks.kept })
        (omega (arith, h.walks.later, h.later_last, h.to, body.walks.later))
        (body_goes ts at d a ready sign.While here (WhileTest d (lexeme_at ts at)) (λ e. WhileBlock (lexeme_at ts at) e) (λ e ss k. Did (StmtAt (lexeme_at ts at).at [] (While e ss)) k) (λ k. refl) (only_while d (lexeme_at ts at)) (λ e k x. refl) (λ e. only_block (WhileBlock (lexeme_at ts at) e) (λ d ss k. refl) (λ ss k s. refl)) (λ e ss k x. refl) b id first test c ids next body) m

module _ (ts : List Token) (at d : ℕ) (a : Forest) (ready : IsReady ts at d a) (here : Next ts at sign.With) where
  pub with_refused : (e : Refusal) → ((f : Frame) → OnlyAt sign.Close f → Refuses (λ k. Wants (Test d ∷ f ∷ k)) ts (at + 1) e) → Refuses (λ k. Wants (Statement d ∷ k)) ts at e
  with_refused = tested_refused ts at d a ready sign.With here (WithTest d (lexeme_at ts at)) (λ e. WithBlock (lexeme_at ts at) e) (λ e ss k. Did (StmtAt (lexeme_at ts at).at [] (With e ss)) k) (λ k. refl) (only_with d (lexeme_at ts at)) (λ e k x. refl) (λ e. only_block (WithBlock (lexeme_at ts at) e) (λ d ss k. refl) (λ ss k s. refl)) (λ e ss k x. refl)

  module _ (b : Forest) (id : ExprId) (first : ℕ) (test : (suc d ≤ 200) × ReadsMarked sign.Close (λ k. Wants (Test d ∷ k)) ts (at + 1) a b id first) where
    pub with_body : (e : Refusal) → ((f : Frame) → OnlyBlock f → Refuses (λ k. Wants (BlockAt d ∷ f ∷ k)) ts first e) → Refuses (λ k. Wants (Statement d ∷ k)) ts at e
    with_body = body_refused ts at d a ready sign.With here (WithTest d (lexeme_at ts at)) (λ e. WithBlock (lexeme_at ts at) e) (λ e ss k. Did (StmtAt (lexeme_at ts at).at [] (With e ss)) k) (λ k. refl) (only_with d (lexeme_at ts at)) (λ e k x. refl) (λ e. only_block (WithBlock (lexeme_at ts at) e) (λ d ss k. refl) (λ ss k s. refl)) (λ e ss k x. refl) b id first test

    pub with_ends : (c g : Forest) (ids : List StmtId) (next : ℕ) (result : Result (StmtId × ℕ) Refusal) → ReadsBlock d ts first b c ids next → MadeStmt c g (StmtAt (lexeme_at ts at).at [] (With (expr_at c id) (stmts_at c ids))) next result → ReadsOne (λ k. Wants (Statement d ∷ k)) ts at a g result
    with_ends c g ids next result body m =
        let h = test.1 in
        made_of ts at next d a c g (StmtAt (lexeme_at ts at).at [] (With (expr_at c id) (stmts_at c ids))) result
        (record { in_text = body.walks.in_text; later = omega (arith, h.walks.later, body.walks.later); few = omega (arith, h.walks.few, body.walks.few); kept = keeps_then a b c h.walks.kept body.walks.kept })
        (omega (arith, h.walks.later, h.later_last, h.to, body.walks.later))
        (body_goes ts at d a ready sign.With here (WithTest d (lexeme_at ts at)) (λ e. WithBlock (lexeme_at ts at) e) (λ e ss k. Did (StmtAt (lexeme_at ts at).at [] (With e ss)) k) (λ k. refl) (only_with d (lexeme_at ts at)) (λ e k x. refl) (λ e. only_block (WithBlock (lexeme_at ts at) e) (λ d ss k. refl) (λ ss k s. refl)) (λ e ss k x. refl) b id first test c ids next body) m

module _ (ts : List Token) (at d : ℕ) (a : Forest) (ready : IsReady ts at d a) (here : Next ts at sign.If) where
  pub if_refused : (e : Refusal) → ((f : Frame) → OnlyAt sign.Close f → Refuses (λ k. Wants (Test d ∷ f ∷ k)) ts (at + 1) e) → Refuses (λ k. Wants (Statement d ∷ k)) ts at e
  if_refused = tested_refused ts at d a ready sign.If here (IfTest d (lexeme_at ts at)) (λ e. IfBlock d (lexeme_at ts at) e) (λ e ss k. Wants (AfterIf d (lexeme_at ts at) e ss ∷ k)) (λ k. refl) (only_if d (lexeme_at ts at)) (λ e k x. refl) (λ e. only_block (IfBlock d (lexeme_at ts at) e) (λ d ss k. refl) (λ ss k s. refl)) (λ e ss k x. refl)

  module _ (b : Forest) (id : ExprId) (first : ℕ) (test : (suc d ≤ 200) × ReadsMarked sign.Close (λ k. Wants (Test d ∷ k)) ts (at + 1) a b id first) where
    pub if_then : (e : Refusal) → ((f : Frame) → OnlyBlock f → Refuses (λ k. Wants (BlockAt d ∷ f ∷ k)) ts first e) → Refuses (λ k. Wants (Statement d ∷ k)) ts at e
    if_then = body_refused ts at d a ready sign.If here (IfTest d (lexeme_at ts at)) (λ e. IfBlock d (lexeme_at ts at) e) (λ e ss k. Wants (AfterIf d (lexeme_at ts at) e ss ∷ k)) (λ k. refl) (only_if d (lexeme_at ts at)) (λ e k x. refl) (λ e. only_block (IfBlock d (lexeme_at ts at) e) (λ d ss k. refl) (λ ss k s. refl)) (λ e ss k x. refl) b id first test

    module _ (c : Forest) (ids : List StmtId) (end : ℕ) (body : ReadsBlock d ts first b c ids end) where
      if_goes : (k : List Frame) → goes ts (Wants (Statement d ∷ k)) at ≡ goes ts (Wants (AfterIf d (lexeme_at ts at) (expr_at c id) (stmts_at c ids) ∷ k)) end
      if_goes = body_goes ts at d a ready sign.If here (IfTest d (lexeme_at ts at)) (λ e. IfBlock d (lexeme_at ts at) e) (λ e ss k. Wants (AfterIf d (lexeme_at ts at) e ss ∷ k)) (λ k. refl) (only_if d (lexeme_at ts at)) (λ e k x. refl) (λ e. only_block (IfBlock d (lexeme_at ts at) e) (λ d ss k. refl) (λ ss k s. refl)) (λ e ss k x. refl) b id first test c ids end body

      pub if_other : (e : Refusal) → ((w : Lexeme) (e' : Expr) (ss : Stmts) → Refuses (λ k. Wants (AfterIf d w e' ss ∷ k)) ts end e) → Refuses (λ k. Wants (Statement d ∷ k)) ts at e
      if_other e h = refuses_before _ (λ k. Wants (AfterIf d (lexeme_at ts at) (expr_at c id) (stmts_at c ids) ∷ k)) (λ k. k) ts at end e if_goes (h (lexeme_at ts at) (expr_at c id) (stmts_at c ids))

      pub if_ends : (f g : Forest) (others : List StmtId) (next : ℕ) (result : Result (StmtId × ℕ) Refusal) → ReadsElse d ts end c f others next → MadeStmt f g (StmtAt (lexeme_at ts at).at [] (If (expr_at f id) (stmts_at f ids) (stmts_at f others))) next result → ReadsOne (λ k. Wants (Statement d ∷ k)) ts at a g result
      if_ends f g others next result other m =
          let w = lexeme_at ts at in
          let h = test.1 in
          let in_c : IsExpr c id = (body.walks.kept.exprs id h.is_in).0 in
          let same : expr_at c id ≡ expr_at f id = sym (other.walks.kept.exprs id in_c).1 in
          let same_list : stmts_at c ids ≡ stmts_at f ids = sym (stmts_more_kept c f NoStmts ids (λ i x lt. body.are_in i x lt) other.walks.kept) in
          let kept_c = keeps_then a b c h.walks.kept body.walks.kept in
          made_of ts at next d a f g (StmtAt w.at [] (If (expr_at f id) (stmts_at f ids) (stmts_at f others))) result
          (record { in_text = other.walks.in_text; later = omega (arith, h.walks.later, body.walks.later, other.walks.later); few = omega (arith, h.walks.few, body.walks.few, other.walks.few); kept = keeps_then a c f kept_c other.walks.kept })
          (omega (arith, h.walks.later, h.later_last, h.to, body.walks.later, other.walks.later))
          (λ k. if_goes k
          ∙ ap (λ e. goes ts (Wants (AfterIf d w e (stmts_at c ids) ∷ k)) end) same
          ∙ ap (λ ss. goes ts (Wants (AfterIf d w (expr_at f id) ss ∷ k)) end) same_list
          ∙ other.leads w (expr_at f id) (stmts_at f ids) k) m

-- ## `do`

no_while : (d : ℕ) (w : Lexeme) (ss : Stmts) (k : List Frame) (s : Sign) (x : Lexeme) → s ≢ sign.While → ◌≡◌ {A = Step} (step (Wants (AfterDo d w ss ∷ k)) (s, x)) None
no_while d w ss k sign.While x p = absurd (p refl)
no_while d w ss k _ x p = refl

no_end : (d : ℕ) (st : Stmt) (k : List Frame) (s : Sign) (x : Lexeme) → s ≢ sign.Semicolon → ◌≡◌ {A = Step} (step (Wants (Ended d st ∷ k)) (s, x)) None
no_end d st k sign.Semicolon x p = absurd (p refl)
no_end d st k _ x p = refl

module _ (ts : List Token) (at d : ℕ) (a : Forest) (ready : IsReady ts at d a) (here : Next ts at sign.Do) where
  do_goes : (k : List Frame) → goes ts (Wants (Statement d ∷ k)) at ≡ goes ts (Wants (BlockAt d ∷ DoBlock d (lexeme_at ts at) ∷ k)) (at + 1)
  do_goes k = take_one ts (Wants (Statement d ∷ k)) (Wants (BlockAt d ∷ DoBlock d (lexeme_at ts at) ∷ k)) at d sign.Do here refl ready.shallow

  pub do_refused : (e : Refusal) → ((f : Frame) → OnlyBlock f → Refuses (λ k. Wants (BlockAt d ∷ f ∷ k)) ts (at + 1) e) → Refuses (λ k. Wants (Statement d ∷ k)) ts at e
  do_refused e h = refuses_before _ (λ k. Wants (BlockAt d ∷ DoBlock d (lexeme_at ts at) ∷ k)) (λ k. k) ts at (at + 1) e do_goes (h (DoBlock d (lexeme_at ts at)) (only_block (DoBlock d (lexeme_at ts at)) (λ d ss k. refl) (λ ss k s. refl)))

  module _ (b : Forest) (ids : List StmtId) (last : ℕ) (body : ReadsBlock d ts (at + 1) a b ids last) where
    do_did : (k : List Frame) → goes ts (Wants (Statement d ∷ k)) at ≡ goes ts (Wants (AfterDo d (lexeme_at ts at) (stmts_at b ids) ∷ k)) last
    do_did k = do_goes k ∙ body.leads (DoBlock d (lexeme_at ts at) ∷ k) ∙ take_to ts (Wants (InBlock (suc d) (stmts_at b ids) ∷ DoBlock d (lexeme_at ts at) ∷ k)) (Wants (AfterDo d (lexeme_at ts at) (stmts_at b ids) ∷ k)) body.last last (suc d) sign.CloseBrace body.mark refl body.deep body.to

    pub do_no_while : IsOther ts last sign.While → Refuses (λ k. Wants (Statement d ∷ k)) ts at (refusal.Syntax last)
    do_no_while other = (body.walks.in_text, λ k. do_did k ∙ refuse_one ts (Wants (AfterDo d (lexeme_at ts at) (stmts_at b ids) ∷ k)) last (other.0) (other.1) (no_while d (lexeme_at ts at) (stmts_at b ids) k (other.0) (lexeme_at ts last) (other.2)))

    module _ (first : ℕ) (to : first ≡ last + 1) (mark : Next ts last sign.While) (inside : first < length ts) where
      do_while : (k : List Frame) → goes ts (Wants (Statement d ∷ k)) at ≡ goes ts (Wants (Test d ∷ DoTest d (lexeme_at ts at) (stmts_at b ids) ∷ k)) first
      do_while k = do_did k ∙ take_to ts (Wants (AfterDo d (lexeme_at ts at) (stmts_at b ids) ∷ k)) (Wants (Test d ∷ DoTest d (lexeme_at ts at) (stmts_at b ids) ∷ k)) last first d sign.While mark refl ready.shallow to

      pub do_ready : IsReady ts first d b
      do_ready = record { in_text = inside; shallow = ready.shallow; short = ready.short; few = omega (arith, body.walks.few, ready.few, to) }

      pub do_test : (e : Refusal) → ((f : Frame) → OnlyAt sign.Close f → Refuses (λ k. Wants (Test d ∷ f ∷ k)) ts first e) → Refuses (λ k. Wants (Statement d ∷ k)) ts at e
      do_test e h = refuses_before _ (λ k. Wants (Test d ∷ DoTest d (lexeme_at ts at) (stmts_at b ids) ∷ k)) (λ k. k) ts at first e do_while (h (DoTest d (lexeme_at ts at) (stmts_at b ids)) (only_do d (lexeme_at ts at) (stmts_at b ids)))

      module _ (c : Forest) (id : ExprId) (end : ℕ) (test : (suc d ≤ 200) × ReadsMarked sign.Close (λ k. Wants (Test d ∷ k)) ts first b c id end) where
        do_tested : (k : List Frame) → goes ts (Wants (Statement d ∷ k)) at ≡ goes ts (Wants (Ended d (StmtAt (lexeme_at ts at).at [] (DoWhile (expr_at c id) (stmts_at c ids))) ∷ k)) end
        do_tested k =
            let h = test.1 in
            let w = lexeme_at ts at in
            let same : stmts_at b ids ≡ stmts_at c ids = sym (stmts_more_kept b c NoStmts ids (λ i x lt. body.are_in i x lt) h.walks.kept) in
            do_while k
            ∙ ap (λ ss. goes ts (Wants (Test d ∷ DoTest d w ss ∷ k)) first) same
            ∙ h.leads (DoTest d w (stmts_at c ids) ∷ k)
            ∙ take_to ts (Gives (expr_at c id) (DoTest d w (stmts_at c ids) ∷ k)) (Wants (Ended d (StmtAt w.at [] (DoWhile (expr_at c id) (stmts_at c ids))) ∷ k)) h.last end (suc d) sign.Close h.mark refl (test.0) h.to

        pub do_unmarked : IsOther ts end sign.Semicolon → Refuses (λ k. Wants (Statement d ∷ k)) ts at (refusal.Syntax end)
        do_unmarked other = ((test.1).walks.in_text, λ k. do_tested k ∙ refuse_one ts (Wants (Ended d (StmtAt (lexeme_at ts at).at [] (DoWhile (expr_at c id) (stmts_at c ids))) ∷ k)) end (other.0) (other.1) (no_end d (StmtAt (lexeme_at ts at).at [] (DoWhile (expr_at c id) (stmts_at c ids))) k (other.0) (lexeme_at ts end) (other.2)))

        pub do_ends : (g : Forest) (next : ℕ) (result : Result (StmtId × ℕ) Refusal) → next ≡ end + 1 → Next ts end sign.Semicolon → next < length ts → MadeStmt c g (StmtAt (lexeme_at ts at).at [] (DoWhile (expr_at c id) (stmts_at c ids))) next result → ReadsOne (λ k. Wants (Statement d ∷ k)) ts at a g result
        do_ends g next result to_next semi in_next m =
            let h = test.1 in
            let w = lexeme_at ts at in
            let s = StmtAt w.at [] (DoWhile (expr_at c id) (stmts_at c ids)) in
            made_of ts at next d a c g s result
            (record { in_text = in_next; later = omega (arith, body.walks.later, h.walks.later, to, to_next); few = omega (arith, body.walks.few, h.walks.few, to, to_next); kept = keeps_then a b c body.walks.kept h.walks.kept })
            (omega (arith, body.walks.later, h.walks.later, to, to_next))
            (λ k. do_tested k ∙ take_to ts (Wants (Ended d s ∷ k)) (Did s k) end next d sign.Semicolon semi refl ready.shallow to_next) m

module _ (ts : List Token) (at d : ℕ) (a : Forest) (ready : IsReady ts at d a) where
  module _ (here : Next ts at sign.Throw) where
    pub throw_refused : (e : Refusal) → ((f : Frame) → OnlyAt sign.Semicolon f → Refuses (λ k. Wants (machine.whole d (f ∷ k))) ts (at + 1) e) → Refuses (λ k. Wants (Statement d ∷ k)) ts at e
    throw_refused = ended_refused ts at d a ready (at + 1) (omega arith) (ThrowSemi d (lexeme_at ts at)) (λ e. StmtAt (lexeme_at ts at).at [] (Throw e)) (throw_goes ts at d ready.shallow here) (only_throw d (lexeme_at ts at)) (λ e k x. refl)

    pub throw_ends : (b c : Forest) (id : ExprId) (next : ℕ) (result : Result (StmtId × ℕ) Refusal) → ReadsMarked sign.Semicolon (λ k. Wants (machine.whole d k)) ts (at + 1) a b id next → MadeStmt b c (StmtAt (lexeme_at ts at).at [] (Throw (expr_at b id))) next result → ReadsOne (λ k. Wants (Statement d ∷ k)) ts at a c result
    throw_ends = ended_ends ts at d a ready (at + 1) (omega arith) (ThrowSemi d (lexeme_at ts at)) (λ e. StmtAt (lexeme_at ts at).at [] (Throw e)) (throw_goes ts at d ready.shallow here) (only_throw d (lexeme_at ts at)) (λ e k x. refl)

  module _ (here : Next ts at sign.Return) (s : Sign) (next_is : Next ts (at + 1) s) (p : s ≢ sign.Semicolon) where
    pub return_refused : (e : Refusal) → ((f : Frame) → OnlyAt sign.Semicolon f → Refuses (λ k. Wants (machine.whole d (f ∷ k))) ts (at + 1) e) → Refuses (λ k. Wants (Statement d ∷ k)) ts at e
    return_refused = ended_refused ts at d a ready (at + 1) (omega arith) (ReturnSemi d (lexeme_at ts at)) (λ e. StmtAt (lexeme_at ts at).at [] (Return (SomeExpr e))) (return_goes ts at d s ready.shallow here next_is p) (only_return d (lexeme_at ts at)) (λ e k x. refl)

    pub return_ends : (b c : Forest) (id : ExprId) (next : ℕ) (result : Result (StmtId × ℕ) Refusal) → ReadsMarked sign.Semicolon (λ k. Wants (machine.whole d k)) ts (at + 1) a b id next → MadeStmt b c (StmtAt (lexeme_at ts at).at [] (Return (SomeExpr (expr_at b id)))) next result → ReadsOne (λ k. Wants (Statement d ∷ k)) ts at a c result
    return_ends = ended_ends ts at d a ready (at + 1) (omega arith) (ReturnSemi d (lexeme_at ts at)) (λ e. StmtAt (lexeme_at ts at).at [] (Return (SomeExpr e))) (return_goes ts at d s ready.shallow here next_is p) (only_return d (lexeme_at ts at)) (λ e k x. refl)

  module _ (begins : BeginsOnly ts at) where
    pub only_refused : (e : Refusal) → ((f : Frame) → OnlyAt sign.Semicolon f → Refuses (λ k. Wants (machine.whole d (f ∷ k))) ts at e) → Refuses (λ k. Wants (Statement d ∷ k)) ts at e
    only_refused = ended_refused ts at d a ready at (omega arith) (Semi d (lexeme_at ts at)) (λ e. StmtAt (lexeme_at ts at).at [] (Only e)) (begins_goes ts at d ready.shallow begins) (only_semi d (lexeme_at ts at)) (λ e k x. refl)

    pub only_ends : (b c : Forest) (id : ExprId) (next : ℕ) (result : Result (StmtId × ℕ) Refusal) → ReadsMarked sign.Semicolon (λ k. Wants (machine.whole d k)) ts at a b id next → MadeStmt b c (StmtAt (lexeme_at ts at).at [] (Only (expr_at b id))) next result → ReadsOne (λ k. Wants (Statement d ∷ k)) ts at a c result
    only_ends = ended_ends ts at d a ready at (omega arith) (Semi d (lexeme_at ts at)) (λ e. StmtAt (lexeme_at ts at).at [] (Only e)) (begins_goes ts at d ready.shallow begins) (only_semi d (lexeme_at ts at)) (λ e k x. refl)

pub if_parts : (ts : List Token) (at first end next d : ℕ) (a b c f : Forest) (id : ExprId) {ids others : List StmtId} → ReadsMarked sign.Close (λ k. Wants (Test d ∷ k)) ts at a b id first → ReadsBlock d ts first b c ids end → ReadsElse d ts end c f others next → IsExpr f id × All (IsStmt f) ids × All (IsStmt f) others
if_parts ts at first end next d a b c f id {ids} {others} test body other =
    ((other.walks.kept.exprs id ((body.walks.kept.exprs id test.is_in).0)).0, stmts_kept_all c f ids body.are_in other.walks.kept, other.are_in)
