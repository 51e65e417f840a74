-- `switch` and its clauses.
use Rattle.std.proofs.Common.{◌≡◌, ℕ, suc, ◌+◌, ◌<◌, ◌≤◌, List, [], ◌∷◌, ◌++◌, Bool, true, false, Some, None, refl, ap, sym, subst, ◌∙◌, length, arith, ◌⊎◌, inl, inr}
use Rattle.std.specs.Prelude.{Result, All, ◌≢◌}
use Rattle.exact_refusals.specs.Judge as judge
use Rattle.js_tree.specs.declared.nodes.ExprId.{ExprId}
use Rattle.js_tree.specs.declared.nodes.StmtId.{StmtId}
use Rattle.js_tree.specs.declared.nodes.Clause.{Clause}
use Rattle.js_tree.specs.Plain.{Expr, Stmt, StmtAt, Switch, NoStmts, OptionalExpr, NoExpr, SomeExpr, Clauses, NoClauses, AndClause}
use Rattle.js_tree.specs.Forest.{Forest, IsExpr, IsOptional, AreClauseParts, expr_at, stmts_at, optional_at, clauses_at}
use Rattle.js_grammar.specs.declared.Sign.{Sign}
use Rattle.js_grammar.specs.declared.Sign.TheVariants as sign
use Rattle.js_grammar.specs.Grammar.{Token, Lexeme, has_default}
use Rattle.js_grammar.specs.Machine as machine
use Rattle.js_grammar.specs.Machine.{Frame, Step, step, finished, Wants, Gives, Did, Statement, InBlock, Test, SwitchTest, SwitchOpen, SwitchEnd, FirstCase, DefaultColon, CaseTest, InCase, whole}
use Rattle.js_cursor.specs.declared.refusal.Refusal.{Refusal}
use Rattle.js_cursor.specs.declared.refusal.Refusal.TheVariants as refusal
use Rattle.js_cursor.specs.Reads.{goes, from, lexeme_at, Next, IsOther, Refuses, MadeStmt}
use Rattle.js_descent.specs.Rows.{IsReady, ReadsOne}
use Rattle.js_descent.specs.Walks.{Walks, OnlyAt, ends_list, ReadsMarked, ReadsStatements, ReadsCases, goes_by}
use Rattle.js_cursor.proofs.Reading.{take_one, take_to, refuse_one, deep_one}
use Rattle.js_descent.proofs.Joins.{keeps_then, refuses_before}
use Rattle.js_descent.proofs.Chain.{walks_same}
use Rattle.js_descent.proofs.Lists.{clauses_more_kept, clauses_more_push, clauses_in}
use Rattle.js_descent.proofs.Loops.{CasesSoFar, cases_state}
use Rattle.js_descent.proofs.Steps.{made_of, by_take, by_none, next_once}

-- ## The clauses

only_case : (d : ℕ) (cs : Clauses) → OnlyAt sign.Colon (CaseTest d cs)
only_case d cs e k sign.Colon x p = absurd (p refl)
only_case d cs e k _ x p = refl

no_default_colon : (d : ℕ) (cs : Clauses) (k : List Frame) (s : Sign) (x : Lexeme) → s ≢ sign.Colon → ◌≡◌ {A = Step} (step (Wants (DefaultColon d cs ∷ k)) (s, x)) None
no_default_colon d cs k sign.Colon x p = absurd (p refl)
no_default_colon d cs k _ x p = refl

-- what a token does behind the clauses so far
cases_step : (d : ℕ) (cs : Clauses) (k : List Frame) (s : Sign) (x : Lexeme) → ends_list s ≡ true → step (cases_state d cs k) (s, x) ≡ machine.next_case d cs k s
cases_step d NoClauses k s x p = refl
cases_step d (AndClause cs test ss) k sign.End x p = refl
cases_step d (AndClause cs test ss) k sign.CloseBrace x p = refl
cases_step d (AndClause cs test ss) k sign.Case x p = refl
cases_step d (AndClause cs test ss) k sign.Default x p = refl
cases_step d (AndClause cs test ss) k _ x p = cc

-- the same for no clauses, where any token may stand
none_step : (d : ℕ) (k : List Frame) (s : Sign) (x : Lexeme) → step (cases_state d NoClauses k) (s, x) ≡ machine.next_case d NoClauses k s
none_step d k s x = refl

state_goes : (ts : List Token) (at d : ℕ) (cs : Clauses) (k : List Frame) (s : Sign) → Next ts at s → step (cases_state d cs k) (s, lexeme_at ts at) ≡ machine.next_case d cs k s → goes ts (cases_state d cs k) at ≡ goes_by ts (λ t. machine.next_case d cs k t.0) at
state_goes ts at d cs k s here is = rw here (ap (λ r. judge.judge_step 200 r (suc (length (from ts (at + 1)))) (λ st. judge.judge step finished 200 st (from ts (at + 1)))) is)

pub cases_begin : (ts : List Token) (at d : ℕ) (a : Forest) → IsReady ts at d a → CasesSoFar ts at at d a a [] false
cases_begin ts at d a ready = record { ready = ready; walks = walks_same ts at a ready.in_text; are_in = λ i x lt. absurd (omega arith); has = refl; ends = inl refl; leads = λ k. refl }

module _ (ts : List Token) (at place d : ℕ) (a b : Forest) (list : List Clause) (default : Bool) (so_far : CasesSoFar ts at place d a b list default) (s : Sign) (here : Next ts place s) where
  so_far_step : list ≡ [] ⊎ ((u : Sign) × Next ts place u × (ends_list u ≡ true)) → (k : List Frame) → step (cases_state d (clauses_at b list) k) (s, lexeme_at ts place) ≡ machine.next_case d (clauses_at b list) k s
  so_far_step (inl is) k = subst (λ l. step (cases_state d (clauses_at b l) k) (s, lexeme_at ts place) ≡ machine.next_case d (clauses_at b l) k s) (sym is) refl
  so_far_step (inr h) k = cases_step d (clauses_at b list) k s (lexeme_at ts place) (subst (λ u. ends_list u ≡ true) (next_once ts place (h.0) s (h.1) here) (h.2))

  so_far_goes : (k : List Frame) → goes ts (Wants (FirstCase d ∷ k)) at ≡ goes_by ts (λ t. machine.next_case d (clauses_at b list) k t.0) place
  so_far_goes k = so_far.leads k ∙ state_goes ts place d (clauses_at b list) k s here (so_far_step so_far.ends k)

  pub cases_end : s ≢ sign.Case → s ≢ sign.Default → ReadsCases d ts at a b list place
  cases_end p q = record { walks = so_far.walks; are_in = so_far.are_in; ends = (s, here, p, q); leads = so_far_goes }

  -- a second `default`
  pub default_twice : s ≡ sign.Default → default ≡ true → Refuses (λ k. Wants (FirstCase d ∷ k)) ts at (refusal.Syntax place)
  default_twice is yes_default = (so_far.ready.in_text, λ k. so_far_goes k ∙ by_none ts (λ t. machine.next_case d (clauses_at b list) k t.0) place sign.Default (subst (λ u. Next ts place u) is here) (twice (clauses_at b list) k (so_far.has ∙ yes_default)))
    where
      twice : (cs : Clauses) (k : List Frame) → has_default cs ≡ true → ◌≡◌ {A = Step} (machine.next_case d cs k sign.Default) None
      twice cs k h = rw h refl

  -- the statements of a clause
  module _ (test : OptionalExpr) (c : Forest) (first : ℕ) (to_first : (k : List Frame) → goes ts (Wants (FirstCase d ∷ k)) at ≡ goes ts (Wants (InBlock d NoStmts ∷ InCase d (clauses_at b list) test ∷ k)) first) where
    pub inside_refused : (e : Refusal) → Refuses (λ k. Wants (InBlock d NoStmts ∷ k)) ts first e → Refuses (λ k. Wants (FirstCase d ∷ k)) ts at e
    inside_refused e h = refuses_before _ (λ k. Wants (InBlock d NoStmts ∷ k)) (λ k. InCase d (clauses_at b list) test ∷ k) ts at first e to_first h

  -- one clause more
  one_more : (c f : Forest) (clause : Clause) (first next : ℕ) (more : Bool) → Walks 1 ts place first b c → ReadsStatements d ts first c f clause.body.items next →
      IsOptional f clause.test → has_default (AndClause (clauses_at b list) (optional_at f clause.test) (stmts_at f clause.body.items)) ≡ more →
      ((k : List Frame) → goes ts (Wants (FirstCase d ∷ k)) at ≡ goes ts (Wants (InBlock d NoStmts ∷ InCase d (clauses_at b list) (optional_at f clause.test) ∷ k)) first) →
      CasesSoFar ts at next d a f (list ++ clause ∷ []) more
  one_more c f clause first next more w body test has go =
      let kept = keeps_then b c f w.kept body.walks.kept in
      let ss = stmts_at f clause.body.items in
      let v = optional_at f clause.test in
      let same : AndClause (clauses_at b list) v ss ≡ clauses_at f (list ++ clause ∷ []) =
      ap (λ cs. AndClause cs v ss) (sym (clauses_more_kept b f NoClauses list (λ i x lt. so_far.are_in i x lt) kept)) ∙ sym (clauses_more_push f NoClauses list clause) in
      record {
        ready = record { in_text = body.walks.in_text; shallow = so_far.ready.shallow; short = so_far.ready.short; few = omega (arith, so_far.ready.few, w.few, body.walks.few) };
        walks = record { in_text = body.walks.in_text; later = omega (arith, so_far.walks.later, w.later, body.walks.later); few = omega (arith, so_far.walks.few, w.few, body.walks.few); kept = keeps_then a b f so_far.walks.kept kept };
        are_in = clauses_in b f list clause so_far.are_in kept (test, body.are_in);
        has = ap has_default (sym same) ∙ has;
        ends = inr body.ends;
        leads = λ k. go k ∙ body.leads (InCase d (clauses_at b list) v ∷ k) ∙ ap (λ cs. goes ts (cases_state d cs k) next) same;
      }

  -- `case`
  module _ (is : s ≡ sign.Case) where
    case_goes : (k : List Frame) → goes ts (Wants (FirstCase d ∷ k)) at ≡ goes ts (Wants (whole d (CaseTest d (clauses_at b list) ∷ k))) (place + 1)
    case_goes k = so_far_goes k ∙ by_take ts (λ t. machine.next_case d (clauses_at b list) k t.0) (Wants (whole d (CaseTest d (clauses_at b list) ∷ k))) place (place + 1) d sign.Case (subst (λ u. Next ts place u) is here) refl so_far.ready.shallow refl

    pub case_refused : (e : Refusal) → ((f : Frame) → OnlyAt sign.Colon f → Refuses (λ k. Wants (whole d (f ∷ k))) ts (place + 1) e) → Refuses (λ k. Wants (FirstCase d ∷ k)) ts at e
    case_refused e h = refuses_before _ (λ k. Wants (whole d (CaseTest d (clauses_at b list) ∷ k))) (λ k. k) ts at (place + 1) e case_goes (h (CaseTest d (clauses_at b list)) (only_case d (clauses_at b list)))

    module _ (c : Forest) (id : ExprId) (first : ℕ) (h : ReadsMarked sign.Colon (λ k. Wants (whole d k)) ts (place + 1) b c id first) where
      case_first : (k : List Frame) → goes ts (Wants (FirstCase d ∷ k)) at ≡ goes ts (Wants (InBlock d NoStmts ∷ InCase d (clauses_at b list) (SomeExpr (expr_at c id)) ∷ k)) first
      case_first k = case_goes k ∙ h.leads (CaseTest d (clauses_at b list) ∷ k)
          ∙ take_to ts (Gives (expr_at c id) (CaseTest d (clauses_at b list) ∷ k)) (Wants (InBlock d NoStmts ∷ InCase d (clauses_at b list) (SomeExpr (expr_at c id)) ∷ k)) h.last first d sign.Colon h.mark refl so_far.ready.shallow h.to

      pub case_ready : IsReady ts first d c
      case_ready = record { in_text = h.walks.in_text; shallow = so_far.ready.shallow; short = so_far.ready.short; few = omega (arith, so_far.ready.few, h.walks.few) }

      pub case_inside : (e : Refusal) → Refuses (λ k. Wants (InBlock d NoStmts ∷ k)) ts first e → Refuses (λ k. Wants (FirstCase d ∷ k)) ts at e
      case_inside = inside_refused (SomeExpr (expr_at c id)) c first case_first

      pub case_more : (f : Forest) (clause : Clause) (next : ℕ) → ReadsStatements d ts first c f clause.body.items next → clause.test ≡ Some id → CasesSoFar ts at next d a f (list ++ clause ∷ []) default
      case_more f clause next body test_is =
          let same : expr_at c id ≡ expr_at f id = sym (body.walks.kept.exprs id h.is_in).1 in
          let test : optional_at f clause.test ≡ SomeExpr (expr_at f id) = ap (optional_at f) test_is in
          one_more c f clause first next default
          (record { in_text = h.walks.in_text; later = omega (arith, h.walks.later); few = omega (arith, h.walks.few); kept = h.walks.kept }) body
          (subst (λ v. IsOptional f v) (sym test_is) ((body.walks.kept.exprs id h.is_in).0))
          (ap (λ v. has_default (AndClause (clauses_at b list) v (stmts_at f clause.body.items))) test ∙ so_far.has)
          (λ k. case_first k
          ∙ ap (λ e. goes ts (Wants (InBlock d NoStmts ∷ InCase d (clauses_at b list) (SomeExpr e) ∷ k)) first) same
          ∙ ap (λ v. goes ts (Wants (InBlock d NoStmts ∷ InCase d (clauses_at b list) v ∷ k)) first) (sym test))

  -- `default`
  module _ (is : s ≡ sign.Default) (first_one : default ≡ false) where
    default_step : (k : List Frame) → ◌≡◌ {A = Step} (machine.next_case d (clauses_at b list) k sign.Default) (Some (d, Wants (DefaultColon d (clauses_at b list) ∷ k)))
    default_step k = once (clauses_at b list) (so_far.has ∙ first_one)
      where
        once : (cs : Clauses) → has_default cs ≡ false → ◌≡◌ {A = Step} (machine.next_case d cs k sign.Default) (Some (d, Wants (DefaultColon d cs ∷ k)))
        once cs h = rw h refl

    default_goes : (k : List Frame) → goes ts (Wants (FirstCase d ∷ k)) at ≡ goes ts (Wants (DefaultColon d (clauses_at b list) ∷ k)) (place + 1)
    default_goes k = so_far_goes k ∙ by_take ts (λ t. machine.next_case d (clauses_at b list) k t.0) (Wants (DefaultColon d (clauses_at b list) ∷ k)) place (place + 1) d sign.Default (subst (λ u. Next ts place u) is here) (default_step k) so_far.ready.shallow refl

    pub default_unmarked : place + 1 < length ts → IsOther ts (place + 1) sign.Colon → Refuses (λ k. Wants (FirstCase d ∷ k)) ts at (refusal.Syntax (place + 1))
    default_unmarked inside o = (inside, λ k. default_goes k ∙ refuse_one ts (Wants (DefaultColon d (clauses_at b list) ∷ k)) (place + 1) (o.0) (o.1) (no_default_colon d (clauses_at b list) k (o.0) (lexeme_at ts (place + 1)) (o.2)))

    module _ (first : ℕ) (to : first ≡ place + 1 + 1) (mark : Next ts (place + 1) sign.Colon) (inside : first < length ts) where
      default_first : (k : List Frame) → goes ts (Wants (FirstCase d ∷ k)) at ≡ goes ts (Wants (InBlock d NoStmts ∷ InCase d (clauses_at b list) NoExpr ∷ k)) first
      default_first k = default_goes k ∙ take_to ts (Wants (DefaultColon d (clauses_at b list) ∷ k)) (Wants (InBlock d NoStmts ∷ InCase d (clauses_at b list) NoExpr ∷ k)) (place + 1) first d sign.Colon mark refl so_far.ready.shallow to

      pub default_ready : IsReady ts first d b
      default_ready = record { in_text = inside; shallow = so_far.ready.shallow; short = so_far.ready.short; few = omega (arith, so_far.ready.few, to) }

      pub default_inside : (e : Refusal) → Refuses (λ k. Wants (InBlock d NoStmts ∷ k)) ts first e → Refuses (λ k. Wants (FirstCase d ∷ k)) ts at e
      default_inside = inside_refused NoExpr b first default_first

      pub default_more : (f : Forest) (clause : Clause) (next : ℕ) → ReadsStatements d ts first b f clause.body.items next → clause.test ≡ None → CasesSoFar ts at next d a f (list ++ clause ∷ []) true
      default_more f clause next body test_is =
          let test : optional_at f clause.test ≡ NoExpr = ap (optional_at f) test_is in
          one_more b f clause first next true
          (record { in_text = inside; later = omega (arith, to); few = omega (arith, to); kept = (walks_same ts place b so_far.ready.in_text).kept }) body
          (subst (λ v. IsOptional f v) (sym test_is) tt)
          (ap (λ v. has_default (AndClause (clauses_at b list) v (stmts_at f clause.body.items))) test)
          (λ k. default_first k ∙ ap (λ v. goes ts (Wants (InBlock d NoStmts ∷ InCase d (clauses_at b list) v ∷ k)) first) (sym test))

-- ## The statement

only_switch : (d : ℕ) (w : Lexeme) → OnlyAt sign.Close (SwitchTest d w)
only_switch d w e k sign.Close x p = absurd (p refl)
only_switch d w e k _ x p = refl

no_switch_open : (d : ℕ) (w : Lexeme) (e : Expr) (k : List Frame) (s : Sign) (x : Lexeme) → s ≢ sign.OpenBrace → ◌≡◌ {A = Step} (step (Wants (SwitchOpen d w e ∷ k)) (s, x)) None
no_switch_open d w e k sign.OpenBrace x p = absurd (p refl)
no_switch_open d w e k _ x p = refl

no_more_cases : (d m : ℕ) (w : Lexeme) (e : Expr) (cs : Clauses) (k : List Frame) (s : Sign) → s ≢ sign.Case → s ≢ sign.Default → s ≢ sign.CloseBrace → ◌≡◌ {A = Step} (machine.next_case m cs (SwitchEnd d w e ∷ k) s) None
no_more_cases d m w e cs k sign.Case p q r = absurd (p refl)
no_more_cases d m w e cs k sign.Default p q r = absurd (q refl)
no_more_cases d m w e cs k sign.CloseBrace p q r = absurd (r refl)
no_more_cases d m w e cs k _ p q r = refl

module _ (ts : List Token) (at d : ℕ) (a : Forest) (ready : IsReady ts at d a) (here : Next ts at sign.Switch) where
  switch_word : (k : List Frame) → goes ts (Wants (Statement d ∷ k)) at ≡ goes ts (Wants (Test d ∷ SwitchTest d (lexeme_at ts at) ∷ k)) (at + 1)
  switch_word k = take_one ts (Wants (Statement d ∷ k)) (Wants (Test d ∷ SwitchTest d (lexeme_at ts at) ∷ k)) at d sign.Switch here refl ready.shallow

  pub switch_refused : (e : Refusal) → ((f : Frame) → OnlyAt sign.Close f → Refuses (λ k. Wants (Test d ∷ f ∷ k)) ts (at + 1) e) → Refuses (λ k. Wants (Statement d ∷ k)) ts at e
  switch_refused e h = refuses_before _ (λ k. Wants (Test d ∷ SwitchTest d (lexeme_at ts at) ∷ k)) (λ k. k) ts at (at + 1) e switch_word (h (SwitchTest d (lexeme_at ts at)) (only_switch d (lexeme_at ts at)))

  module _ (b : Forest) (id : ExprId) (brace : ℕ) (test : (suc d ≤ 200) × ReadsMarked sign.Close (λ k. Wants (Test d ∷ k)) ts (at + 1) a b id brace) where
    switch_value : (k : List Frame) → goes ts (Wants (Statement d ∷ k)) at ≡ goes ts (Wants (SwitchOpen d (lexeme_at ts at) (expr_at b id) ∷ k)) brace
    switch_value k =
        let h = test.1 in
        switch_word k ∙ h.leads (SwitchTest d (lexeme_at ts at) ∷ k)
        ∙ take_to ts (Gives (expr_at b id) (SwitchTest d (lexeme_at ts at) ∷ k)) (Wants (SwitchOpen d (lexeme_at ts at) (expr_at b id) ∷ k)) h.last brace (suc d) sign.Close h.mark refl (test.0) h.to

    pub switch_unopened : IsOther ts brace sign.OpenBrace → Refuses (λ k. Wants (Statement d ∷ k)) ts at (refusal.Syntax brace)
    switch_unopened o = ((test.1).walks.in_text, λ k. switch_value k ∙ refuse_one ts (Wants (SwitchOpen d (lexeme_at ts at) (expr_at b id) ∷ k)) brace (o.0) (o.1) (no_switch_open d (lexeme_at ts at) (expr_at b id) k (o.0) (lexeme_at ts brace) (o.2)))

    module _ (mark : Next ts brace sign.OpenBrace) where
      pub switch_deep : d ≡ 200 → Refuses (λ k. Wants (Statement d ∷ k)) ts at (refusal.TooDeep brace)
      switch_deep is = ((test.1).walks.in_text, λ k. switch_value k ∙ deep_one ts (Wants (SwitchOpen d (lexeme_at ts at) (expr_at b id) ∷ k)) (Wants (FirstCase (suc d) ∷ SwitchEnd d (lexeme_at ts at) (expr_at b id) ∷ k)) brace (suc d) sign.OpenBrace mark refl (omega (arith, is)))

      module _ (first inner : ℕ) (to : first ≡ brace + 1) (inside : first < length ts) (is : inner ≡ suc d) (le : inner ≤ 200) where
        switch_opens : (k : List Frame) → goes ts (Wants (Statement d ∷ k)) at ≡ goes ts (Wants (FirstCase inner ∷ SwitchEnd d (lexeme_at ts at) (expr_at b id) ∷ k)) first
        switch_opens k = switch_value k
            ∙ take_to ts (Wants (SwitchOpen d (lexeme_at ts at) (expr_at b id) ∷ k)) (Wants (FirstCase (suc d) ∷ SwitchEnd d (lexeme_at ts at) (expr_at b id) ∷ k)) brace first (suc d) sign.OpenBrace mark refl (test.0) to
            ∙ ap (λ n. goes ts (Wants (FirstCase n ∷ SwitchEnd d (lexeme_at ts at) (expr_at b id) ∷ k)) first) (sym is)

        pub switch_ready : IsReady ts first inner b
        switch_ready = record { in_text = inside; shallow = le; short = ready.short; few = omega (arith, ready.few, (test.1).walks.few, to) }

        pub switch_inside : (e : Refusal) → Refuses (λ k. Wants (FirstCase inner ∷ k)) ts first e → Refuses (λ k. Wants (Statement d ∷ k)) ts at e
        switch_inside e h = refuses_before _ (λ k. Wants (FirstCase inner ∷ k)) (λ k. SwitchEnd d (lexeme_at ts at) (expr_at b id) ∷ k) ts at first e switch_opens h

        module _ (c : Forest) (cs : List Clause) (last : ℕ) (h : ReadsCases inner ts first b c cs last) where
          switch_clauses : (k : List Frame) → goes ts (Wants (Statement d ∷ k)) at ≡ goes_by ts (λ t. machine.next_case inner (clauses_at c cs) (SwitchEnd d (lexeme_at ts at) (expr_at c id) ∷ k) t.0) last
          switch_clauses k = switch_opens k
              ∙ ap (λ e. goes ts (Wants (FirstCase inner ∷ SwitchEnd d (lexeme_at ts at) e ∷ k)) first) (sym (h.walks.kept.exprs id (test.1).is_in).1)
              ∙ h.leads (SwitchEnd d (lexeme_at ts at) (expr_at c id) ∷ k)

          pub switch_unclosed : IsOther ts last sign.CloseBrace → Refuses (λ k. Wants (Statement d ∷ k)) ts at (refusal.Syntax last)
          switch_unclosed o =
              let s = h.ends.0 in
              let same : s ≡ o.0 = next_once ts last s (o.0) (h.ends.1) (o.1) in
              (h.walks.in_text, λ k. switch_clauses k ∙ by_none ts (λ t. machine.next_case inner (clauses_at c cs) (SwitchEnd d (lexeme_at ts at) (expr_at c id) ∷ k) t.0) last s (h.ends.1) (no_more_cases d inner (lexeme_at ts at) (expr_at c id) (clauses_at c cs) k s (h.ends.2) (h.ends.3) (λ p. o.2 (sym same ∙ p))))

          pub switch_parts : IsExpr c id × All (AreClauseParts c) cs
          switch_parts = ((h.walks.kept.exprs id (test.1).is_in).0, h.are_in)

          pub switch_ends : (next : ℕ) (g : Forest) (result : Result (StmtId × ℕ) Refusal) → next ≡ last + 1 → Next ts last sign.CloseBrace → next < length ts → MadeStmt c g (StmtAt (lexeme_at ts at).at [] (Switch (expr_at c id) (clauses_at c cs))) next result → ReadsOne (λ k. Wants (Statement d ∷ k)) ts at a g result
          switch_ends next g result to_next close in_next m =
              let t = test.1 in
              let w = lexeme_at ts at in
              let st : Stmt = StmtAt w.at [] (Switch (expr_at c id) (clauses_at c cs)) in
              made_of ts at next d a c g st result
              (record { in_text = in_next; later = omega (arith, t.walks.later, h.walks.later, to, to_next); few = omega (arith, t.walks.few, h.walks.few, to, to_next); kept = keeps_then a b c t.walks.kept h.walks.kept })
              (omega (arith, t.walks.later, h.walks.later, to, to_next))
              (λ k. switch_clauses k ∙ by_take ts (λ t. machine.next_case inner (clauses_at c cs) (SwitchEnd d w (expr_at c id) ∷ k) t.0) (Did st k) last next inner sign.CloseBrace close refl le to_next) m
