-- `for` in its forms.
use Rattle.std.proofs.Common.{◌≡◌, ℕ, suc, ◌+◌, ◌<◌, ◌≤◌, List, [], ◌∷◌, Bool, true, false, Option, Some, None, refl, ap, sym, subst, ◌∙◌, length, arith}
use Rattle.std.specs.Prelude.{Result, Ok, Err, All, ◌≢◌}
use Rattle.std.specs.declared.vec.Vec.{Vec}
use Rattle.std.specs.declared.alloc.Global.{Global}
use Rattle.js_tree.specs.declared.nodes.ExprId.{ExprId}
use Rattle.js_tree.specs.declared.nodes.StmtId.{StmtId}
use Rattle.js_tree.specs.declared.nodes.Decl.{Decl}
use Rattle.js_tree.specs.declared.nodes.ForInit.{ForInit as InitNode}
use Rattle.js_tree.specs.declared.nodes.ForInit.TheVariants as node
use Rattle.js_tree.specs.Plain.{Expr, Exprs, NoExprs, ExprAt, Name, Stmt, StmtAt, For, ForIn, Decls, NoDecls, ForInit, DeclsFirst, ExprsFirst, OptionalExpr, NoExpr, SomeExpr}
use Rattle.js_tree.specs.Forest.{Forest, Keeps, IsExpr, IsStmt, IsOptional, AreInit, expr_at, exprs_at, stmts_at, decls_at, init_at, optional_at}
use Rattle.js_grammar.specs.declared.Sign.{Sign}
use Rattle.js_grammar.specs.declared.Sign.TheVariants as sign
use Rattle.js_grammar.specs.Grammar.{Token, Lexeme}
use Rattle.js_grammar.specs.Machine as machine
use Rattle.js_grammar.specs.Machine.{Frame, State, Step, step, Wants, Gives, Did, Statement, InBlock, BlockAt, ForOpen, ForFirst, ForVar, ForVarName, ForName, ForTest, ForTestEnd, ForItemsEnd, ForVarEnd, ForEnd, ForOver, ForBlock, ForInBlock, ItemsAt, VarName, VarTail, MoreItems, whole}
use Rattle.js_cursor.specs.declared.refusal.Refusal.{Refusal}
use Rattle.js_cursor.specs.declared.refusal.Refusal.TheVariants as refusal
use Rattle.js_cursor.specs.Reads.{goes, lexeme_at, Next, IsOther, Refuses, MadeStmt}
use Rattle.js_descent.specs.Rows.{IsReady, ReadsOne}
use Rattle.js_descent.specs.Walks.{OnlyAt, OnlyBlock, ReadsMarked, ReadsBlock, ReadsDecls, ReadsItems, ReadsFirst, ReadsSecond, ReadsThird}
use Rattle.js_cursor.specs.Named.{IsForIn}
use Rattle.js_cursor.proofs.Reading.{take_one, take_to, refuse_one, deep_one, same_one}
use Rattle.js_descent.proofs.Joins.{keeps_then, refuses_before, stmt_made}
use Rattle.js_descent.proofs.Chain.{walks_same}
use Rattle.js_descent.proofs.Lists.{exprs_more_kept, exprs_kept_all, decls_more_kept, decls_kept_all, optional_kept}
use Rattle.js_descent.proofs.Steps.{only_block, by_take, by_none, next_once}

-- one deeper, as code says it
pub plus_one : (d : ℕ) → d + 1 ≡ suc d
plus_one d = omega arith

-- a statement that is read from further on
pub one_before : (start start' : List Frame → State) (ts : List Token) (at at' : ℕ) (a b : Forest) (result : Result (StmtId × ℕ) Refusal) → at ≤ at' → ((k : List Frame) → goes ts (start k) at ≡ goes ts (start' k) at') → ReadsOne start' ts at' a b result → ReadsOne start ts at a b result
one_before start start' ts at at' a b (Ok x) le go h = record { in_text = h.in_text; later = omega (arith, h.later, le); few = omega (arith, h.few, le); kept = h.kept; is_in = h.is_in; leads = λ k. go k ∙ h.leads k }
one_before start start' ts at at' a b (Err e) le go h = refuses_before start start' (λ k. k) ts at at' e go h

pub init_kept : (a b : Forest) (i : InitNode) → AreInit a i → Keeps a b → AreInit b i × (init_at b i ≡ init_at a i)
init_kept a b (node.Var decls) h kept = (decls_kept_all a b decls.items h kept, ap (λ ds. DeclsFirst ds) (decls_more_kept a b NoDecls decls.items (λ i x lt. h i x lt) kept))
init_kept a b (node.List ids) h kept = (exprs_kept_all a b ids.items h kept, ap (λ xs. ExprsFirst xs) (exprs_more_kept a b NoExprs ids.items (λ i x lt. h i x lt) kept))

-- ## The word and the bracket

no_for_open : (d : ℕ) (w : Lexeme) (k : List Frame) (s : Sign) (x : Lexeme) → s ≢ sign.Open → ◌≡◌ {A = Step} (step (Wants (ForOpen d w ∷ k)) (s, x)) None
no_for_open d w k sign.Open x p = absurd (p refl)
no_for_open d w k _ x p = refl

module _ (ts : List Token) (at d : ℕ) (a : Forest) (ready : IsReady ts at d a) (here : Next ts at sign.For) (inside : at + 1 < length ts) where
  for_word : (k : List Frame) → goes ts (Wants (Statement d ∷ k)) at ≡ goes ts (Wants (ForOpen d (lexeme_at ts at) ∷ k)) (at + 1)
  for_word k = take_one ts (Wants (Statement d ∷ k)) (Wants (ForOpen d (lexeme_at ts at) ∷ k)) at d sign.For here refl ready.shallow

  pub for_unopened : IsOther ts (at + 1) sign.Open → Refuses (λ k. Wants (Statement d ∷ k)) ts at (refusal.Syntax (at + 1))
  for_unopened other = (inside, λ k. for_word k ∙ refuse_one ts (Wants (ForOpen d (lexeme_at ts at) ∷ k)) (at + 1) (other.0) (other.1) (no_for_open d (lexeme_at ts at) k (other.0) (lexeme_at ts (at + 1)) (other.2)))

  module _ (mark : Next ts (at + 1) sign.Open) where
    pub for_deep : d ≡ 200 → Refuses (λ k. Wants (Statement d ∷ k)) ts at (refusal.TooDeep (at + 1))
    for_deep is = (inside, λ k. for_word k ∙ deep_one ts (Wants (ForOpen d (lexeme_at ts at) ∷ k)) (Wants (ForFirst d (lexeme_at ts at) ∷ k)) (at + 1) (suc d) sign.Open mark refl (omega (arith, is)))

    module _ (first inner : ℕ) (to : first ≡ at + 1 + 1) (is : inner ≡ suc d) (le : inner ≤ 200) where
      for_opens : (k : List Frame) → goes ts (Wants (Statement d ∷ k)) at ≡ goes ts (Wants (ForFirst d (lexeme_at ts at) ∷ k)) first
      for_opens k = for_word k ∙ take_to ts (Wants (ForOpen d (lexeme_at ts at) ∷ k)) (Wants (ForFirst d (lexeme_at ts at) ∷ k)) (at + 1) first (suc d) sign.Open mark refl (omega (arith, is, le)) to

      pub for_other : (b : Forest) (result : Result (StmtId × ℕ) Refusal) → ReadsOne (λ k. Wants (ForFirst d (lexeme_at ts at) ∷ k)) ts first a b result → ReadsOne (λ k. Wants (Statement d ∷ k)) ts at a b result
      for_other b result h = one_before (λ k. Wants (Statement d ∷ k)) (λ k. Wants (ForFirst d (lexeme_at ts at) ∷ k)) ts at first a b result (omega (arith, to)) for_opens h

      over_goes : (declared : Bool) (name : ℕ) → IsForIn ts first (Some (declared, name)) → (k : List Frame) → goes ts (Wants (ForFirst d (lexeme_at ts at) ∷ k)) first ≡ goes ts (Wants (whole (suc d) (ForOver d (lexeme_at ts at) declared (lexeme_at ts name) ∷ k))) (name + 2)
      over_goes true name h k =
          let w = lexeme_at ts at in
          let x = lexeme_at ts name in
          take_to ts (Wants (ForFirst d w ∷ k)) (Wants (ForVar d w ∷ k)) first name (suc d) sign.Var (h.2) refl (omega (arith, is, le)) (h.0)
          ∙ take_one ts (Wants (ForVar d w ∷ k)) (Wants (ForVarName d w x ∷ k)) name (suc d) sign.Name (h.3) refl (omega (arith, is, le))
          ∙ take_to ts (Wants (ForVarName d w x ∷ k)) (Wants (whole (suc d) (ForOver d w true x ∷ k))) (name + 1) (name + 2) (suc d) sign.In (h.4) refl (omega (arith, is, le)) (omega arith)
      over_goes false name h k =
          let w = lexeme_at ts at in
          let x = lexeme_at ts name in
          ap (λ n. goes ts (Wants (ForFirst d w ∷ k)) n) (sym (h.0))
          ∙ take_one ts (Wants (ForFirst d w ∷ k)) (Wants (ForName d w x ∷ k)) name (suc d) sign.Name (h.2) refl (omega (arith, is, le))
          ∙ take_to ts (Wants (ForName d w x ∷ k)) (Wants (whole (suc d) (ForOver d w false x ∷ k))) (name + 1) (name + 2) (suc d) sign.In (h.3) refl (omega (arith, is, le)) (omega arith)

      over_place : (declared : Bool) (name : ℕ) → IsForIn ts first (Some (declared, name)) → first ≤ name
      over_place true name h = omega (arith, h.0)
      over_place false name h = omega (arith, h.0)

      pub for_over : (b : Forest) (declared : Bool) (name : ℕ) (result : Result (StmtId × ℕ) Refusal) → IsForIn ts first (Some (declared, name)) → ReadsOne (λ k. Wants (whole (suc d) (ForOver d (lexeme_at ts at) declared (lexeme_at ts name) ∷ k))) ts (name + 2) a b result → ReadsOne (λ k. Wants (Statement d ∷ k)) ts at a b result
      for_over b declared name result over h = one_before (λ k. Wants (Statement d ∷ k)) (λ k. Wants (whole (suc d) (ForOver d (lexeme_at ts at) declared (lexeme_at ts name) ∷ k))) ts at (name + 2) a b result (omega (arith, to, over_place declared name over)) (λ k. for_opens k ∙ over_goes declared name over k) h

      pub for_over_ready : (declared : Bool) (name : ℕ) → IsForIn ts first (Some (declared, name)) → IsReady ts (name + 2) (suc d) a
      for_over_ready declared name over = record { in_text = omega (arith, within declared name over); shallow = omega (arith, is, le); short = ready.short; few = omega (arith, ready.few, to, over_place declared name over) }
        where
          within : (declared : Bool) (name : ℕ) → IsForIn ts first (Some (declared, name)) → name + 1 + 1 < length ts
          within true name h = h.1
          within false name h = h.1

      pub for_over_place : (declared : Bool) (name : ℕ) → IsForIn ts first (Some (declared, name)) → at < name
      for_over_place declared name over = omega (arith, to, over_place declared name over)

-- ## `for (x in ..)`

only_over : (d : ℕ) (w : Lexeme) (v : Bool) (x : Lexeme) → OnlyAt sign.Close (ForOver d w v x)
only_over d w v x e k sign.Close p q = absurd (q refl)
only_over d w v x e k _ p q = refl

module _ (ts : List Token) (at d inner : ℕ) (a : Forest) (is : inner ≡ suc d) (le : suc d ≤ 200) (w : Lexeme) (v : Bool) (x : Lexeme) where
  pub over_refused : (e : Refusal) → ((f : Frame) → OnlyAt sign.Close f → Refuses (λ k. Wants (whole inner (f ∷ k))) ts at e) → Refuses (λ k. Wants (whole (suc d) (ForOver d w v x ∷ k))) ts at e
  over_refused e h = subst (λ n. Refuses (λ k. Wants (whole n (ForOver d w v x ∷ k))) ts at e) is (h (ForOver d w v x) (only_over d w v x))

  module _ (b : Forest) (id : ExprId) (first : ℕ) (object : ReadsMarked sign.Close (λ k. Wants (whole inner k)) ts at a b id first) where
    over_object : (k : List Frame) → goes ts (Wants (whole (suc d) (ForOver d w v x ∷ k))) at ≡ goes ts (Wants (BlockAt d ∷ ForInBlock w v x (expr_at b id) ∷ k)) first
    over_object k =
        ap (λ n. goes ts (Wants (whole n (ForOver d w v x ∷ k))) at) (sym is)
        ∙ object.leads (ForOver d w v x ∷ k)
        ∙ take_to ts (Gives (expr_at b id) (ForOver d w v x ∷ k)) (Wants (BlockAt d ∷ ForInBlock w v x (expr_at b id) ∷ k)) object.last first (suc d) sign.Close object.mark refl le object.to

    pub over_body : (e : Refusal) → ((f : Frame) → OnlyBlock f → Refuses (λ k. Wants (BlockAt d ∷ f ∷ k)) ts first e) → Refuses (λ k. Wants (whole (suc d) (ForOver d w v x ∷ k))) ts at e
    over_body e h = refuses_before _ (λ k. Wants (BlockAt d ∷ ForInBlock w v x (expr_at b id) ∷ k)) (λ k. k) ts at first e over_object (h (ForInBlock w v x (expr_at b id)) (only_block (ForInBlock w v x (expr_at b id)) (λ d ss k. refl) (λ ss k s. refl)))

    pub over_ends : (c g : Forest) (ids : List StmtId) (text : List ℕ) (next : ℕ) (result : Result (StmtId × ℕ) Refusal) → ReadsBlock d ts first b c ids next → text ≡ x.text → MadeStmt c g (StmtAt w.at (x.at ∷ []) (ForIn v text (expr_at c id) (stmts_at c ids))) next result → ReadsOne (λ k. Wants (whole (suc d) (ForOver d w v x ∷ k))) ts at a g result
    over_ends c g ids text next result body text_is m =
        let same : expr_at b id ≡ expr_at c id = sym (body.walks.kept.exprs id object.is_in).1 in
        let st : Stmt = StmtAt w.at (x.at ∷ []) (ForIn v x.text (expr_at c id) (stmts_at c ids)) in
        stmt_made (λ k. Wants (whole (suc d) (ForOver d w v x ∷ k))) ts at next a c g (StmtAt w.at (x.at ∷ []) (ForIn v text (expr_at c id) (stmts_at c ids))) result
        body.walks.in_text
        (omega (arith, object.later_last, object.to, body.walks.later))
        (omega (arith, object.walks.few, body.walks.few))
        (keeps_then a b c object.walks.kept body.walks.kept)
        (λ k. over_object k
        ∙ ap (λ e. goes ts (Wants (BlockAt d ∷ ForInBlock w v x e ∷ k)) first) same
        ∙ body.leads (ForInBlock w v x (expr_at c id) ∷ k)
        ∙ take_to ts (Wants (InBlock (suc d) (stmts_at c ids) ∷ ForInBlock w v x (expr_at c id) ∷ k)) (Did st k) body.last next (suc d) sign.CloseBrace body.mark refl body.deep body.to
        ∙ ap (λ n. goes ts (Did (StmtAt w.at (x.at ∷ []) (ForIn v n (expr_at c id) (stmts_at c ids))) k) next) (sym text_is)) m

-- ## `for (..; ..; ..)`

no_var_part : (d : ℕ) (w : Lexeme) (ds : Decls) (k : List Frame) (s : Sign) (x : Lexeme) → s ≢ sign.Semicolon → ◌≡◌ {A = Step} (machine.declared ds (ForVarEnd d w ∷ k) (s, x)) None
no_var_part d w ds k sign.Semicolon x p = absurd (p refl)
no_var_part d w ds k _ x p = refl

no_items_part : (d : ℕ) (w : Lexeme) (xs : Exprs) (k : List Frame) (s : Sign) (x : Lexeme) → s ≢ sign.Semicolon → ◌≡◌ {A = Step} (machine.listed xs (ForItemsEnd d w ∷ k) (s, x)) None
no_items_part d w xs k sign.Semicolon x p = absurd (p refl)
no_items_part d w xs k _ x p = refl

no_last_part : (d : ℕ) (w : Lexeme) (i : ForInit) (test : OptionalExpr) (xs : Exprs) (k : List Frame) (s : Sign) (x : Lexeme) → s ≢ sign.Close → ◌≡◌ {A = Step} (machine.listed xs (ForEnd d w i test ∷ k) (s, x)) None
no_last_part d w i test xs k sign.Close x p = absurd (p refl)
no_last_part d w i test xs k _ x p = refl

no_in_var : (d : ℕ) (w y : Lexeme) (k : List Frame) (s : Sign) (x : Lexeme) → s ≢ sign.In → step (Wants (ForVarName d w y ∷ k)) (s, x) ≡ step (Wants (VarTail true (suc d) NoDecls y ∷ ForVarEnd d w ∷ k)) (s, x)
no_in_var d w y k sign.In x p = absurd (p refl)
no_in_var d w y k _ x p = refl

no_in_name : (d : ℕ) (w y : Lexeme) (k : List Frame) (s : Sign) (x : Lexeme) → s ≢ sign.In → step (Wants (ForName d w y ∷ k)) (s, x) ≡ step (Gives (ExprAt y.at [] (Name y.text)) (machine.tails true (suc d) (MoreItems true (suc d) NoExprs ∷ ForItemsEnd d w ∷ k))) (s, x)
no_in_name d w y k sign.In x p = absurd (p refl)
no_in_name d w y k _ x p = refl

no_var_name : (d : ℕ) (w : Lexeme) (k : List Frame) (s : Sign) (x : Lexeme) → s ≢ sign.Name → step (Wants (ForVar d w ∷ k)) (s, x) ≡ step (Wants (VarName true (suc d) NoDecls ∷ ForVarEnd d w ∷ k)) (s, x)
no_var_name d w k sign.Name x p = absurd (p refl)
no_var_name d w k _ x p = refl

no_var_first : (d : ℕ) (w : Lexeme) (k : List Frame) (s : Sign) (x : Lexeme) → s ≢ sign.Var → s ≢ sign.Name → step (Wants (ForFirst d w ∷ k)) (s, x) ≡ step (Wants (ItemsAt true (suc d) ∷ ForItemsEnd d w ∷ k)) (s, x)
no_var_first d w k sign.Var x p q = absurd (p refl)
no_var_first d w k sign.Name x p q = absurd (q refl)
no_var_first d w k _ x p q = refl

no_test_end : (d : ℕ) (w : Lexeme) (i : ForInit) (k : List Frame) (s : Sign) (x : Lexeme) → s ≢ sign.Semicolon → step (Wants (ForTest d w i ∷ k)) (s, x) ≡ step (Wants (whole (suc d) (ForTestEnd d w i ∷ k))) (s, x)
no_test_end d w i k sign.Semicolon x p = absurd (p refl)
no_test_end d w i k _ x p = refl

only_test_end : (d : ℕ) (w : Lexeme) (i : ForInit) → OnlyAt sign.Semicolon (ForTestEnd d w i)
only_test_end d w i e k sign.Semicolon x q = absurd (q refl)
only_test_end d w i e k _ x q = refl

module _ (ts : List Token) (at d inner : ℕ) (a : Forest) (is : inner ≡ suc d) (ready : IsReady ts at (suc d) a) where
  -- the first part
  module _ (other : IsForIn ts at None) where
    module _ (here : Next ts at sign.Var) where
      var_name : (w : Lexeme) (k : List Frame) (v : Sign) → Next ts (at + 1) v → (v ≡ sign.Name → IsOther ts (at + 1 + 1) sign.In) → goes ts (Wants (ForVar d w ∷ k)) (at + 1) ≡ goes ts (Wants (VarName true (suc d) NoDecls ∷ ForVarEnd d w ∷ k)) (at + 1)
      var_name w k sign.Name next un =
          let y = lexeme_at ts (at + 1) in
          let o = un refl in
          take_one ts (Wants (ForVar d w ∷ k)) (Wants (ForVarName d w y ∷ k)) (at + 1) (suc d) sign.Name next refl ready.shallow
          ∙ same_one ts (Wants (ForVarName d w y ∷ k)) (Wants (VarTail true (suc d) NoDecls y ∷ ForVarEnd d w ∷ k)) (at + 1 + 1) (o.0) (o.1) (no_in_var d w y k (o.0) (lexeme_at ts (at + 1 + 1)) (o.2))
          ∙ sym (take_one ts (Wants (VarName true (suc d) NoDecls ∷ ForVarEnd d w ∷ k)) (Wants (VarTail true (suc d) NoDecls y ∷ ForVarEnd d w ∷ k)) (at + 1) (suc d) sign.Name next refl ready.shallow)
      var_name w k v next un = same_one ts (Wants (ForVar d w ∷ k)) (Wants (VarName true (suc d) NoDecls ∷ ForVarEnd d w ∷ k)) (at + 1) v next (no_var_name d w k v (lexeme_at ts (at + 1)) (λ p. cc))

      vars_goes : (w : Lexeme) (k : List Frame) → goes ts (Wants (ForFirst d w ∷ k)) at ≡ goes ts (Wants (VarName true inner NoDecls ∷ ForVarEnd d w ∷ k)) (at + 1)
      vars_goes w k =
          let p = other.3 (next_once ts at (other.0) sign.Var (other.1) here) in
          take_one ts (Wants (ForFirst d w ∷ k)) (Wants (ForVar d w ∷ k)) at (suc d) sign.Var here refl ready.shallow
          ∙ var_name w k (p.0) (p.1) (p.2)
          ∙ ap (λ n. goes ts (Wants (VarName true n NoDecls ∷ ForVarEnd d w ∷ k)) (at + 1)) (sym is)

      pub vars_refused : (e : Refusal) → Refuses (λ k. Wants (VarName true inner NoDecls ∷ k)) ts (at + 1) e → (w : Lexeme) → Refuses (λ k. Wants (ForFirst d w ∷ k)) ts at e
      vars_refused e h w = refuses_before _ (λ k. Wants (VarName true inner NoDecls ∷ k)) (λ k. ForVarEnd d w ∷ k) ts at (at + 1) e (vars_goes w) h

      module _ (b : Forest) (ds : Vec Decl Global) (last : ℕ) (h : ReadsDecls true inner ts (at + 1) a b ds.items last) where
        pub vars_unmarked : IsOther ts last sign.Semicolon → (w : Lexeme) → Refuses (λ k. Wants (ForFirst d w ∷ k)) ts at (refusal.Syntax last)
        vars_unmarked o w = (h.walks.in_text, λ k. vars_goes w k ∙ h.leads (ForVarEnd d w ∷ k) ∙ by_none ts (machine.declared (decls_at b ds.items) (ForVarEnd d w ∷ k)) last (o.0) (o.1) (no_var_part d w (decls_at b ds.items) k (o.0) (lexeme_at ts last) (o.2)))

        pub vars_reads : (next : ℕ) → next ≡ last + 1 → Next ts last sign.Semicolon → next < length ts → ReadsFirst d ts at a b (node.Var ds) next
        vars_reads next to mark inside = record {
          walks = record { in_text = inside; later = omega (arith, h.walks.later, to); few = omega (arith, h.walks.few, to); kept = h.walks.kept };
          grows = omega (arith, h.walks.later, to);
          are_in = h.are_in;
          leads = λ w k. vars_goes w k ∙ h.leads (ForVarEnd d w ∷ k) ∙ by_take ts (machine.declared (decls_at b ds.items) (ForVarEnd d w ∷ k)) (Wants (ForTest d w (DeclsFirst (decls_at b ds.items)) ∷ k)) last next (suc d) sign.Semicolon mark refl ready.shallow to;
        }

    module _ (s : Sign) (here : Next ts at s) (no_var : s ≢ sign.Var) where
      first_item : (w : Lexeme) (k : List Frame) (s : Sign) → Next ts at s → s ≢ sign.Var → (s ≡ sign.Name → IsOther ts (at + 1) sign.In) → goes ts (Wants (ForFirst d w ∷ k)) at ≡ goes ts (Wants (ItemsAt true (suc d) ∷ ForItemsEnd d w ∷ k)) at
      first_item w k sign.Name here p un =
          let y = lexeme_at ts at in
          let o = un refl in
          let e : Expr = ExprAt y.at [] (Name y.text) in
          let t = machine.tails true (suc d) (MoreItems true (suc d) NoExprs ∷ ForItemsEnd d w ∷ k) in
          take_one ts (Wants (ForFirst d w ∷ k)) (Wants (ForName d w y ∷ k)) at (suc d) sign.Name here refl ready.shallow
          ∙ same_one ts (Wants (ForName d w y ∷ k)) (Gives e t) (at + 1) (o.0) (o.1) (no_in_name d w y k (o.0) (lexeme_at ts (at + 1)) (o.2))
          ∙ sym (take_one ts (Wants (ItemsAt true (suc d) ∷ ForItemsEnd d w ∷ k)) (Gives e t) at (suc d) sign.Name here refl ready.shallow)
      first_item w k s here p un = same_one ts (Wants (ForFirst d w ∷ k)) (Wants (ItemsAt true (suc d) ∷ ForItemsEnd d w ∷ k)) at s here (no_var_first d w k s (lexeme_at ts at) p (λ q. cc))

      list_goes : (w : Lexeme) (k : List Frame) → goes ts (Wants (ForFirst d w ∷ k)) at ≡ goes ts (Wants (ItemsAt true inner ∷ ForItemsEnd d w ∷ k)) at
      list_goes w k = first_item w k s here no_var (λ p. other.2 (next_once ts at (other.0) s (other.1) here ∙ p))
          ∙ ap (λ n. goes ts (Wants (ItemsAt true n ∷ ForItemsEnd d w ∷ k)) at) (sym is)

      pub list_refused : (e : Refusal) → Refuses (λ k. Wants (ItemsAt true inner ∷ k)) ts at e → (w : Lexeme) → Refuses (λ k. Wants (ForFirst d w ∷ k)) ts at e
      list_refused e h w = refuses_before _ (λ k. Wants (ItemsAt true inner ∷ k)) (λ k. ForItemsEnd d w ∷ k) ts at at e (list_goes w) h

      module _ (b : Forest) (ids : Vec ExprId Global) (last : ℕ) (h : ReadsItems true inner ts at a b ids.items last) where
        pub list_unmarked : IsOther ts last sign.Semicolon → (w : Lexeme) → Refuses (λ k. Wants (ForFirst d w ∷ k)) ts at (refusal.Syntax last)
        list_unmarked o w = (h.walks.in_text, λ k. list_goes w k ∙ h.leads (ForItemsEnd d w ∷ k) ∙ by_none ts (machine.listed (exprs_at b ids.items) (ForItemsEnd d w ∷ k)) last (o.0) (o.1) (no_items_part d w (exprs_at b ids.items) k (o.0) (lexeme_at ts last) (o.2)))

        pub list_reads : (next : ℕ) → next ≡ last + 1 → Next ts last sign.Semicolon → next < length ts → ReadsFirst d ts at a b (node.List ids) next
        list_reads next to mark inside = record {
          walks = record { in_text = inside; later = omega (arith, h.walks.later, to); few = omega (arith, h.walks.few, to); kept = h.walks.kept };
          grows = omega (arith, h.walks.later, to);
          are_in = h.are_in;
          leads = λ w k. list_goes w k ∙ h.leads (ForItemsEnd d w ∷ k) ∙ by_take ts (machine.listed (exprs_at b ids.items) (ForItemsEnd d w ∷ k)) (Wants (ForTest d w (ExprsFirst (exprs_at b ids.items)) ∷ k)) last next (suc d) sign.Semicolon mark refl ready.shallow to;
        }

  -- the second part
  pub second_none : Next ts at sign.Semicolon → at + 1 < length ts → ReadsSecond d ts at a a None (at + 1)
  second_none here inside = record {
    walks = record { in_text = inside; later = omega arith; few = omega arith; kept = (walks_same ts at a ready.in_text).kept };
    is_in = tt;
    leads = λ w i k. take_one ts (Wants (ForTest d w i ∷ k)) (Wants (ItemsAt false (suc d) ∷ ForEnd d w i NoExpr ∷ k)) at (suc d) sign.Semicolon here refl ready.shallow;
  }

  module _ (s : Sign) (here : Next ts at s) (p : s ≢ sign.Semicolon) where
    second_goes : (w : Lexeme) (i : ForInit) (k : List Frame) → goes ts (Wants (ForTest d w i ∷ k)) at ≡ goes ts (Wants (whole inner (ForTestEnd d w i ∷ k))) at
    second_goes w i k = same_one ts (Wants (ForTest d w i ∷ k)) (Wants (whole (suc d) (ForTestEnd d w i ∷ k))) at s here (no_test_end d w i k s (lexeme_at ts at) p)
        ∙ ap (λ n. goes ts (Wants (whole n (ForTestEnd d w i ∷ k))) at) (sym is)

    pub second_refused : (e : Refusal) → ((f : Frame) → OnlyAt sign.Semicolon f → Refuses (λ k. Wants (whole inner (f ∷ k))) ts at e) → (w : Lexeme) (i : ForInit) → Refuses (λ k. Wants (ForTest d w i ∷ k)) ts at e
    second_refused e h w i = refuses_before _ (λ k. Wants (whole inner (ForTestEnd d w i ∷ k))) (λ k. k) ts at at e (second_goes w i) (h (ForTestEnd d w i) (only_test_end d w i))

    pub second_reads : (b : Forest) (id : ExprId) (next : ℕ) → ReadsMarked sign.Semicolon (λ k. Wants (whole inner k)) ts at a b id next → ReadsSecond d ts at a b (Some id) next
    second_reads b id next h = record {
      walks = h.walks;
      is_in = h.is_in;
      leads = λ w i k. second_goes w i k ∙ h.leads (ForTestEnd d w i ∷ k)
          ∙ take_to ts (Gives (expr_at b id) (ForTestEnd d w i ∷ k)) (Wants (ItemsAt false (suc d) ∷ ForEnd d w i (SomeExpr (expr_at b id)) ∷ k)) h.last next (suc d) sign.Semicolon h.mark refl ready.shallow h.to;
    }

  -- the third part
  third_goes : (w : Lexeme) (i : ForInit) (test : OptionalExpr) (k : List Frame) → goes ts (Wants (ItemsAt false (suc d) ∷ ForEnd d w i test ∷ k)) at ≡ goes ts (Wants (ItemsAt false inner ∷ ForEnd d w i test ∷ k)) at
  third_goes w i test k = ap (λ n. goes ts (Wants (ItemsAt false n ∷ ForEnd d w i test ∷ k)) at) (sym is)

  pub third_refused : (e : Refusal) → Refuses (λ k. Wants (ItemsAt false inner ∷ k)) ts at e → (w : Lexeme) (i : ForInit) (test : OptionalExpr) → Refuses (λ k. Wants (ItemsAt false (suc d) ∷ ForEnd d w i test ∷ k)) ts at e
  third_refused e h w i test = refuses_before _ (λ k. Wants (ItemsAt false inner ∷ k)) (λ k. ForEnd d w i test ∷ k) ts at at e (third_goes w i test) h

  module _ (b : Forest) (ids : List ExprId) (last : ℕ) (h : ReadsItems false inner ts at a b ids last) where
    pub third_unmarked : IsOther ts last sign.Close → (w : Lexeme) (i : ForInit) (test : OptionalExpr) → Refuses (λ k. Wants (ItemsAt false (suc d) ∷ ForEnd d w i test ∷ k)) ts at (refusal.Syntax last)
    third_unmarked o w i test = (h.walks.in_text, λ k. third_goes w i test k ∙ h.leads (ForEnd d w i test ∷ k) ∙ by_none ts (machine.listed (exprs_at b ids) (ForEnd d w i test ∷ k)) last (o.0) (o.1) (no_last_part d w i test (exprs_at b ids) k (o.0) (lexeme_at ts last) (o.2)))

    pub third_reads : (next : ℕ) → next ≡ last + 1 → Next ts last sign.Close → next < length ts → ReadsThird d ts at a b ids next
    third_reads next to mark inside = record {
      walks = record { in_text = inside; later = omega (arith, h.walks.later, to); few = omega (arith, h.walks.few, to); kept = h.walks.kept };
      are_in = h.are_in;
      leads = λ w i test k. third_goes w i test k ∙ h.leads (ForEnd d w i test ∷ k) ∙ by_take ts (machine.listed (exprs_at b ids) (ForEnd d w i test ∷ k)) (Wants (BlockAt d ∷ ForBlock w i test (exprs_at b ids) ∷ k)) last next (suc d) sign.Close mark refl ready.shallow to;
    }

-- the whole
module _ (ts : List Token) (at d : ℕ) (a : Forest) (w : Lexeme) (b : Forest) (i : InitNode) (second : ℕ) (one : ReadsFirst d ts at a b i second) where
  pub loop_ready : IsReady ts at (suc d) a → IsReady ts second (suc d) b
  loop_ready ready = record { in_text = one.walks.in_text; shallow = ready.shallow; short = ready.short; few = omega (arith, one.walks.few, ready.few) }

  pub loop_second : (e : Refusal) → ((w : Lexeme) (i : ForInit) → Refuses (λ k. Wants (ForTest d w i ∷ k)) ts second e) → Refuses (λ k. Wants (ForFirst d w ∷ k)) ts at e
  loop_second e h = refuses_before _ (λ k. Wants (ForTest d w (init_at b i) ∷ k)) (λ k. k) ts at second e (one.leads w) (h w (init_at b i))

  module _ (c : Forest) (v : Option ExprId) (third : ℕ) (two : ReadsSecond d ts second b c v third) where
    loop_to_third : (k : List Frame) → goes ts (Wants (ForFirst d w ∷ k)) at ≡ goes ts (Wants (ItemsAt false (suc d) ∷ ForEnd d w (init_at b i) (optional_at c v) ∷ k)) third
    loop_to_third k = one.leads w k ∙ two.leads w (init_at b i) k

    pub loop_third : (e : Refusal) → ((w : Lexeme) (i : ForInit) (test : OptionalExpr) → Refuses (λ k. Wants (ItemsAt false (suc d) ∷ ForEnd d w i test ∷ k)) ts third e) → Refuses (λ k. Wants (ForFirst d w ∷ k)) ts at e
    loop_third e h = refuses_before _ (λ k. Wants (ItemsAt false (suc d) ∷ ForEnd d w (init_at b i) (optional_at c v) ∷ k)) (λ k. k) ts at third e loop_to_third (h w (init_at b i) (optional_at c v))

    module _ (f : Forest) (steps : List ExprId) (brace : ℕ) (three : ReadsThird d ts third c f steps brace) where
      loop_to_block : (k : List Frame) → goes ts (Wants (ForFirst d w ∷ k)) at ≡ goes ts (Wants (BlockAt d ∷ ForBlock w (init_at b i) (optional_at c v) (exprs_at f steps) ∷ k)) brace
      loop_to_block k = loop_to_third k ∙ three.leads w (init_at b i) (optional_at c v) k

      pub loop_block : (e : Refusal) → ((f : Frame) → OnlyBlock f → Refuses (λ k. Wants (BlockAt d ∷ f ∷ k)) ts brace e) → Refuses (λ k. Wants (ForFirst d w ∷ k)) ts at e
      loop_block e h =
          let F = ForBlock w (init_at b i) (optional_at c v) (exprs_at f steps) in
          refuses_before _ (λ k. Wants (BlockAt d ∷ F ∷ k)) (λ k. k) ts at brace e loop_to_block (h F (only_block F (λ d ss k. refl) (λ ss k s. refl)))

      module _ (g : Forest) (ids : List StmtId) (next : ℕ) (body : ReadsBlock d ts brace f g ids next) where
        kept_c : Keeps c g
        kept_c = keeps_then c f g three.walks.kept body.walks.kept

        kept_b : Keeps b g
        kept_b = keeps_then b c g two.walks.kept kept_c

        pub loop_parts : AreInit g i × IsOptional g v × All (IsExpr g) steps × All (IsStmt g) ids
        loop_parts = ((init_kept b g i one.are_in kept_b).0, (optional_kept c g v two.is_in kept_c).0, exprs_kept_all f g steps three.are_in body.walks.kept, body.are_in)

        pub loop_ends : (h : Forest) (result : Result (StmtId × ℕ) Refusal) → MadeStmt g h (StmtAt w.at [] (For (init_at g i) (optional_at g v) (exprs_at g steps) (stmts_at g ids))) next result → ReadsOne (λ k. Wants (ForFirst d w ∷ k)) ts at a h result
        loop_ends h result m =
            let st : Stmt = StmtAt w.at [] (For (init_at g i) (optional_at g v) (exprs_at g steps) (stmts_at g ids)) in
            let same_i : init_at b i ≡ init_at g i = sym (init_kept b g i one.are_in kept_b).1 in
            let same_v : optional_at c v ≡ optional_at g v = sym (optional_kept c g v two.is_in kept_c).1 in
            let same_x : exprs_at f steps ≡ exprs_at g steps = sym (exprs_more_kept f g NoExprs steps (λ i x lt. three.are_in i x lt) body.walks.kept) in
            stmt_made (λ k. Wants (ForFirst d w ∷ k)) ts at next a g h st result
            body.walks.in_text
            (omega (arith, one.grows, two.walks.later, three.walks.later, body.walks.later))
            (omega (arith, one.walks.few, two.walks.few, three.walks.few, body.walks.few))
            (keeps_then a b g one.walks.kept kept_b)
            (λ k. loop_to_block k
            ∙ ap (λ n. goes ts (Wants (BlockAt d ∷ ForBlock w n (optional_at c v) (exprs_at f steps) ∷ k)) brace) same_i
            ∙ ap (λ n. goes ts (Wants (BlockAt d ∷ ForBlock w (init_at g i) n (exprs_at f steps) ∷ k)) brace) same_v
            ∙ ap (λ n. goes ts (Wants (BlockAt d ∷ ForBlock w (init_at g i) (optional_at g v) n ∷ k)) brace) same_x
            ∙ body.leads (ForBlock w (init_at g i) (optional_at g v) (exprs_at g steps) ∷ k)
            ∙ take_to ts (Wants (InBlock (suc d) (stmts_at g ids) ∷ ForBlock w (init_at g i) (optional_at g v) (exprs_at g steps) ∷ k)) (Did st k) body.last next (suc d) sign.CloseBrace body.mark refl body.deep body.to) m
