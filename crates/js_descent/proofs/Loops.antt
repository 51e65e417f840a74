-- The lists of the parser, so far.
use Rattle.std.proofs.Common.{◌≡◌, ℕ, suc, ◌+◌, ◌<◌, ◌≤◌, ◌^◌, List, [], ◌∷◌, ◌++◌, Bool, true, false, Option, Some, None, refl, ap, sym, subst, ◌∙◌, length, get_or, length-append, arith, nat_lt}
use Rattle.std.proofs.lemmas.Bool.Decides.{nat_tests}
use Rattle.std.specs.Prelude.{All, ◌≢◌, ◌⊎◌}
use Rattle.std.proofs.lemmas.List.Elements.{All-pop}
use Rattle.exact_refusals.specs.Judge as judge
use Rattle.js_tree.specs.declared.nodes.ExprId.{ExprId}
use Rattle.js_tree.specs.declared.nodes.StmtId.{StmtId}
use Rattle.js_tree.specs.declared.nodes.FunId.{FunId}
use Rattle.js_tree.specs.declared.nodes.Decl.{Decl}
use Rattle.js_tree.specs.declared.nodes.Clause.{Clause}
use Rattle.js_tree.specs.Plain.{Stmt, StmtAt, Label, Stmts, NoStmts, AndStmt, Funs, NoFuns, Decls, NoDecls, AndDecl, Clauses, NoClauses, AndClause}
use Rattle.js_tree.specs.Forest.{Forest, Keeps, IsStmt, IsFun, IsOptional, AreDecls, stmt_at, stmts_at, funs_at, decls_at, optional_at, clauses_at, AreClauseParts, size, AddsStmt}
use Rattle.js_grammar.specs.declared.Sign.{Sign}
use Rattle.js_grammar.specs.declared.Sign.TheVariants as sign
use Rattle.js_grammar.specs.Grammar.{Token, Lexeme, has_default}
use Rattle.js_grammar.specs.Machine as machine
use Rattle.js_grammar.specs.Machine.{Frame, State, Step, step, finished, Wants, Did, Statement, InBlock, InBody, Labelled, VarName, VarTail}
use Rattle.js_cursor.specs.declared.refusal.Refusal.{Refusal}
use Rattle.js_cursor.specs.declared.refusal.Refusal.TheVariants as refusal
use Rattle.js_cursor.specs.Reads.{goes, from, lexeme_at, Next, IsOther, Refuses}
use Rattle.js_descent.specs.Rows.{IsReady, ReadsStmt, ReadsDecl}
use Rattle.js_descent.specs.Walks.{Walks, ends_list, ReadsStatements, ReadsDecls, ReadsInit, goes_by, var_ends}
use Rattle.js_cursor.specs.Named.{ReadsLabels, labelled}
use Rattle.js_cursor.proofs.Reading.{take_to, refuse_one, same_one}
use Rattle.js_descent.proofs.Joins.{keeps_then, refuses_before}
use Rattle.js_descent.proofs.Chain.{walks_same}
use Rattle.js_descent.proofs.Lists.{stmts_more_kept, stmts_more_push, funs_more_kept, funs_more_push, stmts_in, funs_in, decls_more_kept, decls_more_push, decls_in}

-- a statement is put into its list
did_body : (ts : List Token) (at d : ℕ) (ss : Stmts) (fs : Funs) (s : Stmt) (k : List Frame) → goes ts (Did s (InBody d ss fs ∷ k)) at ≡ goes ts (Wants (InBody d (AndStmt ss s) fs ∷ k)) at
did_body ts at d ss fs s k = passes (from ts at)
  where
    passes : (l : List Token) → judge.judge step finished 200 (Did s (InBody d ss fs ∷ k)) l ≡ judge.judge step finished 200 (Wants (InBody d (AndStmt ss s) fs ∷ k)) l
    passes [] = refl
    passes (t ∷ l) = refl

did_block : (ts : List Token) (at d : ℕ) (ss : Stmts) (s : Stmt) (k : List Frame) → goes ts (Did s (InBlock d ss ∷ k)) at ≡ goes ts (Wants (InBlock d (AndStmt ss s) ∷ k)) at
did_block ts at d ss s k = passes (from ts at)
  where
    passes : (l : List Token) → judge.judge step finished 200 (Did s (InBlock d ss ∷ k)) l ≡ judge.judge step finished 200 (Wants (InBlock d (AndStmt ss s) ∷ k)) l
    passes [] = refl
    passes (t ∷ l) = refl

did_label : (ts : List Token) (at : ℕ) (x : Lexeme) (s : Stmt) (k : List Frame) → goes ts (Did s (Labelled x ∷ k)) at ≡ goes ts (Did (StmtAt x.at (x.at ∷ []) (Label x.text s)) k) at
did_label ts at x s k = passes (from ts at)
  where
    passes : (l : List Token) → judge.judge step finished 200 (Did s (Labelled x ∷ k)) l ≡ judge.judge step finished 200 (Did (StmtAt x.at (x.at ∷ []) (Label x.text s)) k) l
    passes [] = refl
    passes (t ∷ l) = refl

-- a list goes on as a statement begins
body_statement : (ts : List Token) (at d : ℕ) (ss : Stmts) (fs : Funs) (k : List Frame) (s : Sign) → Next ts at s → s ≢ sign.CloseBrace → s ≢ sign.Function → goes ts (Wants (InBody d ss fs ∷ k)) at ≡ goes ts (Wants (Statement d ∷ InBody d ss fs ∷ k)) at
body_statement ts at d ss fs k s here p q = same_one ts _ _ at s here (same s (lexeme_at ts at) p q)
  where
    same : (s : Sign) (x : Lexeme) → s ≢ sign.CloseBrace → s ≢ sign.Function → step (Wants (InBody d ss fs ∷ k)) (s, x) ≡ step (Wants (Statement d ∷ InBody d ss fs ∷ k)) (s, x)
    same sign.CloseBrace x p q = absurd (p refl)
    same sign.Function x p q = absurd (q refl)
    same _ x p q = refl

block_statement : (ts : List Token) (at d : ℕ) (ss : Stmts) (k : List Frame) (s : Sign) → Next ts at s → ends_list s ≡ false → goes ts (Wants (InBlock d ss ∷ k)) at ≡ goes ts (Wants (Statement d ∷ InBlock d ss ∷ k)) at
block_statement ts at d ss k s here p = same_one ts _ _ at s here (same s (lexeme_at ts at) p)
  where
    same : (s : Sign) (x : Lexeme) → ends_list s ≡ false → step (Wants (InBlock d ss ∷ k)) (s, x) ≡ step (Wants (Statement d ∷ InBlock d ss ∷ k)) (s, x)
    same sign.End x p = cc
    same sign.CloseBrace x p = cc
    same sign.Case x p = cc
    same sign.Default x p = cc
    same _ x p = refl

-- ## Statements

pub record StatementsSoFar (ts : List Token) (at place d : ℕ) (a b : Forest) (list : List StmtId) : Type 0 where
  pub ready : IsReady ts place d b
  pub walks : Walks 0 ts at place a b
  pub are_in : All (IsStmt b) list
  pub leads : (k : List Frame) → goes ts (Wants (InBlock d NoStmts ∷ k)) at ≡ goes ts (Wants (InBlock d (stmts_at b list) ∷ k)) place

pub statements_begin : (ts : List Token) (at d : ℕ) (a : Forest) → IsReady ts at d a → StatementsSoFar ts at at d a a []
statements_begin ts at d a ready = record { ready = ready; walks = walks_same ts at a ready.in_text; are_in = λ i x lt. absurd (omega arith); leads = λ k. refl }

module _ (ts : List Token) (at place d : ℕ) (a b : Forest) (list : List StmtId) (so_far : StatementsSoFar ts at place d a b list) (s : Sign) (here : Next ts place s) where
  pub statements_end : ends_list s ≡ true → ReadsStatements d ts at a b list place
  statements_end ends = record { walks = so_far.walks; are_in = so_far.are_in; ends = (s, here, ends); leads = so_far.leads }

  pub statements_more : ends_list s ≡ false → (next : ℕ) (c : Forest) (id : StmtId) → ReadsStmt (λ k. Wants (Statement d ∷ k)) ts place b c id next → StatementsSoFar ts at next d a c (list ++ id ∷ [])
  statements_more goes_on next c id h =
      let same : stmts_at b list ≡ stmts_at c list = sym (stmts_more_kept b c NoStmts list (λ i x lt. so_far.are_in i x lt) h.kept) in
      record {
        ready = record { in_text = h.in_text; shallow = so_far.ready.shallow; short = so_far.ready.short; few = omega (arith, so_far.ready.few, h.few) };
        walks = record { in_text = h.in_text; later = omega (arith, so_far.walks.later, h.later); few = omega (arith, so_far.walks.few, h.few); kept = keeps_then a b c so_far.walks.kept h.kept };
        are_in = stmts_in b c list id so_far.are_in h.kept h.is_in;
        leads = λ k. so_far.leads k
            ∙ ap (λ ss. goes ts (Wants (InBlock d ss ∷ k)) place) same
            ∙ block_statement ts place d (stmts_at c list) k s here goes_on
            ∙ h.leads (InBlock d (stmts_at c list) ∷ k)
            ∙ did_block ts next d (stmts_at c list) (stmt_at c id) k
            ∙ ap (λ ss. goes ts (Wants (InBlock d ss ∷ k)) next) (sym (stmts_more_push c NoStmts list id));
      }

  pub statements_refused : ends_list s ≡ false → (e : Refusal) → Refuses (λ k. Wants (Statement d ∷ k)) ts place e → Refuses (λ k. Wants (InBlock d NoStmts ∷ k)) ts at e
  statements_refused goes_on e h = refuses_before _ (λ k. Wants (Statement d ∷ k)) (λ k. InBlock d (stmts_at b list) ∷ k) ts at place e (λ k. so_far.leads k ∙ block_statement ts place d (stmts_at b list) k s here goes_on) h

-- ## Labels

labelled_push : (ts : List Token) (xs : List ℕ) (x : ℕ) (k : List Frame) → labelled ts (xs ++ x ∷ []) k ≡ Labelled (lexeme_at ts x) ∷ labelled ts xs k
labelled_push ts [] x k = refl
labelled_push ts (y ∷ xs) x k = labelled_push ts xs x (Labelled (lexeme_at ts y) ∷ k)

-- the labels that are still to be put before the statement
pub record LabelsLeft (ts : List Token) (at next d : ℕ) (a b : Forest) (labels : List ℕ) (id : StmtId) : Type 0 where
  pub in_text : next < length ts
  pub short : length ts ≤ 2 ^ 31
  pub ready : size a ≤ at
  pub later : at < next
  pub few : size b + at + length labels ≤ size a + next
  pub kept : Keeps a b
  pub is_in : IsStmt b id
  pub tokens : All (λ x. x + 1 < length ts) labels
  pub leads : (k : List Frame) → goes ts (Wants (Statement d ∷ k)) at ≡ goes ts (Did (stmt_at b id) (labelled ts labels k)) next

pub labels_left : (ts : List Token) (at first next d : ℕ) (a b : Forest) (labels : List ℕ) (id : StmtId) → IsReady ts at d a → ReadsLabels ts at labels first → ReadsStmt (λ k. Wants (Statement d ∷ k)) ts first a b id next → LabelsLeft ts at next d a b labels id
labels_left ts at first next d a b labels id ready h g = record {
  in_text = g.in_text;
  short = ready.short;
  ready = ready.few;
  later = omega (arith, h.long, g.later);
  few = omega (arith, h.long, g.few);
  kept = g.kept;
  is_in = g.is_in;
  tokens = h.tokens;
  leads = λ k. h.leads d k ready.shallow ∙ g.leads (labelled ts labels k);
}

pub labels_refused : (ts : List Token) (at first d : ℕ) (labels : List ℕ) (e : Refusal) → d ≤ 200 → ReadsLabels ts at labels first → Refuses (λ k. Wants (Statement d ∷ k)) ts first e → Refuses (λ k. Wants (Statement d ∷ k)) ts at e
labels_refused ts at first d labels e le h g = refuses_before _ (λ k. Wants (Statement d ∷ k)) (labelled ts labels) ts at first e (λ k. h.leads d k le) g

pub labels_done : (ts : List Token) (at next d : ℕ) (a b : Forest) (id : StmtId) → LabelsLeft ts at next d a b [] id → ReadsStmt (λ k. Wants (Statement d ∷ k)) ts at a b id next
labels_done ts at next d a b id h = record { in_text = h.in_text; later = h.later; few = omega (arith, h.few); kept = h.kept; is_in = h.is_in; leads = h.leads }

front_all : (ts : List Token) (xs : List ℕ) (x : ℕ) → All (λ y. y + 1 < length ts) (xs ++ x ∷ []) → All (λ y. y + 1 < length ts) xs
front_all ts xs x h = (All-pop (λ y. y + 1 < length ts) (xs ++ x ∷ []) xs (Some x) refl h).0

pub labels_one : (ts : List Token) (at next d : ℕ) (a b c : Forest) (rest : List ℕ) (name : ℕ) (id new : StmtId) (text : List ℕ) → LabelsLeft ts at next d a b (rest ++ name ∷ []) id → text ≡ (lexeme_at ts name).text → Keeps b c → IsStmt c new → stmt_at c new ≡ StmtAt (lexeme_at ts name).at ((lexeme_at ts name).at ∷ []) (Label text (stmt_at b id)) → size c ≡ size b + 1 → LabelsLeft ts at next d a c rest new
labels_one ts at next d a b c rest name id new text h text_is kept is_in here sized =
    let x = lexeme_at ts name in
    let long = length-append rest (name ∷ []) in
    record {
      in_text = h.in_text;
      short = h.short;
      ready = h.ready;
      later = h.later;
      few = omega (arith, h.few, long, sized);
      kept = keeps_then a b c h.kept kept;
      is_in = is_in;
      tokens = λ i y lt. front_all ts rest name h.tokens i y lt;
      leads = λ k. h.leads k
          ∙ ap (λ l. goes ts (Did (stmt_at b id) l) next) (labelled_push ts rest name k)
          ∙ did_label ts next x (stmt_at b id) (labelled ts rest k)
          ∙ ap (λ t. goes ts (Did (StmtAt x.at (x.at ∷ []) (Label t (stmt_at b id))) (labelled ts rest k)) next) (sym text_is)
          ∙ ap (λ s. goes ts (Did s (labelled ts rest k)) next) (sym here);
    }

pub labels_step : (ts : List Token) (at next d : ℕ) (a b c : Forest) (labels rest : List ℕ) (name : ℕ) (id new : StmtId) (text : List ℕ) (last : ℕ) → labels ≡ rest ++ name ∷ [] → LabelsLeft ts at next d a b labels id → text ≡ (lexeme_at ts name).text → AddsStmt b c (StmtAt (lexeme_at ts name).at ((lexeme_at ts name).at ∷ []) (Label text (stmt_at b id))) new × (last ≡ next) → LabelsLeft ts at next d a c rest new
labels_step ts at next d a b c labels rest name id new text last is h text_is adds = let s = adds.0 in labels_one ts at next d a b c rest name id new text (subst (λ l. LabelsLeft ts at next d a b l id) is h) text_is s.kept s.is_in s.here s.sized

pub labels_all : (ts : List Token) (at next d : ℕ) (a b : Forest) (labels : List ℕ) (id : StmtId) → labels ≡ [] → LabelsLeft ts at next d a b labels id → ReadsStmt (λ k. Wants (Statement d ∷ k)) ts at a b id next
labels_all ts at next d a b labels id is h = labels_done ts at next d a b id (subst (λ l. LabelsLeft ts at next d a b l id) is h)

-- ## Declared variables

pub record DeclsSoFar (b : Bool) (ts : List Token) (at place d : ℕ) (f g : Forest) (list : List Decl) : Type 0 where
  pub ready : IsReady ts place d g
  pub walks : Walks 0 ts at place f g
  pub are_in : AreDecls g list
  pub leads : (k : List Frame) → goes ts (Wants (VarName b d NoDecls ∷ k)) at ≡ goes ts (Wants (VarName b d (decls_at g list) ∷ k)) place

pub decls_begin : (b : Bool) (ts : List Token) (at d : ℕ) (a : Forest) → IsReady ts at d a → DeclsSoFar b ts at at d a a []
decls_begin b ts at d a ready = record { ready = ready; walks = walks_same ts at a ready.in_text; are_in = λ i x lt. absurd (omega arith); leads = λ k. refl }

no_name : (b : Bool) (d : ℕ) (ds : Decls) (k : List Frame) (s : Sign) (x : Lexeme) → s ≢ sign.Name → ◌≡◌ {A = Step} (step (Wants (VarName b d ds ∷ k)) (s, x)) None
no_name b d ds k sign.Name x p = absurd (p refl)
no_name b d ds k _ x p = refl

past_comma : (d : ℕ) (next : List Frame) (other : Step) (s : Sign) → s ≢ sign.Comma → machine.comma_or d next other s ≡ other
past_comma d next other sign.Comma p = absurd (p refl)
past_comma d next other _ p = refl

module _ (b : Bool) (ts : List Token) (at place d : ℕ) (f g : Forest) (list : List Decl) (so_far : DeclsSoFar b ts at place d f g list) where
  pub decls_unnamed : IsOther ts place sign.Name → Refuses (λ k. Wants (VarName b d NoDecls ∷ k)) ts at (refusal.Syntax place)
  decls_unnamed other = (so_far.ready.in_text, λ k. so_far.leads k ∙ refuse_one ts (Wants (VarName b d (decls_at g list) ∷ k)) place (other.0) (other.1) (no_name b d (decls_at g list) k (other.0) (lexeme_at ts place) (other.2)))

  module _ (after : ℕ) (to : after ≡ place + 1) (inside : after < length ts) (name : Next ts place sign.Name) where
    decl_named : (k : List Frame) → goes ts (Wants (VarName b d NoDecls ∷ k)) at ≡ goes ts (Wants (VarTail b d (decls_at g list) (lexeme_at ts place) ∷ k)) after
    decl_named k = so_far.leads k ∙ take_to ts (Wants (VarName b d (decls_at g list) ∷ k)) (Wants (VarTail b d (decls_at g list) (lexeme_at ts place) ∷ k)) place after d sign.Name name refl so_far.ready.shallow to

    pub decl_ready : IsReady ts after d g
    decl_ready = record { in_text = inside; shallow = so_far.ready.shallow; short = so_far.ready.short; few = omega (arith, so_far.ready.few, to) }

    pub decl_refused : (e : Refusal) → ((ds : Decls) (x : Lexeme) → Refuses (λ k. Wants (VarTail b d ds x ∷ k)) ts after e) → Refuses (λ k. Wants (VarName b d NoDecls ∷ k)) ts at e
    decl_refused e h = refuses_before _ (λ k. Wants (VarTail b d (decls_at g list) (lexeme_at ts place) ∷ k)) (λ k. k) ts at after e decl_named (h (decls_at g list) (lexeme_at ts place))

    module _ (next : ℕ) (h : Forest) (decl : Decl) (v : Option ExprId) (read : ReadsInit b d ts after g h v next) (name_is : decl.name ≡ (lexeme_at ts place).text) (at_is : decl.at ≡ (lexeme_at ts place).at) (init_is : decl.init ≡ v) (s : Sign) (here : Next ts next s) where
      kept_list : decls_at g list ≡ decls_at h list
      kept_list = sym (decls_more_kept g h NoDecls list (λ i x lt. so_far.are_in i x lt) read.walks.kept)

      made : AndDecl (decls_at g list) (lexeme_at ts place).text (lexeme_at ts place).at (optional_at h v) ≡ decls_at h (list ++ decl ∷ [])
      made = ap (λ ds. AndDecl ds (lexeme_at ts place).text (lexeme_at ts place).at (optional_at h v)) kept_list
          ∙ ap (λ n. AndDecl (decls_at h list) n (lexeme_at ts place).at (optional_at h v)) (sym name_is)
          ∙ ap (λ n. AndDecl (decls_at h list) decl.name n (optional_at h v)) (sym at_is)
          ∙ ap (λ n. AndDecl (decls_at h list) decl.name decl.at (optional_at h n)) (sym init_is)
          ∙ sym (decls_more_push h NoDecls list decl)

      in_list : AreDecls h (list ++ decl ∷ [])
      in_list = decls_in g h list decl so_far.are_in read.walks.kept (subst (λ w. IsOptional h w) (sym init_is) read.is_in)

      decl_walks : Walks 0 ts at next f h
      decl_walks = record { in_text = read.walks.in_text; later = omega (arith, so_far.walks.later, read.walks.later, to); few = omega (arith, so_far.walks.few, read.walks.few, to); kept = keeps_then f g h so_far.walks.kept read.walks.kept }

      pub decls_end : s ≢ sign.Comma → ReadsDecls b d ts at f h (list ++ decl ∷ []) next
      decls_end p = record {
        walks = decl_walks;
        are_in = in_list;
        leads = λ k. decl_named k ∙ read.leads (decls_at g list) (lexeme_at ts place) k
            ∙ rw here (ap (λ r. judge.judge_step 200 r (suc (length (from ts (next + 1)))) (λ st. judge.judge step finished 200 st (from ts (next + 1))))
            (past_comma d (VarName b d (AndDecl (decls_at g list) (lexeme_at ts place).text (lexeme_at ts place).at (optional_at h v)) ∷ k) (machine.declared (AndDecl (decls_at g list) (lexeme_at ts place).text (lexeme_at ts place).at (optional_at h v)) k (s, lexeme_at ts next)) s p
            ∙ ap (λ ds. machine.declared ds k (s, lexeme_at ts next)) made));
      }

      pub decls_more : s ≡ sign.Comma → next + 1 < length ts → DeclsSoFar b ts at (next + 1) d f h (list ++ decl ∷ [])
      decls_more is inside_next = record {
        ready = record { in_text = inside_next; shallow = so_far.ready.shallow; short = so_far.ready.short; few = omega (arith, so_far.ready.few, read.walks.few, to) };
        walks = record { in_text = inside_next; later = omega (arith, decl_walks.later); few = omega (arith, decl_walks.few); kept = decl_walks.kept };
        are_in = in_list;
        leads = λ k. decl_named k ∙ read.leads (decls_at g list) (lexeme_at ts place) k ∙ comma_goes k;
      }
        where
          comma_goes : (k : List Frame) → goes_by ts (var_ends b d (decls_at g list) (lexeme_at ts place) (optional_at h v) k) next ≡ goes ts (Wants (VarName b d (decls_at h (list ++ decl ∷ [])) ∷ k)) (next + 1)
          comma_goes k =
              let comma : Next ts next sign.Comma = subst (λ y. Next ts next y) is here in
              let shallow : nat_lt 200 d ≡ false = grind (arith, nat_tests, so_far.ready.shallow) in
              rw (comma, shallow) (ap (λ ds. goes ts (Wants (VarName b d ds ∷ k)) (next + 1)) made)

-- ## Bodies of functions

pub record BodySoFar (ts : List Token) (at place d : ℕ) (a b : Forest) (list : List StmtId) (funs : List FunId) : Type 0 where
  pub ready : IsReady ts place d b
  pub later : at ≤ place
  pub few : size b + at ≤ size a + place
  pub kept : Keeps a b
  pub are_stmts : All (IsStmt b) list
  pub are_funs : All (IsFun b) funs
  pub leads : (k : List Frame) → goes ts (Wants (InBody d NoStmts NoFuns ∷ k)) at ≡ goes ts (Wants (InBody d (stmts_at b list) (funs_at b funs) ∷ k)) place

module _ (ts : List Token) (at place d : ℕ) (a b : Forest) (list : List StmtId) (funs : List FunId) (so_far : BodySoFar ts at place d a b list funs) where
  module _ (s : Sign) (here : Next ts place s) (p : s ≢ sign.CloseBrace) (q : s ≢ sign.Function) where
    pub body_stmt : (next : ℕ) (c : Forest) (id : StmtId) → ReadsStmt (λ k. Wants (Statement d ∷ k)) ts place b c id next → BodySoFar ts at next d a c (list ++ id ∷ []) funs
    body_stmt next c id h =
        let stmts_same : stmts_at b list ≡ stmts_at c list = sym (stmts_more_kept b c NoStmts list (λ i x lt. so_far.are_stmts i x lt) h.kept) in
        let funs_same : funs_at b funs ≡ funs_at c funs = sym (funs_more_kept b c NoFuns funs (λ i x lt. so_far.are_funs i x lt) h.kept) in
        record {
          ready = record { in_text = h.in_text; shallow = so_far.ready.shallow; short = so_far.ready.short; few = omega (arith, so_far.ready.few, h.few) };
          later = omega (arith, so_far.later, h.later);
          few = omega (arith, so_far.few, h.few);
          kept = keeps_then a b c so_far.kept h.kept;
          are_stmts = stmts_in b c list id so_far.are_stmts h.kept h.is_in;
          are_funs = λ i x lt. (h.kept.funs (get_or funs i x) (so_far.are_funs i x lt)).0;
          leads = λ k. so_far.leads k
              ∙ ap (λ ss. goes ts (Wants (InBody d ss (funs_at b funs) ∷ k)) place) stmts_same
              ∙ ap (λ fs. goes ts (Wants (InBody d (stmts_at c list) fs ∷ k)) place) funs_same
              ∙ body_statement ts place d (stmts_at c list) (funs_at c funs) k s here p q
              ∙ h.leads (InBody d (stmts_at c list) (funs_at c funs) ∷ k)
              ∙ did_body ts next d (stmts_at c list) (funs_at c funs) (stmt_at c id) k
              ∙ ap (λ ss. goes ts (Wants (InBody d ss (funs_at c funs) ∷ k)) next) (sym (stmts_more_push c NoStmts list id));
        }

    pub body_stmt_refused : (e : Refusal) → Refuses (λ k. Wants (Statement d ∷ k)) ts place e → Refuses (λ k. Wants (InBody d NoStmts NoFuns ∷ k)) ts at e
    body_stmt_refused e h = refuses_before _ (λ k. Wants (Statement d ∷ k)) (λ k. InBody d (stmts_at b list) (funs_at b funs) ∷ k) ts at place e (λ k. so_far.leads k ∙ body_statement ts place d (stmts_at b list) (funs_at b funs) k s here p q) h

  pub body_fun : (next : ℕ) (c : Forest) (id : FunId) → ReadsDecl d ts place b c id next → BodySoFar ts at next d a c list (funs ++ id ∷ [])
  body_fun next c id h =
      let stmts_same : stmts_at b list ≡ stmts_at c list = sym (stmts_more_kept b c NoStmts list (λ i x lt. so_far.are_stmts i x lt) h.kept) in
      let funs_same : funs_at b funs ≡ funs_at c funs = sym (funs_more_kept b c NoFuns funs (λ i x lt. so_far.are_funs i x lt) h.kept) in
      record {
        ready = record { in_text = h.in_text; shallow = so_far.ready.shallow; short = so_far.ready.short; few = omega (arith, so_far.ready.few, h.few) };
        later = omega (arith, so_far.later, h.later);
        few = omega (arith, so_far.few, h.few);
        kept = keeps_then a b c so_far.kept h.kept;
        are_stmts = λ i x lt. (h.kept.stmts (get_or list i x) (so_far.are_stmts i x lt)).0;
        are_funs = funs_in b c funs id so_far.are_funs h.kept h.is_in;
        leads = λ k. so_far.leads k
            ∙ ap (λ ss. goes ts (Wants (InBody d ss (funs_at b funs) ∷ k)) place) stmts_same
            ∙ ap (λ fs. goes ts (Wants (InBody d (stmts_at c list) fs ∷ k)) place) funs_same
            ∙ h.leads (stmts_at c list) (funs_at c funs) k
            ∙ ap (λ fs. goes ts (Wants (InBody d (stmts_at c list) fs ∷ k)) next) (sym (funs_more_push c NoFuns funs id));
      }

  pub body_fun_refused : (e : Refusal) → ((ss : Stmts) (fs : Funs) → Refuses (λ k. Wants (InBody d ss fs ∷ k)) ts place e) → Refuses (λ k. Wants (InBody d NoStmts NoFuns ∷ k)) ts at e
  body_fun_refused e h = refuses_before _ (λ k. Wants (InBody d (stmts_at b list) (funs_at b funs) ∷ k)) (λ k. k) ts at place e so_far.leads (h (stmts_at b list) (funs_at b funs))

-- ## Clauses of a `switch`

-- the state behind the clauses so far
abbrev pub cases_state : ℕ → Clauses → List Frame → State
cases_state d NoClauses k = Wants (machine.FirstCase d ∷ k)
cases_state d (AndClause cs test ss) k = Wants (InBlock d ss ∷ machine.InCase d cs test ∷ k)

pub record CasesSoFar (ts : List Token) (at place d : ℕ) (a b : Forest) (list : List Clause) (default : Bool) : Type 0 where
  pub ready : IsReady ts place d b
  pub walks : Walks 0 ts at place a b
  pub are_in : All (AreClauseParts b) list
  pub has : has_default (clauses_at b list) ≡ default
  pub ends : list ≡ [] ⊎ ((s : Sign) × Next ts place s × (ends_list s ≡ true))
  pub leads : (k : List Frame) → goes ts (Wants (machine.FirstCase d ∷ k)) at ≡ goes ts (cases_state d (clauses_at b list) k) place
