-- Functions, from their bracket on, and the values of declared variables.
use Rattle.std.proofs.Common.{◌≡◌, ℕ, zero, suc, ◌+◌, ◌<◌, ◌≤◌, List, [], ◌∷◌, ◌++◌, Bool, Option, Some, None, refl, ap, sym, subst, ◌∙◌, length, drop, arith}
use Rattle.std.specs.Prelude.{Result, Ok, Err, MatchResult, ◌≢◌, slice_index_or}
use Rattle.js_tree.specs.declared.nodes.ExprId.{ExprId}
use Rattle.js_tree.specs.declared.nodes.StmtId.{StmtId}
use Rattle.js_tree.specs.declared.nodes.FunId.{FunId}
use Rattle.js_tree.specs.Plain.{Stmts, NoStmts, FunAt, Funs, NoFuns, AndFun, Decls, NoExpr, SomeExpr, fun_place}
use Rattle.js_tree.specs.Forest.{Forest, expr_at, fun_at, stmts_at, funs_at, AddsFun}
use Rattle.js_grammar.specs.declared.Sign.{Sign}
use Rattle.js_grammar.specs.declared.Sign.TheVariants as sign
use Rattle.js_grammar.specs.Grammar.{Token, Lexeme, fun_of, own_text, own_places, places}
use Rattle.js_grammar.specs.Machine as machine
use Rattle.js_grammar.specs.Machine.{Frame, State, Step, step, has_function, Wants, Gives, FunOpen, FirstName, NamesEnd, FunBody, FunEnd, InBody, DeclName, Declare, VarTail, VarInit}
use Rattle.js_cursor.specs.declared.refusal.Refusal.{Refusal}
use Rattle.js_cursor.specs.declared.refusal.Refusal.TheVariants as refusal
use Rattle.js_cursor.specs.Reads.{goes, lexeme_at, Next, IsOther, Refuses}
use Rattle.js_descent.specs.Rows.{IsReady, Reads, ReadsFun, ReadsDecl, ReadsBody}
use Rattle.js_cursor.specs.Named.{own_at, ReadsParams}
use Rattle.js_descent.specs.Walks.{ReadsInit, goes_by, var_ends}
use Rattle.js_cursor.proofs.Reading.{take_one, take_to, refuse_one, deep_one}
use Rattle.js_descent.proofs.Joins.{keeps_then, refuses_before}
use Rattle.js_descent.proofs.Chain.{walks_same}

no_bracket : (d : ℕ) (w : Lexeme) (own : Option Lexeme) (k : List Frame) (s : Sign) (x : Lexeme) → s ≢ sign.Open → ◌≡◌ {A = Step} (step (Wants (FunOpen d w own ∷ k)) (s, x)) None
no_bracket d w own k sign.Open x p = absurd (p refl)
no_bracket d w own k _ x p = refl

no_body : (d : ℕ) (w : Lexeme) (own : Option Lexeme) (xs : List Lexeme) (k : List Frame) (s : Sign) (x : Lexeme) → s ≢ sign.OpenBrace → ◌≡◌ {A = Step} (step (Wants (FunBody d w own xs ∷ k)) (s, x)) None
no_body d w own xs k sign.OpenBrace x p = absurd (p refl)
no_body d w own xs k _ x p = refl

own_then : (o : Option Lexeme) (ps : List ℕ) → own_places o [] ++ ps ≡ own_places o ps
own_then None ps = refl
own_then (Some x) ps = refl

module _ (ts : List Token) (at d : ℕ) (a : Forest) (ready : IsReady ts at d a) (w : Lexeme) (own : Option Lexeme) where
  pub code_unopened : IsOther ts at sign.Open → Refuses (λ k. Wants (FunOpen d w own ∷ k)) ts at (refusal.Syntax at)
  code_unopened other = (ready.in_text, λ k. refuse_one ts (Wants (FunOpen d w own ∷ k)) at (other.0) (other.1) (no_bracket d w own k (other.0) (lexeme_at ts at) (other.2)))

  module _ (here : Next ts at sign.Open) where
    pub code_deep : d ≡ 200 → Refuses (λ k. Wants (FunOpen d w own ∷ k)) ts at (refusal.TooDeep at)
    code_deep is = (ready.in_text, λ k. deep_one ts (Wants (FunOpen d w own ∷ k)) (Wants (FirstName (suc d) ∷ NamesEnd d w own ∷ k)) at (suc d) sign.Open here refl (omega (arith, is)))

    module _ (open_at inner : ℕ) (to : open_at ≡ at + 1) (is : inner ≡ suc d) (le : inner ≤ 200) where
      code_opens : (k : List Frame) → goes ts (Wants (FunOpen d w own ∷ k)) at ≡ goes ts (Wants (FirstName (suc d) ∷ NamesEnd d w own ∷ k)) open_at
      code_opens k = take_to ts (Wants (FunOpen d w own ∷ k)) (Wants (FirstName (suc d) ∷ NamesEnd d w own ∷ k)) at open_at (suc d) sign.Open here refl (omega (arith, is, le)) to

      pub code_params : (e : Refusal) → ((w : Lexeme) (own : Option Lexeme) → Refuses (λ k. Wants (FirstName (suc d) ∷ NamesEnd d w own ∷ k)) ts open_at e) → Refuses (λ k. Wants (FunOpen d w own ∷ k)) ts at e
      code_params e h = refuses_before _ (λ k. Wants (FirstName (suc d) ∷ NamesEnd d w own ∷ k)) (λ k. k) ts at open_at e code_opens (h w own)

      module _ (names : List (List ℕ)) (before after : List ℕ) (brace : ℕ) (p : ReadsParams d ts open_at names before after brace) where
        code_named : (k : List Frame) → goes ts (Wants (FunOpen d w own ∷ k)) at ≡ goes ts (Wants (FunBody d w own p.params ∷ k)) brace
        code_named k = code_opens k ∙ p.leads w own k

        pub code_unbraced : IsOther ts brace sign.OpenBrace → Refuses (λ k. Wants (FunOpen d w own ∷ k)) ts at (refusal.Syntax brace)
        code_unbraced other = (p.in_text, λ k. code_named k ∙ refuse_one ts (Wants (FunBody d w own p.params ∷ k)) brace (other.0) (other.1) (no_body d w own p.params k (other.0) (lexeme_at ts brace) (other.2)))

        module _ (first : ℕ) (to_first : first ≡ brace + 1) (mark : Next ts brace sign.OpenBrace) (inside : first < length ts) where
          code_braced : (k : List Frame) → goes ts (Wants (FunOpen d w own ∷ k)) at ≡ goes ts (Wants (InBody inner NoStmts NoFuns ∷ FunEnd w own p.params ∷ k)) first
          code_braced k = code_named k ∙ take_to ts (Wants (FunBody d w own p.params ∷ k)) (Wants (InBody inner NoStmts NoFuns ∷ FunEnd w own p.params ∷ k)) brace first inner sign.OpenBrace mark (rw is refl) le to_first

          pub code_ready : IsReady ts first inner a
          code_ready = record { in_text = inside; shallow = le; short = ready.short; few = omega (arith, ready.few, p.later, to, to_first) }

          pub code_inside : (e : Refusal) → Refuses (λ k. Wants (InBody inner NoStmts NoFuns ∷ k)) ts first e → Refuses (λ k. Wants (FunOpen d w own ∷ k)) ts at e
          code_inside e h = refuses_before _ (λ k. Wants (InBody inner NoStmts NoFuns ∷ k)) (λ k. FunEnd w own p.params ∷ k) ts at first e code_braced h

          pub code_ends : (b c : Forest) (list : List StmtId) (funs : List FunId) (end : ℕ) (fun : FunId) (node_at : ℕ) (name : Option (List ℕ)) → ReadsBody inner ts first a b list funs end → before ≡ own_places own [] → name ≡ own_text own → node_at ≡ w.at → AddsFun b c (FunAt node_at after name names (stmts_at b list) (funs_at b funs)) fun → ReadsFun (λ k. Wants (FunOpen d w own ∷ k)) w d ts at a c fun (end + 1)
          code_ends b c list funs end fun node_at name h before_is name_is at_is adds =
              let f = fun_of w own p.params (stmts_at b list) (funs_at b funs) in
              let own_is : own_places own [] ++ places p.params ≡ own_places own (places p.params) = own_then own (places p.params) in
              let places_is : after ≡ own_places own (places p.params) = p.placed ∙ ap (λ l. l ++ places p.params) before_is ∙ own_is in
              let same : fun_at c fun ≡ f = adds.here ∙ rw (at_is, places_is, name_is, p.named) refl in
              record {
                in_text = h.in_text;
                later = omega (arith, p.later, h.later, to, to_first);
                few = omega (arith, p.later, h.later, h.few, adds.sized, to, to_first);
                kept = keeps_then a b c h.kept adds.kept;
                is_in = adds.is_in;
                placed = ap fun_place same;
                leads = λ k st ends. code_braced k ∙ h.leads (FunEnd w own p.params ∷ k)
                    ∙ take_one ts (Wants (InBody inner (stmts_at b list) (funs_at b funs) ∷ FunEnd w own p.params ∷ k)) st end inner sign.CloseBrace h.closed (subst (λ g. ◌≡◌ {A = Step} (has_function inner g k) (Some (inner, st))) same (subst (λ i. ◌≡◌ {A = Step} (has_function i (fun_at c fun) k) (Some (i, st))) (sym is) ends)) le;
              }

-- ## A function declaration

no_name : (d : ℕ) (w : Lexeme) (ss : Stmts) (fs : Funs) (k : List Frame) (s : Sign) (x : Lexeme) → s ≢ sign.Name → ◌≡◌ {A = Step} (step (Wants (DeclName d w ss fs ∷ k)) (s, x)) None
no_name d w ss fs k sign.Name x p = absurd (p refl)
no_name d w ss fs k _ x p = refl

module _ (ts : List Token) (at d : ℕ) (a : Forest) (ready : IsReady ts at d a) (here : Next ts at sign.Function) (inside : at + 1 < length ts) where
  decl_word : (ss : Stmts) (fs : Funs) (k : List Frame) → goes ts (Wants (InBody d ss fs ∷ k)) at ≡ goes ts (Wants (DeclName d (lexeme_at ts at) ss fs ∷ k)) (at + 1)
  decl_word ss fs k = take_one ts (Wants (InBody d ss fs ∷ k)) (Wants (DeclName d (lexeme_at ts at) ss fs ∷ k)) at d sign.Function here refl ready.shallow

  pub decl_unnamed : IsOther ts (at + 1) sign.Name → (ss : Stmts) (fs : Funs) → Refuses (λ k. Wants (InBody d ss fs ∷ k)) ts at (refusal.Syntax (at + 1))
  decl_unnamed other ss fs = (inside, λ k. decl_word ss fs k ∙ refuse_one ts (Wants (DeclName d (lexeme_at ts at) ss fs ∷ k)) (at + 1) (other.0) (other.1) (no_name d (lexeme_at ts at) ss fs k (other.0) (lexeme_at ts (at + 1)) (other.2)))

  module _ (bracket : ℕ) (to : bracket ≡ at + 1 + 1) (name : Next ts (at + 1) sign.Name) (in_text : bracket < length ts) where
    decl_named : (ss : Stmts) (fs : Funs) (k : List Frame) → goes ts (Wants (InBody d ss fs ∷ k)) at ≡ goes ts (Wants (FunOpen d (lexeme_at ts at) (own_at ts (Some (at + 1))) ∷ Declare d ss fs ∷ k)) bracket
    decl_named ss fs k = decl_word ss fs k ∙ take_to ts (Wants (DeclName d (lexeme_at ts at) ss fs ∷ k)) (Wants (FunOpen d (lexeme_at ts at) (Some (lexeme_at ts (at + 1))) ∷ Declare d ss fs ∷ k)) (at + 1) bracket d sign.Name name refl ready.shallow to

    pub decl_result : (b : Forest) (r : Result (FunId × ℕ) Refusal) → MatchResult r (λ x. ReadsFun (λ k. Wants (FunOpen d (lexeme_at ts at) (own_at ts (Some (at + 1))) ∷ k)) (lexeme_at ts at) d ts bracket a b x.0 x.1) (λ e. Refuses (λ k. Wants (FunOpen d (lexeme_at ts at) (own_at ts (Some (at + 1))) ∷ k)) ts bracket e) → MatchResult r (λ x. ReadsDecl d ts at a b x.0 x.1) (λ e. (ss : Stmts) (fs : Funs) → Refuses (λ k. Wants (InBody d ss fs ∷ k)) ts at e)
    decl_result b (Ok x) h = record {
      in_text = h.in_text;
      later = omega (arith, h.later, to);
      few = omega (arith, h.few, to);
      kept = h.kept;
      is_in = h.is_in;
      leads = λ ss fs k. decl_named ss fs k ∙ h.leads (Declare d ss fs ∷ k) (Wants (InBody d ss (AndFun fs (fun_at b x.0)) ∷ k)) refl;
    }
    decl_result b (Err e) h = λ ss fs. refuses_before _ (λ k. Wants (FunOpen d (lexeme_at ts at) (own_at ts (Some (at + 1))) ∷ k)) (λ k. Declare d ss fs ∷ k) ts at bracket e (decl_named ss fs) h

-- ## The value of a declared variable

-- what comes of a token of another state with this step
by_same : (ts : List Token) (st : State) (f : Token → Step) (at : ℕ) (s : Sign) → Next ts at s → step st (s, lexeme_at ts at) ≡ f (s, lexeme_at ts at) → goes ts st at ≡ goes_by ts f at
by_same ts st f at s here is = rw (here, is) refl

no_init : (b : Bool) (d : ℕ) (ds : Decls) (y : Lexeme) (k : List Frame) (s : Sign) (x : Lexeme) → s ≢ sign.Assign → step (Wants (VarTail b d ds y ∷ k)) (s, x) ≡ var_ends b d ds y NoExpr k (s, x)
no_init b d ds y k sign.Assign x p = absurd (p refl)
no_init b d ds y k _ x p = refl

pub init_none : (b : Bool) (ts : List Token) (at d : ℕ) (a : Forest) (s : Sign) → IsReady ts at d a → Next ts at s → s ≢ sign.Assign → ReadsInit b d ts at a a None at
init_none b ts at d a s ready here p = record {
  walks = walks_same ts at a ready.in_text;
  is_in = tt;
  leads = λ ds x k. by_same ts (Wants (VarTail b d ds x ∷ k)) (var_ends b d ds x NoExpr k) at s here (no_init b d ds x k s (lexeme_at ts at) p);
}

module _ (b : Bool) (ts : List Token) (at d : ℕ) (a : Forest) (ready : IsReady ts at d a) (here : Next ts at sign.Assign) where
  init_goes : (ds : Decls) (x : Lexeme) (k : List Frame) → goes ts (Wants (VarTail b d ds x ∷ k)) at ≡ goes ts (Wants (machine.expr b d (VarInit b d ds x ∷ k))) (at + 1)
  init_goes ds x k = take_one ts (Wants (VarTail b d ds x ∷ k)) (Wants (machine.expr b d (VarInit b d ds x ∷ k))) at d sign.Assign here refl ready.shallow

  pub init_refused : (e : Refusal) → Refuses (λ k. Wants (machine.expr b d k)) ts (at + 1) e → (ds : Decls) (x : Lexeme) → Refuses (λ k. Wants (VarTail b d ds x ∷ k)) ts at e
  init_refused e h ds x = refuses_before _ (λ k. Wants (machine.expr b d k)) (λ k. VarInit b d ds x ∷ k) ts at (at + 1) e (init_goes ds x) h

  pub init_some : (c : Forest) (id : ExprId) (next : ℕ) → Reads (λ k. Wants (machine.expr b d k)) (λ k. k) ts (at + 1) a c id next → (s : Sign) → Next ts next s → ReadsInit b d ts at a c (Some id) next
  init_some c id next h s end = record {
    walks = record { in_text = h.in_text; later = omega (arith, h.later); few = omega (arith, h.few); kept = h.kept };
    is_in = h.is_in;
    leads = λ ds x k. init_goes ds x k ∙ h.leads (VarInit b d ds x ∷ k) ∙ by_same ts (Gives (expr_at c id) (VarInit b d ds x ∷ k)) (var_ends b d ds x (SomeExpr (expr_at c id)) k) next s end refl;
  }

-- a token stands at each place of the text
pub next_at : (ts : List Token) (at : ℕ) → at < length ts → (s : Sign) × Next ts at s
next_at ts at lt = ((slice_index_or ts at (sign.End, record { text = []; at = 0 })).0, stands ts at lt)
  where
    stands : (ts : List Token) (at : ℕ) → at < length ts → drop at ts ≡ slice_index_or ts at (sign.End, record { text = []; at = 0 }) ∷ drop (at + 1) ts
    stands [] at lt = let none : ⊥ = omega (arith, lt) in absurd none
    stands (t ∷ ts) zero lt = refl
    stands (t ∷ ts) (suc at) lt =
        let more : suc at + 1 ≡ suc (at + 1) = omega arith in
        rw more (stands ts at (omega (arith, lt)))

pub init_value : (b : Bool) (ts : List Token) (at d : ℕ) (a : Forest) → IsReady ts at d a → Next ts at sign.Assign → (c : Forest) (id : ExprId) (next : ℕ) → Reads (λ k. Wants (machine.expr b d k)) (λ k. k) ts (at + 1) a c id next → ReadsInit b d ts at a c (Some id) next
init_value b ts at d a ready here c id next h = let t = next_at ts next h.in_text in init_some b ts at d a ready here c id next h (t.0) (t.1)
