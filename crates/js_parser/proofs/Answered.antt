-- From the machine's outcome to the sentences on the text.
use Rattle.std.proofs.Common.{◌≡◌, ℕ, ◌+◌, ◌<◌, ◌≤◌, List, [], ◌∷◌, length, true, None, refl, ap, sym, ◌∙◌, subst, arith, length-drop}
use Rattle.exact_refusals.specs.Judge.{judge}
use Rattle.exact_refusals.specs.Judge.Outcome.{Read}
use Rattle.exact_refusals.specs.Places.{HasTree}
use Rattle.std.specs.Prelude.{drop, ◌≢◌, ◌^◌, All}
use Rattle.js_tree.specs.declared.nodes.StmtId.{StmtId}
use Rattle.js_tree.specs.Forest.{Forest, IsStmt, stmts_at, no_trees, size}
use Rattle.js_tree.specs.Plain.{Stmts, NoStmts}
use Rattle.js_grammar.specs.declared.Sign.{Sign}
use Rattle.js_grammar.specs.declared.Sign.TheVariants as sign
use Rattle.js_grammar.specs.Grammar.{Token, Lexeme, IsProgram}
use Rattle.js_grammar.specs.Machine.{Step, begin, step, finished, Wants, Done, InBlock}
use Rattle.js_grammar.proofs.Laws.{read_means, tree_means, refused_means, deeper_means}
use Rattle.js_cursor.specs.declared.refusal.Refusal.{Refusal}
use Rattle.js_cursor.specs.declared.refusal.Refusal.TheVariants as refusal
use Rattle.js_parser.specs.declared.ParseFault.{ParseFault}
use Rattle.js_parser.specs.declared.ParseFault.TheVariants as fault
use Rattle.js_cursor.specs.Reads.{from, goes, lexeme_at, Next, Refuses}
use Rattle.js_descent.specs.Rows.{IsReady}
use Rattle.js_descent.specs.Walks.{ReadsStatements, ends_list}
use Rattle.js_parser.specs.Parse.{IsRefusal, IsPlaced, IsSaid, Stops}
use Rattle.js_cursor.proofs.Reading.{take_one, refuse_one}
use Rattle.js_descent.proofs.Steps.{next_once}

pub ready_first : (ts : List Token) (a : Forest) → 0 < length ts → length ts ≤ 2 ^ 31 → a ≡ no_trees → IsReady ts 0 0 a
ready_first ts a some short none = record { in_text = some; shallow = omega arith; short = short; few = subst (λ f. size f ≤ 0) (sym none) (omega arith) }

pub stops_of : (ts : List Token) (e : Refusal) → Refuses (λ k. Wants (InBlock 0 NoStmts ∷ k)) ts 0 e → Stops ts e
stops_of ts (refusal.Syntax place) h = (h.0, h.1 [])
stops_of ts (refusal.TooDeep place) h = (h.0, h.1 [])
stops_of ts refusal.Memory h = tt

no_more : (ss : Stmts) (s : Sign) (x : Lexeme) → ends_list s ≡ true → s ≢ sign.End → ◌≡◌ {A = Step} (step (Wants (InBlock 0 ss ∷ [])) (s, x)) None
no_more ss sign.End x ends p = absurd (p refl)
no_more ss sign.CloseBrace x ends p = refl
no_more ss sign.Case x ends p = refl
no_more ss sign.Default x ends p = refl
no_more ss _ x ends p = cc

module _ (ts : List Token) (a b : Forest) (ids : List StmtId) (last : ℕ) (h : ReadsStatements 0 ts 0 a b ids last) where
  pub program_other : (s : Sign) → Next ts last s → s ≢ sign.End → Stops ts (refusal.Syntax last)
  program_other s here p =
      let u = h.ends.0 in
      let same : u ≡ s = next_once ts last u s (h.ends.1) here in
      (h.walks.in_text, h.leads [] ∙ refuse_one ts (Wants (InBlock 0 (stmts_at b ids) ∷ [])) last u (h.ends.1) (no_more (stmts_at b ids) u (lexeme_at ts last) (h.ends.2) (λ q. p (sym same ∙ q))))

  pub program_end : Next ts last sign.End → last + 1 ≡ length ts → All (IsStmt b) ids × (goes ts begin 0 ≡ Read (stmts_at b ids))
  program_end here end =
      let rest : from ts (last + 1) ≡ [] = rw end (all_dropped ts) in
      (h.are_in, h.leads [] ∙ take_one ts (Wants (InBlock 0 (stmts_at b ids) ∷ [])) (Done (stmts_at b ids)) last 0 sign.End here refl (omega arith) ∙ ap (λ l. judge step finished 200 (Done (stmts_at b ids)) l) rest)
    where
      all_dropped : (l : List Token) → drop (length l) l ≡ []
      all_dropped [] = refl
      all_dropped (t ∷ l) = all_dropped l

module _ (ts : List Token) where
  left_length : (at : ℕ) → at < length ts → at + length (from ts at) ≡ length ts
  left_length at lt = omega (arith, length-drop at ts)

  pub refusal_placed : (r : Refusal) → Stops ts r → IsPlaced ts r
  refusal_placed (refusal.Syntax token) h = h.0
  refusal_placed (refusal.TooDeep token) h = h.0
  refusal_placed refusal.Memory h = tt

  pub refusal_exact : (r : Refusal) (e : ParseFault) → Stops ts r → IsSaid ts r e → IsRefusal ts e
  refusal_exact (refusal.Syntax token) e h said = subst (IsRefusal ts) (sym said) (token, refl, h.0, refused_means 200 ts (length (from ts token)) token (h.1) (left_length token (h.0)))
  refusal_exact (refusal.TooDeep token) e h said = subst (IsRefusal ts) (sym said) (token, refl, h.0, deeper_means 200 ts (length (from ts token)) token (h.1) (left_length token (h.0)))
  refusal_exact refusal.Memory e h said = subst (IsRefusal ts) (sym said) tt

  -- a text with a tree is not refused
  pub not_refused : (q : Stmts) (r : Refusal) (e : ParseFault) → HasTree IsProgram 200 ts q → Stops ts r → IsSaid ts r e → e ≡ fault.Memory
  not_refused q (refusal.Syntax token) e h r said = let is = tree_means 200 ts q h in let stuck = r.1 in cc (is, stuck)
  not_refused q (refusal.TooDeep token) e h r said = let is = tree_means 200 ts q h in let stuck = r.1 in cc (is, stuck)
  not_refused q refusal.Memory e h r said = said

  pub read_only : (p q : Stmts) → HasTree IsProgram 200 ts q → goes ts begin 0 ≡ Read p → p ≡ q
  read_only p q h r = let is = tree_means 200 ts q h in cc (is, r)

  pub read_tree : (p : Stmts) → goes ts begin 0 ≡ Read p → HasTree IsProgram 200 ts p
  read_tree p r = read_means 200 ts p r

-- the same, of a script that has these tokens
module _ (script ts : List Token) (same : script ≡ ts) where
  pub answered_tree : (p q : Stmts) → goes script begin 0 ≡ Read p → q ≡ p → HasTree IsProgram 200 ts q
  answered_tree p q r is = subst (λ x. HasTree IsProgram 200 ts x) (sym is) (subst (λ l. HasTree IsProgram 200 l p) same (read_tree script p r))

  pub answered_only : (p q : Stmts) → goes script begin 0 ≡ Read p → q ≡ p → (program : Stmts) → HasTree IsProgram 200 ts program → q ≡ program
  answered_only p q r is program h = is ∙ read_only script p program (subst (λ l. HasTree IsProgram 200 l program) (sym same) h) r

  module _ (r : Refusal) (e : ParseFault) (refuses : Stops script r) (said : IsSaid script r e) where
    pub answered_refused : (program : Stmts) → HasTree IsProgram 200 ts program → e ≡ fault.Memory
    answered_refused program h = not_refused script program r e (subst (λ l. HasTree IsProgram 200 l program) (sym same) h) refuses said

    pub answered_place : IsRefusal ts e
    answered_place = subst (λ l. IsRefusal l e) same (refusal_exact script r e refuses said)
