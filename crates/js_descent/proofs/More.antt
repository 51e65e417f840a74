-- Jumps, loops with `for`, `switch` and `try`.
use Rattle.std.proofs.Common.{◌≡◌, ℕ, ◌+◌, ◌<◌, List, [], ◌∷◌, Some, None, refl, sym, subst, ◌∙◌, length, arith, inl, inr}
use Rattle.std.specs.Prelude.{Result, ◌≢◌}
use Rattle.js_tree.specs.declared.nodes.StmtId.{StmtId}
use Rattle.js_tree.specs.Plain.{Stmt, StmtAt, Continue, Break}
use Rattle.js_tree.specs.Forest.{Forest}
use Rattle.js_grammar.specs.declared.Sign.{Sign}
use Rattle.js_grammar.specs.declared.Sign.TheVariants as sign
use Rattle.js_grammar.specs.Grammar.{Token, Lexeme}
use Rattle.js_grammar.specs.Machine.{Frame, Step, step, Wants, Did, Statement, Ended, AfterContinue, AfterBreak}
use Rattle.js_cursor.specs.declared.refusal.Refusal.{Refusal}
use Rattle.js_cursor.specs.declared.refusal.Refusal.TheVariants as refusal
use Rattle.js_cursor.specs.Reads.{goes, lexeme_at, Next, Refuses, MadeStmt}
use Rattle.js_descent.specs.Rows.{IsReady, ReadsOne}
use Rattle.js_cursor.specs.Named.{IsJump, IsNoJump}
use Rattle.js_cursor.proofs.Reading.{take_one, take_to, refuse_one}
use Rattle.js_descent.proofs.Joins.{keeps_same}
use Rattle.js_descent.proofs.Steps.{made_of}

-- ## Jumps

module _ (ts : List Token) (at d : ℕ) (a : Forest) (ready : IsReady ts at d a) (word : Sign) (here : Next ts at word) (F : Frame) (plain : Stmt) (named : Lexeme → Stmt)
    (word_step : (k : List Frame) → ◌≡◌ {A = Step} (step (Wants (Statement d ∷ k)) (word, lexeme_at ts at)) (Some (d, Wants (F ∷ k))))
    (plain_step : (k : List Frame) (x : Lexeme) → ◌≡◌ {A = Step} (step (Wants (F ∷ k)) (sign.Semicolon, x)) (Some (d, Did plain k)))
    (name_step : (k : List Frame) (x : Lexeme) → ◌≡◌ {A = Step} (step (Wants (F ∷ k)) (sign.Name, x)) (Some (d, Wants (Ended d (named x) ∷ k))))
    (none_step : (k : List Frame) (s : Sign) (x : Lexeme) → s ≢ sign.Name → s ≢ sign.Semicolon → ◌≡◌ {A = Step} (step (Wants (F ∷ k)) (s, x)) None) where
  jump_word : (k : List Frame) → goes ts (Wants (Statement d ∷ k)) at ≡ goes ts (Wants (F ∷ k)) (at + 1)
  jump_word k = take_one ts (Wants (Statement d ∷ k)) (Wants (F ∷ k)) at d word here (word_step k) ready.shallow

  pub jump_refused : (inside : at + 1 < length ts) (place : ℕ) → IsNoJump ts (at + 1) place → Refuses (λ k. Wants (Statement d ∷ k)) ts at (refusal.Syntax place)
  jump_refused inside place (inl h) =
      subst (λ n. Refuses (λ k. Wants (Statement d ∷ k)) ts at (refusal.Syntax n)) (sym (h.0)) (inside, λ k. jump_word k ∙ refuse_one ts (Wants (F ∷ k)) (at + 1) (h.1) (h.2) (none_step k (h.1) (lexeme_at ts (at + 1)) (h.3) (h.4)))
  jump_refused inside place (inr h) =
      let x = lexeme_at ts (at + 1) in
      (h.1, λ k. jump_word k ∙ take_to ts (Wants (F ∷ k)) (Wants (Ended d (named x) ∷ k)) (at + 1) place d sign.Name (h.2) (name_step k x) ready.shallow (h.0) ∙ refuse_one ts (Wants (Ended d (named x) ∷ k)) place (h.3).0 (h.3).1 (not_ended d (named x) k (h.3).0 (lexeme_at ts place) (h.3).2))
    where
      not_ended : (d : ℕ) (st : Stmt) (k : List Frame) (s : Sign) (x : Lexeme) → s ≢ sign.Semicolon → ◌≡◌ {A = Step} (step (Wants (Ended d st ∷ k)) (s, x)) None
      not_ended d st k sign.Semicolon x p = absurd (p refl)
      not_ended d st k _ x p = refl

  pub jump_plain : (next : ℕ) (c : Forest) (result : Result (StmtId × ℕ) Refusal) → IsJump ts (at + 1) None next → MadeStmt a c plain next result → ReadsOne (λ k. Wants (Statement d ∷ k)) ts at a c result
  jump_plain next c result h m =
      made_of ts at next d a a c plain result
      (record { in_text = h.2; later = omega (arith, h.1); few = omega (arith, h.1); kept = keeps_same a }) (omega (arith, h.1))
      (λ k. jump_word k ∙ take_to ts (Wants (F ∷ k)) (Did plain k) (at + 1) next d sign.Semicolon (h.0) (plain_step k (lexeme_at ts (at + 1))) ready.shallow (h.1)) m

  pub jump_named : (x next : ℕ) (c : Forest) (result : Result (StmtId × ℕ) Refusal) → IsJump ts (at + 1) (Some x) next → MadeStmt a c (named (lexeme_at ts x)) next result → ReadsOne (λ k. Wants (Statement d ∷ k)) ts at a c result
  jump_named x next c result h m =
      let y = lexeme_at ts (at + 1) in
      made_of ts at next d a a c (named y) result
      (record { in_text = h.4; later = omega (arith, h.3); few = omega (arith, h.3); kept = keeps_same a }) (omega (arith, h.3))
      (λ k. jump_word k ∙ take_one ts (Wants (F ∷ k)) (Wants (Ended d (named y) ∷ k)) (at + 1) d sign.Name (h.1) (name_step k y) ready.shallow ∙ take_to ts (Wants (Ended d (named y) ∷ k)) (Did (named y) k) (at + 1 + 1) next d sign.Semicolon (h.2) refl ready.shallow (h.3))
      (subst (λ n. MadeStmt a c (named (lexeme_at ts n)) next result) (h.0) m)

no_continue : (d : ℕ) (w : Lexeme) (k : List Frame) (s : Sign) (x : Lexeme) → s ≢ sign.Name → s ≢ sign.Semicolon → ◌≡◌ {A = Step} (step (Wants (AfterContinue d w ∷ k)) (s, x)) None
no_continue d w k sign.Name x p q = absurd (p refl)
no_continue d w k sign.Semicolon x p q = absurd (q refl)
no_continue d w k _ x p q = refl

no_break : (d : ℕ) (w : Lexeme) (k : List Frame) (s : Sign) (x : Lexeme) → s ≢ sign.Name → s ≢ sign.Semicolon → ◌≡◌ {A = Step} (step (Wants (AfterBreak d w ∷ k)) (s, x)) None
no_break d w k sign.Name x p q = absurd (p refl)
no_break d w k sign.Semicolon x p q = absurd (q refl)
no_break d w k _ x p q = refl

module _ (ts : List Token) (at d : ℕ) (a : Forest) (ready : IsReady ts at d a) where
  module _ (here : Next ts at sign.Continue) where
    pub continue_refused : at + 1 < length ts → (place : ℕ) → IsNoJump ts (at + 1) place → Refuses (λ k. Wants (Statement d ∷ k)) ts at (refusal.Syntax place)
    continue_refused = jump_refused ts at d a ready sign.Continue here (AfterContinue d (lexeme_at ts at)) (StmtAt (lexeme_at ts at).at [] (Continue None)) (λ x. StmtAt (lexeme_at ts at).at (x.at ∷ []) (Continue (Some x.text))) (λ k. refl) (λ k x. refl) (λ k x. refl) (no_continue d (lexeme_at ts at))

    pub continue_plain : (next : ℕ) (c : Forest) (result : Result (StmtId × ℕ) Refusal) → IsJump ts (at + 1) None next → MadeStmt a c (StmtAt (lexeme_at ts at).at [] (Continue None)) next result → ReadsOne (λ k. Wants (Statement d ∷ k)) ts at a c result
    continue_plain = jump_plain ts at d a ready sign.Continue here (AfterContinue d (lexeme_at ts at)) (StmtAt (lexeme_at ts at).at [] (Continue None)) (λ x. StmtAt (lexeme_at ts at).at (x.at ∷ []) (Continue (Some x.text))) (λ k. refl) (λ k x. refl) (λ k x. refl) (no_continue d (lexeme_at ts at))

    pub continue_named : (x next : ℕ) (text : List ℕ) (c : Forest) (result : Result (StmtId × ℕ) Refusal) → IsJump ts (at + 1) (Some x) next → text ≡ (lexeme_at ts x).text → MadeStmt a c (StmtAt (lexeme_at ts at).at ((lexeme_at ts x).at ∷ []) (Continue (Some text))) next result → ReadsOne (λ k. Wants (Statement d ∷ k)) ts at a c result
    continue_named x next text c result h is m = jump_named ts at d a ready sign.Continue here (AfterContinue d (lexeme_at ts at)) (StmtAt (lexeme_at ts at).at [] (Continue None)) (λ x. StmtAt (lexeme_at ts at).at (x.at ∷ []) (Continue (Some x.text))) (λ k. refl) (λ k x. refl) (λ k x. refl) (no_continue d (lexeme_at ts at)) x next c result h (subst (λ t. MadeStmt a c (StmtAt (lexeme_at ts at).at ((lexeme_at ts x).at ∷ []) (Continue (Some t))) next result) is m)

  module _ (here : Next ts at sign.Break) where
    pub break_refused : at + 1 < length ts → (place : ℕ) → IsNoJump ts (at + 1) place → Refuses (λ k. Wants (Statement d ∷ k)) ts at (refusal.Syntax place)
    break_refused = jump_refused ts at d a ready sign.Break here (AfterBreak d (lexeme_at ts at)) (StmtAt (lexeme_at ts at).at [] (Break None)) (λ x. StmtAt (lexeme_at ts at).at (x.at ∷ []) (Break (Some x.text))) (λ k. refl) (λ k x. refl) (λ k x. refl) (no_break d (lexeme_at ts at))

    pub break_plain : (next : ℕ) (c : Forest) (result : Result (StmtId × ℕ) Refusal) → IsJump ts (at + 1) None next → MadeStmt a c (StmtAt (lexeme_at ts at).at [] (Break None)) next result → ReadsOne (λ k. Wants (Statement d ∷ k)) ts at a c result
    break_plain = jump_plain ts at d a ready sign.Break here (AfterBreak d (lexeme_at ts at)) (StmtAt (lexeme_at ts at).at [] (Break None)) (λ x. StmtAt (lexeme_at ts at).at (x.at ∷ []) (Break (Some x.text))) (λ k. refl) (λ k x. refl) (λ k x. refl) (no_break d (lexeme_at ts at))

    pub break_named : (x next : ℕ) (text : List ℕ) (c : Forest) (result : Result (StmtId × ℕ) Refusal) → IsJump ts (at + 1) (Some x) next → text ≡ (lexeme_at ts x).text → MadeStmt a c (StmtAt (lexeme_at ts at).at ((lexeme_at ts x).at ∷ []) (Break (Some text))) next result → ReadsOne (λ k. Wants (Statement d ∷ k)) ts at a c result
    break_named x next text c result h is m = jump_named ts at d a ready sign.Break here (AfterBreak d (lexeme_at ts at)) (StmtAt (lexeme_at ts at).at [] (Break None)) (λ x. StmtAt (lexeme_at ts at).at (x.at ∷ []) (Break (Some x.text))) (λ k. refl) (λ k x. refl) (λ k x. refl) (no_break d (lexeme_at ts at)) x next c result h (subst (λ t. MadeStmt a c (StmtAt (lexeme_at ts at).at ((lexeme_at ts x).at ∷ []) (Break (Some t))) next result) is m)
