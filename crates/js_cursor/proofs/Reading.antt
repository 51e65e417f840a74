-- One token of the machine.
use Rattle.std.proofs.Common.{◌≡◌, ℕ, ◌+◌, ◌<◌, ◌≤◌, List, true, false, Some, None, refl, ap, sym, ◌∙◌, ltb, length, arith}
use Rattle.std.specs.Prelude.{◌≢◌}
use Rattle.std.proofs.lemmas.Bool.Decides.{nat_tests}
use Rattle.exact_refusals.specs.Judge.Outcome.{Refused, Deeper}
use Rattle.js_grammar.specs.declared.Sign.{Sign}
use Rattle.js_grammar.specs.Grammar.{Token, Lexeme}
use Rattle.js_grammar.specs.Machine.{Frame, State, Step, step}
use Rattle.js_cursor.specs.declared.refusal.Refusal.TheVariants as refusal
use Rattle.js_cursor.specs.Reads.{from, goes, lexeme_at, Next, IsOther, Refuses}

module _ (ts : List Token) where
  pub take_one : (a b : State) (at d : ℕ) (s : Sign) → Next ts at s → ◌≡◌ {A = Step} (step a (s, lexeme_at ts at)) (Some (d, b)) → d ≤ 200 → goes ts a at ≡ goes ts b (at + 1)
  take_one a b at d s here is le =
      let shallow : ltb 200 d ≡ false = grind (arith, nat_tests) in
      rw (here, is, shallow) refl

  -- one token, up to a place that is told
  pub take_to : (a b : State) (at n d : ℕ) (s : Sign) → Next ts at s → ◌≡◌ {A = Step} (step a (s, lexeme_at ts at)) (Some (d, b)) → d ≤ 200 → n ≡ at + 1 → goes ts a at ≡ goes ts b n
  take_to a b at n d s here is le to = take_one a b at d s here is le ∙ ap (goes ts b) (sym to)

  pub refuse_one : (a : State) (at : ℕ) (s : Sign) → Next ts at s → ◌≡◌ {A = Step} (step a (s, lexeme_at ts at)) None → goes ts a at ≡ Refused (length (from ts at))
  refuse_one a at s here is = rw (here, is) refl

  pub deep_one : (a b : State) (at d : ℕ) (s : Sign) → Next ts at s → ◌≡◌ {A = Step} (step a (s, lexeme_at ts at)) (Some (d, b)) → 200 < d → goes ts a at ≡ Deeper (length (from ts at))
  deep_one a b at d s here is lt =
      let deep : ltb 200 d ≡ true = grind (arith, nat_tests) in
      rw (here, is, deep) refl

  -- two states with the same step
  pub same_one : (a b : State) (at : ℕ) (s : Sign) → Next ts at s → step a (s, lexeme_at ts at) ≡ step b (s, lexeme_at ts at) → goes ts a at ≡ goes ts b at
  same_one a b at s here is = rw (here, is) refl

-- the next token is not the one that the state wants
pub other_refused : (start : List Frame → State) (ts : List Token) (at place : ℕ) (want : Sign) (mid : List Frame → State) → place < length ts → IsOther ts place want → ((k : List Frame) → goes ts (start k) at ≡ goes ts (mid k) place) → ((k : List Frame) (s : Sign) (x : Lexeme) → s ≢ want → ◌≡◌ {A = Step} (step (mid k) (s, x)) None) → Refuses start ts at (refusal.Syntax place)
other_refused start ts at place want mid lt other go none = (lt, λ k. go k ∙ refuse_one ts (mid k) place (other.0) (other.1) (none k (other.0) (lexeme_at ts place) (other.2)))
