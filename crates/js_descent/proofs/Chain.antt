-- Chains: what the machine has come over, whatever is to come after it.
use Rattle.std.proofs.Common.{◌≡◌, ℕ, suc, ◌+◌, ◌<◌, ◌≤◌, List, Some, None, refl, ap, ◌∙◌, length, arith}
use Rattle.std.specs.Prelude.{Result, ◌≢◌}
use Rattle.js_tree.specs.declared.nodes.StmtId.{StmtId}
use Rattle.js_tree.specs.Plain.{Stmt}
use Rattle.js_tree.specs.Forest.{Forest}
use Rattle.js_grammar.specs.declared.Sign.{Sign}
use Rattle.js_grammar.specs.Grammar.{Token, Lexeme}
use Rattle.js_grammar.specs.Machine.{Frame, State, Step, Did, step}
use Rattle.js_cursor.specs.declared.refusal.Refusal.{Refusal}
use Rattle.js_cursor.specs.declared.refusal.Refusal.TheVariants as refusal
use Rattle.js_cursor.specs.Reads.{goes, lexeme_at, Next, IsOther, Refuses, MadeStmt}
use Rattle.js_descent.specs.Rows.{IsReady, ReadsOne}
use Rattle.js_descent.specs.Walks.{Walks}
use Rattle.js_cursor.proofs.Reading.{take_to, refuse_one, deep_one, same_one}
use Rattle.js_descent.proofs.Joins.{keeps_same, keeps_then, refuses_before, stmt_made}

-- from `start` at `at` the machine comes to `now` at `place`
pub record Chain (spare : ℕ) (ts : List Token) (start now : List Frame → State) (at place : ℕ) (a b : Forest) : Type 0 where
  pub walks : Walks spare ts at place a b
  pub leads : (k : List Frame) → goes ts (start k) at ≡ goes ts (now k) place

pub walks_same : (ts : List Token) (at : ℕ) (a : Forest) → at < length ts → Walks 0 ts at at a a
walks_same ts at a lt = record { in_text = lt; later = omega arith; few = omega arith; kept = keeps_same a }

pub walks_then : (m n : ℕ) (ts : List Token) (at mid next : ℕ) (a b c : Forest) → Walks m ts at mid a b → Walks n ts mid next b c → Walks (m + n) ts at next a c
walks_then m n ts at mid next a b c h g = record { in_text = g.in_text; later = omega (arith, h.later, g.later); few = omega (arith, h.few, g.few); kept = keeps_then a b c h.kept g.kept }

pub walks_token : (n : ℕ) (ts : List Token) (at place next : ℕ) (a b : Forest) → Walks n ts at place a b → next ≡ place + 1 → next < length ts → Walks (suc n) ts at next a b
walks_token n ts at place next a b h to inside = record { in_text = inside; later = omega (arith, h.later, to); few = omega (arith, h.few, to); kept = h.kept }

pub chain_start : (ts : List Token) (start : List Frame → State) (at : ℕ) (a : Forest) → at < length ts → Chain 0 ts start start at at a a
chain_start ts start at a lt = record { walks = walks_same ts at a lt; leads = λ k. refl }

module _ {n : ℕ} {ts : List Token} {start now : List Frame → State} {at place : ℕ} {a b : Forest} (h : Chain n ts start now at place a b) where
  -- one token more
  pub chain_take : (then : List Frame → State) (m next : ℕ) (s : Sign) → Next ts place s → ((k : List Frame) → ◌≡◌ {A = Step} (step (now k) (s, lexeme_at ts place)) (Some (m, then k))) → m ≤ 200 → next ≡ place + 1 → next < length ts → Chain (suc n) ts start then at next a b
  chain_take then m next s here is le to inside = record {
    walks = walks_token n ts at place next a b h.walks to inside;
    leads = λ k. h.leads k ∙ take_to ts (now k) (then k) place next m s here (is k) le to;
  }

  -- another state with the same step
  pub chain_same : (then : List Frame → State) (s : Sign) → Next ts place s → ((k : List Frame) → step (now k) (s, lexeme_at ts place) ≡ step (then k) (s, lexeme_at ts place)) → Chain n ts start then at place a b
  chain_same then s here is = record { walks = h.walks; leads = λ k. h.leads k ∙ same_one ts (now k) (then k) place s here (is k) }

  -- what a callee has come over
  pub chain_then : (then : List Frame → State) (m next : ℕ) (c : Forest) → Walks m ts place next b c → ((k : List Frame) → goes ts (now k) place ≡ goes ts (then k) next) → Chain (n + m) ts start then at next a c
  chain_then then m next c g leads = record { walks = walks_then n m ts at place next a b c h.walks g; leads = λ k. h.leads k ∙ leads k }

  -- the same state, otherwise said
  pub chain_on : (then : List Frame → State) → ((k : List Frame) → now k ≡ then k) → Chain n ts start then at place a b
  chain_on then same = record { walks = h.walks; leads = λ k. h.leads k ∙ ap (λ st. goes ts st place) (same k) }

  -- what a callee refuses
  pub chain_refused : (mid : List Frame → State) (g : List Frame → List Frame) (e : Refusal) → ((k : List Frame) → now k ≡ mid (g k)) → Refuses mid ts place e → Refuses start ts at e
  chain_refused mid g e same r = refuses_before start mid g ts at place e (λ k. h.leads k ∙ ap (λ st. goes ts st place) (same k)) r

  -- a token that is refused
  pub chain_syntax : (s : Sign) → Next ts place s → ((k : List Frame) → ◌≡◌ {A = Step} (step (now k) (s, lexeme_at ts place)) None) → Refuses start ts at (refusal.Syntax place)
  chain_syntax s here none = (h.walks.in_text, λ k. h.leads k ∙ refuse_one ts (now k) place s here (none k))

  pub chain_other : (want : Sign) → IsOther ts place want → ((k : List Frame) (s : Sign) (x : Lexeme) → s ≢ want → ◌≡◌ {A = Step} (step (now k) (s, x)) None) → Refuses start ts at (refusal.Syntax place)
  chain_other want other none = chain_syntax (other.0) (other.1) (λ k. none k (other.0) (lexeme_at ts place) (other.2))

  -- a token that is too deep
  pub chain_deep : (then : List Frame → State) (m : ℕ) (s : Sign) → Next ts place s → ((k : List Frame) → ◌≡◌ {A = Step} (step (now k) (s, lexeme_at ts place)) (Some (m, then k))) → 200 < m → Refuses start ts at (refusal.TooDeep place)
  chain_deep then m s here is lt = (h.walks.in_text, λ k. h.leads k ∙ deep_one ts (now k) (then k) place m s here (is k) lt)

  pub chain_ready : (d d' : ℕ) → IsReady ts at d a → d' ≤ 200 → IsReady ts place d' b
  chain_ready d d' ready le = record { in_text = h.walks.in_text; shallow = le; short = ready.short; few = omega (arith, h.walks.few, ready.few) }

-- a statement is made at the end of a chain
pub chain_made : {n : ℕ} {ts : List Token} {start : List Frame → State} {at next : ℕ} {a b : Forest} (s : Stmt) (h : Chain (suc n) ts start (λ k. Did s k) at next a b) (c : Forest) (result : Result (StmtId × ℕ) Refusal) → at < next → MadeStmt b c s next result → ReadsOne start ts at a c result
chain_made {n} {ts} {start} {at} {next} {a} {b} s h c result later made = stmt_made start ts at next a b c s result h.walks.in_text later (omega (arith, h.walks.few)) h.walks.kept h.leads made
