-- The tokens of a script, the next of them, and what the grammar's machine makes of them.
use Rattle.std.specs.Prelude.{◌≡◌, ◌≢◌, ℕ, ◌+◌, ◌<◌, List, [], ◌∷◌, length, drop, Result, MatchResult, slice_index_or}
use Rattle.exact_refusals.specs.Judge.{Outcome, judge}
use Rattle.exact_refusals.specs.Judge.Outcome.{Refused, Deeper}
use Rattle.js_tree.specs.declared.nodes.ExprId.{ExprId}
use Rattle.js_tree.specs.declared.nodes.StmtId.{StmtId}
use Rattle.js_tree.specs.Plain.{Expr, Stmt, Stmts}
use Rattle.js_tree.specs.Forest.{Forest, AddsExpr, AddsStmt}
use Rattle.js_grammar.specs.declared.Sign.{Sign}
use Rattle.js_grammar.specs.Grammar.{Token, Lexeme}
use Rattle.js_grammar.specs.Machine.{Frame, State, step, finished}
use Rattle.js_grammar.specs.declared.Sign.TheVariants as sign
use Rattle.js_cursor.specs.declared.refusal.Refusal.{Refusal}
use Rattle.js_cursor.specs.declared.refusal.Refusal.TheVariants as refusal

-- the tokens from a place on
abbrev pub from : List Token → ℕ → List Token
from ts at = drop at ts

-- what comes of the tokens from a place on
abbrev pub goes : List Token → State → ℕ → Outcome Stmts
goes ts st at = judge step finished 200 st (from ts at)

-- the text and the place of the token there
abbrev pub lexeme_at : List Token → ℕ → Lexeme
lexeme_at ts at = (slice_index_or ts at (sign.End, record { text = []; at = 0 })).1

-- a token of this sign is next
abbrev pub Next : List Token → ℕ → Sign → Type 0
Next ts at s = from ts at ≡ (s, lexeme_at ts at) ∷ from ts (at + 1)

-- the next token is of another sign
abbrev pub IsOther : List Token → ℕ → Sign → Type 0
IsOther ts at want = (s : Sign) × Next ts at s × (s ≢ want)

-- the next token is one whose sign passes the test
abbrev pub IsNext : List Token → ℕ → (Sign → Type 0) → Type 0
IsNext ts at p = (s : Sign) × Next ts at s × p s

-- Whatever is to come after it, the tokens are refused there.
abbrev pub Refuses : (List Frame → State) → List Token → ℕ → Refusal → Type 0
Refuses start ts at (refusal.Syntax place) = (place < length ts) × ((k : List Frame) → goes ts (start k) at ≡ Refused (length (from ts place)))
Refuses start ts at (refusal.TooDeep place) = (place < length ts) × ((k : List Frame) → goes ts (start k) at ≡ Deeper (length (from ts place)))
Refuses start ts at refusal.Memory = Unit {0}

-- an expression is added, and `next` is the place after it; or there was no memory
abbrev pub MadeExpr : Forest → Forest → Expr → ℕ → Result (ExprId × ℕ) Refusal → Type 0
MadeExpr old new x next result = MatchResult result (λ y. AddsExpr old new x y.0 × (y.1 ≡ next)) (λ e. e ≡ refusal.Memory)

-- a statement is added, and `next` is the place after it; or there was no memory
abbrev pub MadeStmt : Forest → Forest → Stmt → ℕ → Result (StmtId × ℕ) Refusal → Type 0
MadeStmt old new x next result = MatchResult result (λ y. AddsStmt old new x y.0 × (y.1 ≡ next)) (λ e. e ≡ refusal.Memory)
