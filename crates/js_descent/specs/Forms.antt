-- What the functions for expressions answer, over the machine.
use Rattle.std.specs.Prelude.{◌≡◌, ◌≢◌, ℕ, ◌+◌, ◌≤◌, ◌<◌, List, [], ◌∷◌, length, Result, MatchResult, All, None, ◌++◌}
use Rattle.js_tree.specs.declared.nodes.ExprId.{ExprId}
use Rattle.js_tree.specs.Plain.{Expr, ExprAt, Object, Properties}
use Rattle.js_tree.specs.Forest.{Forest, Keeps, IsExpr, expr_at, size, properties_at}
use Rattle.js_tree.specs.declared.nodes.AssignOp.{AssignOp}
use Rattle.js_grammar.specs.Grammar.{Token, Lexeme}
use Rattle.js_grammar.specs.Machine.{Frame, State, Step, Wants, Gives, PrimaryAt, UnaryAt, Tail, NewTail, FirstKey, NextKey, ObjectEnd, Value, assigned_to}
use Rattle.js_grammar.specs.declared.Sign.TheVariants as sign
use Rattle.js_cursor.specs.declared.refusal.Refusal.{Refusal}
use Rattle.js_cursor.specs.Reads.{goes, lexeme_at, IsNext, Refuses}
use Rattle.js_descent.specs.Rows.{Reads, ReadsExpr}

-- what an expression becomes by the tokens from `at` up to `next`, if by any
pub record ReadsOn (start : List Frame → State) (left : List Frame → List Frame) (ts : List Token) (at : ℕ) (old new : Forest) (id : ExprId) (next : ℕ) : Type 0 where
  pub in_text : next < length ts
  pub later : at ≤ next
  pub few : size new + at ≤ size old + next
  pub kept : Keeps old new
  pub is_in : IsExpr new id
  pub leads : (k : List Frame) → goes ts (start k) at ≡ goes ts (Gives (expr_at new id) (left k)) next

-- an expression is read on, or the tokens are refused
abbrev pub GoesOn : (List Frame → State) → (List Frame → List Frame) → List Token → ℕ → Forest → Forest → Result (ExprId × ℕ) Refusal → Type 0
GoesOn start left ts at old new result = MatchResult result (λ x. ReadsOn start left ts at old new x.0 x.1) (λ e. Refuses start ts at e)

-- the frame takes what follows a primary
abbrev pub IsTail : ℕ → Frame → Type 0
IsTail d (Tail n) = n ≡ d
IsTail d (NewTail n w) = n ≡ d
IsTail d _ = ⊥

-- no assignment may stand behind what these frames wait for
abbrev pub IsOperand : List Frame → Type 0
IsOperand k = (o : AssignOp) (d : ℕ) (e : Expr) → ◌≡◌ {A = Step} (assigned_to o d e k) None

-- an operand is read, as a prefix operator or an operator before it wants it
abbrev pub ReadsOperand : ℕ → List Token → ℕ → Forest → Forest → Result (ExprId × ℕ) Refusal → Type 0
ReadsOperand d ts at old new result = (g : List Frame → List Frame) → ((k : List Frame) → IsOperand (g k)) → ReadsExpr (λ k. Wants (UnaryAt d ∷ g k)) g ts at old new result

-- the operand of a `new` is read, up to what does not go on with it but a `(`
pub record ReadsOperandOf (d : ℕ) (w : Lexeme) (ts : List Token) (at : ℕ) (old new : Forest) (id : ExprId) (next : ℕ) : Type 0 where
  pub read : Reads (λ k. Wants (PrimaryAt d ∷ NewTail d w ∷ k)) (λ k. NewTail d w ∷ k) ts at old new id next
  pub stops : IsNext ts next (λ s. (s ≢ sign.Point) × (s ≢ sign.OpenSquare))

-- a key and its value are read, after other keys
pub record ReadsProperty (d : ℕ) (ts : List Token) (at : ℕ) (old new : Forest) (key : List ℕ) (id : ExprId) (next : ℕ) : Type 0 where
  pub in_text : next < length ts
  pub later : at < next
  pub few : size new + at ≤ size old + next
  pub kept : Keeps old new
  pub is_in : IsExpr new id
  pub named : key ≡ (lexeme_at ts at).text
  pub leads : (ps : Properties) (names : List ℕ) (k : List Frame) → goes ts (Wants (NextKey d ps names ∷ k)) at ≡ goes ts (Gives (expr_at new id) (Value d ps key (names ++ (lexeme_at ts at).at ∷ []) ∷ k)) next

-- the keys and the values of an object literal are read, with its closing brace
pub record ReadsKeys (d : ℕ) (ts : List Token) (at : ℕ) (old new : Forest) (list : List (List ℕ × ExprId)) (names : List ℕ) (next : ℕ) : Type 0 where
  pub in_text : next < length ts
  pub later : at < next
  pub few : size new + at ≤ size old + next
  pub kept : Keeps old new
  pub are_in : All (λ p. IsExpr new p.1) list
  pub leads : (o : ℕ) (w : Lexeme) (k : List Frame) → goes ts (Wants (FirstKey d ∷ ObjectEnd o w ∷ k)) at ≡ goes ts (Gives (ExprAt w.at names (Object (properties_at new list))) k) next
