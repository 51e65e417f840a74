-- What the functions of the descent answer, over the machine.
use Rattle.std.specs.Prelude.{◌≡◌, ℕ, suc, ◌+◌, ◌≤◌, ◌<◌, ◌^◌, List, ◌∷◌, length, Result, MatchResult, All, Some}
use Rattle.js_tree.specs.declared.nodes.ExprId.{ExprId}
use Rattle.js_tree.specs.declared.nodes.StmtId.{StmtId}
use Rattle.js_tree.specs.declared.nodes.FunId.{FunId}
use Rattle.js_tree.specs.Plain.{Stmts, Funs, NoStmts, NoFuns, AndFun, fun_place}
use Rattle.js_tree.specs.Forest.{Forest, Keeps, IsExpr, IsStmt, IsFun, expr_at, stmt_at, fun_at, stmts_at, funs_at, size}
use Rattle.js_grammar.specs.Grammar.{Token, Lexeme}
use Rattle.js_grammar.specs.Machine.{Frame, State, Step, Wants, Gives, Did, InBody, has_function}
use Rattle.js_grammar.specs.declared.Sign.TheVariants as sign
use Rattle.js_cursor.specs.declared.refusal.Refusal.{Refusal}
use Rattle.js_cursor.specs.Reads.{goes, Next, Refuses}

-- what holds before something is read, d links deep: there are no more nodes than tokens taken
pub record IsReady (ts : List Token) (at d : ℕ) (trees : Forest) : Type 0 where
  pub in_text : at < length ts
  pub shallow : d ≤ 200
  pub short : length ts ≤ 2 ^ 31
  pub few : size trees ≤ at

-- An expression is read from `at` up to `next`: whatever is to come after it, the machine comes from the one to the other.
pub record Reads (start : List Frame → State) (left : List Frame → List Frame) (ts : List Token) (at : ℕ) (old new : Forest) (id : ExprId) (next : ℕ) : Type 0 where
  pub in_text : next < length ts
  pub later : at < next
  pub few : size new + at ≤ size old + next
  pub kept : Keeps old new
  pub is_in : IsExpr new id
  pub leads : (k : List Frame) → goes ts (start k) at ≡ goes ts (Gives (expr_at new id) (left k)) next

-- an expression is read, or the tokens are refused
abbrev pub ReadsExpr : (List Frame → State) → (List Frame → List Frame) → List Token → ℕ → Forest → Forest → Result (ExprId × ℕ) Refusal → Type 0
ReadsExpr start left ts at old new result = MatchResult result (λ x. Reads start left ts at old new x.0 x.1) (λ e. Refuses start ts at e)

-- a function with this word is read from its `(` on
pub record ReadsFun (start : List Frame → State) (word : Lexeme) (d : ℕ) (ts : List Token) (at : ℕ) (old new : Forest) (id : FunId) (next : ℕ) : Type 0 where
  pub in_text : next < length ts
  pub later : at < next
  pub few : size new + at + 2 ≤ size old + next
  pub kept : Keeps old new
  pub is_in : IsFun new id
  pub placed : fun_place (fun_at new id) ≡ word.at
  pub leads : (k : List Frame) (st : State) → ◌≡◌ {A = Step} (has_function (suc d) (fun_at new id) k) (Some (suc d, st)) → goes ts (start k) at ≡ goes ts st next

-- a function declaration is read, after statements and other declarations
pub record ReadsDecl (d : ℕ) (ts : List Token) (at : ℕ) (old new : Forest) (id : FunId) (next : ℕ) : Type 0 where
  pub in_text : next < length ts
  pub later : at < next
  pub few : size new + at ≤ size old + next
  pub kept : Keeps old new
  pub is_in : IsFun new id
  pub leads : (ss : Stmts) (fs : Funs) (k : List Frame) → goes ts (Wants (InBody d ss fs ∷ k)) at ≡ goes ts (Wants (InBody d ss (AndFun fs (fun_at new id)) ∷ k)) next

-- one statement is read
pub record ReadsStmt (start : List Frame → State) (ts : List Token) (at : ℕ) (old new : Forest) (id : StmtId) (next : ℕ) : Type 0 where
  pub in_text : next < length ts
  pub later : at < next
  pub few : size new + at ≤ size old + next
  pub kept : Keeps old new
  pub is_in : IsStmt new id
  pub leads : (k : List Frame) → goes ts (start k) at ≡ goes ts (Did (stmt_at new id) k) next

-- a statement is read, or the tokens are refused
abbrev pub ReadsOne : (List Frame → State) → List Token → ℕ → Forest → Forest → Result (StmtId × ℕ) Refusal → Type 0
ReadsOne start ts at old new result = MatchResult result (λ x. ReadsStmt start ts at old new x.0 x.1) (λ e. Refuses start ts at e)

-- statements and declarations are read, up to the closing brace after them
pub record ReadsBody (d : ℕ) (ts : List Token) (at : ℕ) (old new : Forest) (list : List StmtId) (funs : List FunId) (next : ℕ) : Type 0 where
  pub in_text : next + 1 < length ts
  pub closed : Next ts next sign.CloseBrace
  pub later : at ≤ next
  pub few : size new + at ≤ size old + next
  pub kept : Keeps old new
  pub are_stmts : All (IsStmt new) list
  pub are_funs : All (IsFun new) funs
  pub leads : (k : List Frame) → goes ts (Wants (InBody d NoStmts NoFuns ∷ k)) at ≡ goes ts (Wants (InBody d (stmts_at new list) (funs_at new funs) ∷ k)) next
