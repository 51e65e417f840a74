-- What the functions of the descent answer, beside expressions: over the machine, for whatever is to come after them.
use Rattle.std.specs.Prelude.{◌≡◌, ◌≢◌, ℕ, suc, ◌+◌, ◌≤◌, ◌<◌, List, [], ◌∷◌, length, All, Option, None, false, Bool, true}
use Rattle.exact_refusals.specs.Judge.{Outcome, judge, judge_step}
use Rattle.exact_refusals.specs.Judge.Outcome.{Refused}
use Rattle.js_tree.specs.declared.nodes.ExprId.{ExprId}
use Rattle.js_tree.specs.declared.nodes.StmtId.{StmtId}
use Rattle.js_tree.specs.Plain.{Expr, Stmts, NoStmts, StmtAt, If, Decls, NoDecls, AndDecl, ForInit, OptionalExpr}
use Rattle.js_tree.specs.Forest.{Forest, Keeps, IsExpr, IsStmt, expr_at, stmts_at, size, IsOptional, AreDecls, AreInit, AreClauseParts, exprs_at, decls_at, init_at, optional_at, clauses_at}
use Rattle.js_tree.specs.declared.nodes.Decl.{Decl}
use Rattle.js_tree.specs.declared.nodes.Clause.{Clause}
use Rattle.js_tree.specs.declared.nodes.ForInit.{ForInit as InitNode}
use Rattle.js_grammar.specs.declared.Sign.{Sign}
use Rattle.js_grammar.specs.Grammar.{Token, Lexeme}
use Rattle.js_grammar.specs.Machine.{Frame, State, Step, Wants, Gives, Did, step, finished}
use Rattle.js_grammar.specs.declared.Sign.TheVariants as sign
use Rattle.js_grammar.specs.Machine as machine
use Rattle.js_cursor.specs.Reads.{from, goes, lexeme_at, Next}
use Rattle.js_cursor.specs.Named.{IsUnlabelled}

-- Tokens are taken from `at` up to `next`, and nodes are added; `spare` tokens at least have no node.
pub record Walks (spare : ℕ) (ts : List Token) (at next : ℕ) (old new : Forest) : Type 0 where
  pub in_text : next < length ts
  pub later : at ≤ next
  pub few : size new + at + spare ≤ size old + next
  pub kept : Keeps old new

-- what comes of tokens of which the first does this
abbrev pub comes_by : (Token → Step) → List Token → Outcome Stmts
comes_by f [] = Refused 0
comes_by f (t ∷ rest) = judge_step 200 (f t) (suc (length rest)) (λ st. judge step finished 200 st rest)

-- what comes of the tokens from a place on, of which the first does this
abbrev pub goes_by : List Token → (Token → Step) → ℕ → Outcome Stmts
goes_by ts f at = comes_by f (from ts at)

-- the frame takes an expression at this sign alone
abbrev pub OnlyAt : Sign → Frame → Type 0
OnlyAt want f = (e : Expr) (k : List Frame) (s : Sign) (x : Lexeme) → s ≢ want → ◌≡◌ {A = Step} (step (Gives e (f ∷ k)) (s, x)) None

-- no statement begins with the sign: a block ends, a clause, or the text
abbrev pub ends_list : Sign → Bool
ends_list sign.CloseBrace = true
ends_list sign.Case = true
ends_list sign.Default = true
ends_list sign.End = true
ends_list _ = false

-- the frame takes a block at its brace alone
abbrev pub OnlyBlock : Frame → Type 0
OnlyBlock f = (d : ℕ) (ss : Stmts) (k : List Frame) (s : Sign) (x : Lexeme) → ends_list s ≡ true → s ≢ sign.CloseBrace → ◌≡◌ {A = Step} (step (Wants (machine.InBlock d ss ∷ f ∷ k)) (s, x)) None

-- an expression is read, and the mark after it
pub record ReadsMarked (want : Sign) (start : List Frame → State) (ts : List Token) (at : ℕ) (old new : Forest) (id : ExprId) (next : ℕ) : Type 0 where
  pub walks : Walks 1 ts at next old new
  pub is_in : IsExpr new id
  pub last : ℕ
  pub later_last : at < last
  pub to : next ≡ last + 1
  pub mark : Next ts last want
  pub leads : (k : List Frame) → goes ts (start k) at ≡ goes ts (Gives (expr_at new id) k) last

-- assignment expressions between commas are read, up to what ends them
pub record ReadsItems (b : Bool) (d : ℕ) (ts : List Token) (at : ℕ) (old new : Forest) (ids : List ExprId) (next : ℕ) : Type 0 where
  pub walks : Walks 0 ts at next old new
  pub are_in : All (IsExpr new) ids
  pub leads : (k : List Frame) → goes ts (Wants (machine.ItemsAt b d ∷ k)) at ≡ goes_by ts (machine.listed (exprs_at new ids) k) next

-- statements are read, up to what ends them
pub record ReadsStatements (d : ℕ) (ts : List Token) (at : ℕ) (old new : Forest) (ids : List StmtId) (next : ℕ) : Type 0 where
  pub walks : Walks 0 ts at next old new
  pub are_in : All (IsStmt new) ids
  pub ends : (s : Sign) × Next ts next s × (ends_list s ≡ true)
  pub leads : (k : List Frame) → goes ts (Wants (machine.InBlock d NoStmts ∷ k)) at ≡ goes ts (Wants (machine.InBlock d (stmts_at new ids) ∷ k)) next

-- a block is read, with its braces
pub record ReadsBlock (d : ℕ) (ts : List Token) (at : ℕ) (old new : Forest) (ids : List StmtId) (next : ℕ) : Type 0 where
  pub walks : Walks 2 ts at next old new
  pub deep : suc d ≤ 200
  pub are_in : All (IsStmt new) ids
  pub last : ℕ
  pub to : next ≡ last + 1
  pub mark : Next ts last sign.CloseBrace
  pub leads : (k : List Frame) → goes ts (Wants (machine.BlockAt d ∷ k)) at ≡ goes ts (Wants (machine.InBlock (suc d) (stmts_at new ids) ∷ k)) last

-- what may stand after the block of an `if` is read
pub record ReadsElse (d : ℕ) (ts : List Token) (at : ℕ) (old new : Forest) (ids : List StmtId) (next : ℕ) : Type 0 where
  pub walks : Walks 0 ts at next old new
  pub are_in : All (IsStmt new) ids
  pub leads : (w : Lexeme) (e : Expr) (ss : Stmts) (k : List Frame) → goes ts (Wants (machine.AfterIf d w e ss ∷ k)) at ≡ goes ts (Did (StmtAt w.at [] (If e ss (stmts_at new ids))) k) next

-- declared variables are read, up to what ends them
pub record ReadsDecls (b : Bool) (d : ℕ) (ts : List Token) (at : ℕ) (old new : Forest) (ds : List Decl) (next : ℕ) : Type 0 where
  pub walks : Walks 0 ts at next old new
  pub are_in : AreDecls new ds
  pub leads : (k : List Frame) → goes ts (Wants (machine.VarName b d NoDecls ∷ k)) at ≡ goes_by ts (machine.declared (decls_at new ds) k) next

-- a token after a declared variable
abbrev pub var_ends : Bool → ℕ → Decls → Lexeme → OptionalExpr → List Frame → Token → Step
var_ends b d ds x v k t = machine.comma_or d (machine.VarName b d (AndDecl ds x.text x.at v) ∷ k) (machine.declared (AndDecl ds x.text x.at v) k t) t.0

-- the value of a declared variable is read, or none stands there
pub record ReadsInit (b : Bool) (d : ℕ) (ts : List Token) (at : ℕ) (old new : Forest) (v : Option ExprId) (next : ℕ) : Type 0 where
  pub walks : Walks 0 ts at next old new
  pub is_in : IsOptional new v
  pub leads : (ds : Decls) (x : Lexeme) (k : List Frame) → goes ts (Wants (machine.VarTail b d ds x ∷ k)) at ≡ goes_by ts (var_ends b d ds x (optional_at new v) k) next

-- the first part of a `for` is read, with its semicolon
pub record ReadsFirst (d : ℕ) (ts : List Token) (at : ℕ) (old new : Forest) (i : InitNode) (next : ℕ) : Type 0 where
  pub walks : Walks 1 ts at next old new
  pub grows : at < next
  pub are_in : AreInit new i
  pub leads : (w : Lexeme) (k : List Frame) → goes ts (Wants (machine.ForFirst d w ∷ k)) at ≡ goes ts (Wants (machine.ForTest d w (init_at new i) ∷ k)) next

-- the second part of a `for` is read, with its semicolon
pub record ReadsSecond (d : ℕ) (ts : List Token) (at : ℕ) (old new : Forest) (v : Option ExprId) (next : ℕ) : Type 0 where
  pub walks : Walks 1 ts at next old new
  pub is_in : IsOptional new v
  pub leads : (w : Lexeme) (i : ForInit) (k : List Frame) → goes ts (Wants (machine.ForTest d w i ∷ k)) at ≡ goes ts (Wants (machine.ItemsAt false (suc d) ∷ machine.ForEnd d w i (optional_at new v) ∷ k)) next

-- the last part of a `for` is read, with its bracket
pub record ReadsThird (d : ℕ) (ts : List Token) (at : ℕ) (old new : Forest) (ids : List ExprId) (next : ℕ) : Type 0 where
  pub walks : Walks 1 ts at next old new
  pub are_in : All (IsExpr new) ids
  pub leads : (w : Lexeme) (i : ForInit) (test : OptionalExpr) (k : List Frame) → goes ts (Wants (machine.ItemsAt false (suc d) ∷ machine.ForEnd d w i test ∷ k)) at ≡ goes ts (Wants (machine.BlockAt d ∷ machine.ForBlock w i test (exprs_at new ids) ∷ k)) next

-- the clauses of a `switch` are read, up to what ends them
pub record ReadsCases (d : ℕ) (ts : List Token) (at : ℕ) (old new : Forest) (cs : List Clause) (next : ℕ) : Type 0 where
  pub walks : Walks 0 ts at next old new
  pub are_in : All (AreClauseParts new) cs
  pub ends : (s : Sign) × Next ts next s × (s ≢ sign.Case) × (s ≢ sign.Default)
  pub leads : (k : List Frame) → goes ts (Wants (machine.FirstCase d ∷ k)) at ≡ goes_by ts (λ t. machine.next_case d (clauses_at new cs) k t.0) next

-- no statement of another kind begins with the sign
abbrev pub begins_only : Sign → Bool
begins_only sign.Var = false
begins_only sign.If = false
begins_only sign.While = false
begins_only sign.Do = false
begins_only sign.For = false
begins_only sign.Continue = false
begins_only sign.Break = false
begins_only sign.Return = false
begins_only sign.Throw = false
begins_only sign.With = false
begins_only sign.Switch = false
begins_only sign.Try = false
begins_only sign.OpenBrace = false
begins_only sign.Function = false
begins_only _ = true

-- an expression statement may begin here
pub record BeginsOnly (ts : List Token) (at : ℕ) : Type 0 where
  pub first : Sign
  pub here : Next ts at first
  pub unlabelled : IsUnlabelled ts at
  pub other : begins_only first ≡ true

-- a `catch` is read, after its word
pub record ReadsCaught (d : ℕ) (ts : List Token) (at : ℕ) (old new : Forest) (name : ℕ) (ids : List StmtId) (next : ℕ) : Type 0 where
  pub walks : Walks 1 ts at next old new
  pub named : name + 1 < length ts
  pub are_in : All (IsStmt new) ids
  pub leads : (w : Lexeme) (ss : Stmts) (k : List Frame) → goes ts (Wants (machine.CatchOpen d w ss ∷ k)) at ≡ goes ts (Wants (machine.AfterCatch d w ss (lexeme_at ts name) (stmts_at new ids) ∷ k)) next
