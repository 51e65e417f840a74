-- What an enclosing node means for what stands in it: the names that it binds, and the jumps that it allows.
use Rattle.std.specs.Prelude.{ℕ, Bool, true, false, List, [], ◌∷◌, ◌++◌, Option, Some, None, option_to_list, not}
use Rattle.js_tree.specs.Plain.{StmtAt, StmtForm, If, While, DoWhile, For, ForIn, Continue, Break, With, Switch, Try, Label, CatchAs, OptionalBlock, Stmts, Fun, FunAt, Funs, NoFuns, AndFun}
use Rattle.js_tree.specs.Parts.{Spot, AnExpr, AStmt, AFun, stmts_spots, catch_spots, block_spots}
use Rattle.first_breach.specs.Lists.{In}
use Rattle.node_rules.specs.declared.enclosing.Jumps.{Jumps}
use Rattle.node_rules.specs.Names.{Named, variables}
use Rattle.node_rules.specs.Parts.{bodies}

-- the statements in a statement, those of inner functions aside
abbrev pub blocks : StmtForm → List Spot
blocks (If e a b) = stmts_spots a ++ stmts_spots b
blocks (While e body) = stmts_spots body
blocks (DoWhile e body) = stmts_spots body
blocks (For first test next body) = stmts_spots body
blocks (ForIn declared x e body) = stmts_spots body
blocks (With e body) = stmts_spots body
blocks (Switch e cs) = bodies cs
blocks (Try body caught last) = stmts_spots body ++ (catch_spots caught ++ block_spots last)
blocks (Label x s) = AStmt s ∷ []
blocks _ = []

-- the statement, or one in it, declares the name by `var`
pub data Declares : Spot → List ℕ → Type 0 where
  itself : {at : ℕ} {names : List ℕ} {form : StmtForm} {x : Named} → In x (variables at names form) → Declares (AStmt (StmtAt at names form)) x.text
  block : {at : ℕ} {names : List ℕ} {form : StmtForm} {s : Spot} {t : List ℕ} → In s (blocks form) → Declares s t → Declares (AStmt (StmtAt at names form)) t

-- the names of declared functions
abbrev pub own_name : Fun → List (List ℕ)
own_name (FunAt at names own params body funs) = option_to_list own

abbrev pub function_names : Funs → List (List ℕ)
function_names NoFuns = []
function_names (AndFun gs g) = function_names gs ++ own_name g

-- The function or the catch binds the name. A function binds its own name, its parameters, its `var` names and the functions declared in it.
pub data Binds : Spot → List ℕ → Type 0 where
  own : {g : Fun} {t : List ℕ} → In t (own_name g) → Binds (AFun g) t
  parameter : {at : ℕ} {names : List ℕ} {own : Option (List ℕ)} {params : List (List ℕ)} {body : Stmts} {funs : Funs} {t : List ℕ} → In t params → Binds (AFun (FunAt at names own params body funs)) t
  hoisted : {at : ℕ} {names : List ℕ} {own : Option (List ℕ)} {params : List (List ℕ)} {body : Stmts} {funs : Funs} {s : Spot} {t : List ℕ} → In s (stmts_spots body) → Declares s t → Binds (AFun (FunAt at names own params body funs)) t
  function : {at : ℕ} {names : List ℕ} {own : Option (List ℕ)} {params : List (List ℕ)} {body : Stmts} {funs : Funs} {t : List ℕ} → In t (function_names funs) → Binds (AFun (FunAt at names own params body funs)) t
  caught : {at : ℕ} {names : List ℕ} {body block : Stmts} {last : OptionalBlock} {x : List ℕ} → Binds (AStmt (StmtAt at names (Try body (CatchAs x block) last))) x

-- one of the enclosing nodes binds the name
pub record IsBound (env : List Spot) (t : List ℕ) : Type 0 where
  pub by : Spot
  pub is_in : In by env
  pub binds : Binds by t

-- which jumps may stand in a node, where `around` says which may stand round it
abbrev pub stmt_jumps : Jumps → StmtForm → Jumps
stmt_jumps around (While e body) = record { breaks = true; continues = true }
stmt_jumps around (DoWhile e body) = record { breaks = true; continues = true }
stmt_jumps around (For first test next body) = record { breaks = true; continues = true }
stmt_jumps around (ForIn declared x e body) = record { breaks = true; continues = true }
stmt_jumps around (Switch e cs) = record { breaks = true; continues = around.continues }
stmt_jumps around _ = around

abbrev pub no_jumps : Jumps
no_jumps = record { breaks = false; continues = false }

abbrev pub jumps_in : Jumps → Spot → Jumps
jumps_in around (AFun g) = no_jumps
jumps_in around (AStmt (StmtAt at names form)) = stmt_jumps around form
jumps_in around (AnExpr e) = around

abbrev pub jumps_from : Jumps → List Spot → Jumps
jumps_from around [] = around
jumps_from around (n ∷ env) = jumps_from (jumps_in around n) env

-- A16: a label, a jump to one, a `break` outside a loop and `switch` of its function, or a `continue` outside a loop of it
abbrev pub is_stray : Jumps → StmtForm → Bool
is_stray around (Label x s) = true
is_stray around (Break (Some x)) = true
is_stray around (Continue (Some x)) = true
is_stray around (Break None) = not around.breaks
is_stray around (Continue None) = not around.continues
is_stray around _ = false
