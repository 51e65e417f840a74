-- Where nodes stand: which parts a node encloses, and which nodes enclose one.
use Rattle.std.specs.Prelude.{List, [], ◌∷◌, ◌++◌, if◌then◌else◌}
use Rattle.js_tree.specs.Plain.{ExprAt, ExprForm, Call, StmtAt, StmtForm, While, DoWhile, For, ForIn, Switch, Try, FunAt, Clauses, NoClauses, AndClause}
use Rattle.js_tree.specs.Parts.{Spot, AnExpr, AStmt, AFun, exprs_spots, stmts_spots, funs_spots, optional_spots, init_spots, catch_spots, block_spots, form_spots, stmt_form_spots}
use Rattle.first_breach.specs.Lists.{In}
use Rattle.node_rules.specs.Forms.{is_allowed_callee, is_directive}

-- the tests of a `switch`, and the statements of its clauses
abbrev pub tests : Clauses → List Spot
tests NoClauses = []
tests (AndClause cs test body) = tests cs ++ optional_spots test

abbrev pub bodies : Clauses → List Spot
bodies NoClauses = []
bodies (AndClause cs test body) = bodies cs ++ stmts_spots body

-- A function's statements without a first `"use strict";`. No rule speaks of that statement or its string but A18, which exempts it.
abbrev pub after_directive : List Spot → List Spot
after_directive (AStmt s ∷ rest) = if is_directive s then rest else AStmt s ∷ rest
after_directive spots = spots

-- The parts of an expression. A call that A09 allows has its arguments alone: no rule but A09 speaks of `ADSAFE`, a listed global, or of `ADSAFE.x` with a listed x.
abbrev pub expr_parts_of : ExprForm → List Spot
expr_parts_of (Call e args) = (if is_allowed_callee e then [] else AnExpr e ∷ []) ++ exprs_spots args
expr_parts_of form = form_spots form

-- the parts of a statement outside the scope, the loop or the `switch` that it opens
abbrev pub stmt_parts_outside : StmtForm → List Spot
stmt_parts_outside (While e body) = AnExpr e ∷ []
stmt_parts_outside (DoWhile e body) = AnExpr e ∷ []
stmt_parts_outside (For first test next body) = init_spots first ++ (optional_spots test ++ exprs_spots next)
stmt_parts_outside (ForIn declared x e body) = AnExpr e ∷ []
stmt_parts_outside (Switch e cs) = AnExpr e ∷ tests cs
stmt_parts_outside (Try body caught last) = stmts_spots body ++ block_spots last
stmt_parts_outside form = stmt_form_spots form

-- those inside it: the body of a loop, the clauses of a `switch`, the block of a catch
abbrev pub stmt_parts_inside : StmtForm → List Spot
stmt_parts_inside (While e body) = stmts_spots body
stmt_parts_inside (DoWhile e body) = stmts_spots body
stmt_parts_inside (For first test next body) = stmts_spots body
stmt_parts_inside (ForIn declared x e body) = stmts_spots body
stmt_parts_inside (Switch e cs) = bodies cs
stmt_parts_inside (Try body caught last) = catch_spots caught
stmt_parts_inside _ = []

abbrev pub outer : Spot → List Spot
outer (AnExpr (ExprAt at names form)) = expr_parts_of form
outer (AStmt (StmtAt at names form)) = stmt_parts_outside form
outer (AFun g) = []

abbrev pub inner : Spot → List Spot
inner (AStmt (StmtAt at names form)) = stmt_parts_inside form
inner (AFun (FunAt at names own params body funs)) = funs_spots funs ++ after_directive (stmts_spots body)
inner (AnExpr e) = []

-- `Stands env n around m`: in the node n, which the functions, catches, loops and `switch`es of env enclose, stands m, which those of `around` enclose, from the outside in
pub data Stands : List Spot → Spot → List Spot → Spot → Type 0 where
  itself : {env : List Spot} {n : Spot} → Stands env n env n
  outside : {env around : List Spot} {n p m : Spot} → In p (outer n) → Stands env p around m → Stands env n around m
  inside : {env around : List Spot} {n p m : Spot} → In p (inner n) → Stands (env ++ n ∷ []) p around m → Stands env n around m
