-- Nodes that are still to be visited, in the order in which the code puts them on a stack.
use Rattle.std.specs.Prelude.{ℕ, List, [], ◌∷◌, ◌++◌, map, Option, option_to_list, if◌then◌else◌}
use Rattle.std.specs.List.{flat_map}
use Rattle.js_tree.specs.declared.nodes.ExprId.{ExprId}
use Rattle.js_tree.specs.declared.nodes.StmtId.{StmtId}
use Rattle.js_tree.specs.declared.nodes.FunId.{FunId}
use Rattle.js_tree.specs.declared.nodes.Decl.{Decl}
use Rattle.js_tree.specs.declared.nodes.Clause.{Clause}
use Rattle.js_tree.specs.declared.nodes.Expr.{Expr as ExprNode}
use Rattle.js_tree.specs.declared.nodes.Expr.TheVariants as expr
use Rattle.js_tree.specs.declared.nodes.Stmt.{Stmt as StmtNode}
use Rattle.js_tree.specs.declared.nodes.Stmt.TheVariants as stmt
use Rattle.js_tree.specs.declared.nodes.Fun.{Fun as FunNode}
use Rattle.js_tree.specs.declared.nodes.Part.{Part}
use Rattle.js_tree.specs.declared.nodes.Part.TheVariants as part
use Rattle.js_tree.specs.Forest.{Forest, expr_at, stmt_at}
use Rattle.js_tree.specs.Parts.{decl_parts, expr_parts, stmt_parts, init_parts, block_parts, catch_parts}
use Rattle.node_rules.specs.declared.pushes.Work.{Work}
use Rattle.node_rules.specs.Forms.{is_allowed_callee, is_directive}

-- a node at a depth
abbrev pub at_depth : ℕ → Part → Work
at_depth d p = record { part = p; depth = d }

-- numbers as parts
abbrev pub expr_ids : List ExprId → List Part
expr_ids ids = map part.Expr ids

abbrev pub stmt_ids : List StmtId → List Part
stmt_ids ids = map part.Stmt ids

abbrev pub fun_ids : List FunId → List Part
fun_ids ids = map part.Fun ids

abbrev pub value_ids : List (List ℕ × ExprId) → List Part
value_ids ps = map (λ p. part.Expr p.1) ps

abbrev pub option_ids : Option ExprId → List Part
option_ids e = map part.Expr (option_to_list e)

abbrev pub decl_ids : List Decl → List Part
decl_ids ds = flat_map decl_parts ds

abbrev pub test_ids : List Clause → List Part
test_ids cs = flat_map (λ c. map part.Expr (option_to_list c.test)) cs

abbrev pub body_ids : List Clause → List Part
body_ids cs = flat_map (λ c. map part.Stmt c.body.items) cs

-- the parts of a node outside its scope and inside it, in the order in which they are put on the stack
abbrev pub expr_work : Forest → ExprNode → List Part
expr_work f (expr.Call e ids) = (if is_allowed_callee (expr_at f e) then [] else part.Expr e ∷ []) ++ expr_ids ids.items
expr_work f node = expr_parts node

abbrev pub outer_work : StmtNode → List Part
outer_work (stmt.While e body) = part.Expr e ∷ []
outer_work (stmt.DoWhile e body) = part.Expr e ∷ []
outer_work (stmt.For first test next body) = init_parts first ++ (option_ids test ++ expr_ids next.items)
outer_work (stmt.ForIn declared name e body) = part.Expr e ∷ []
outer_work (stmt.Switch e clauses) = part.Expr e ∷ test_ids clauses.items
outer_work (stmt.Try body caught last) = stmt_ids body.items ++ block_parts last
outer_work node = stmt_parts node

abbrev pub inner_work : StmtNode → List Part
inner_work (stmt.While e body) = stmt_ids body.items
inner_work (stmt.DoWhile e body) = stmt_ids body.items
inner_work (stmt.For first test next body) = stmt_ids body.items
inner_work (stmt.ForIn declared name e body) = stmt_ids body.items
inner_work (stmt.Switch e clauses) = body_ids clauses.items
inner_work (stmt.Try body caught last) = catch_parts caught
inner_work _ = []

-- the statements of a function without its directive
abbrev pub body_work : Forest → List StmtId → List StmtId
body_work f [] = []
body_work f (id ∷ ids) = if is_directive (stmt_at f id) then ids else id ∷ ids

abbrev pub fun_work : Forest → FunNode → List Part
fun_work f node = fun_ids node.funs.items ++ stmt_ids (body_work f node.body.items)
