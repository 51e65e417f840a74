use Rattle.js_tree.proofs.PartLaws.{expr_parts_in, stmt_parts_in, fun_parts_in, expr_parts_are, stmt_parts_are, fun_parts_are}
use Rattle.js_tree.proofs.laws.parts_are_in.Goals as goal

pub returns-clause-exprs : goal.returns-clause-exprs
returns-clause-exprs c = λ f n. (expr_parts_in f n, expr_parts_are f n)

pub returns-clause-stmts : goal.returns-clause-stmts
returns-clause-stmts c = λ f n. (stmt_parts_in f n, stmt_parts_are f n)

pub returns-clause-funs : goal.returns-clause-funs
returns-clause-funs c = λ f n. (fun_parts_in f n, fun_parts_are f n)
