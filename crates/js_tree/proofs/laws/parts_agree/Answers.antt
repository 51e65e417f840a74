use Rattle.std.proofs.Common.{refl}
use Rattle.js_tree.proofs.PartLaws.{expr_parts_of, stmt_parts_of, fun_parts_of}
use Rattle.js_tree.proofs.laws.parts_agree.Goals as goal

pub returns-clause-exprs : goal.returns-clause-exprs
returns-clause-exprs c = λ f n at names. expr_parts_of f n at names _ refl

pub returns-clause-stmts : goal.returns-clause-stmts
returns-clause-stmts c = λ f n at names. stmt_parts_of f n at names _ refl

pub returns-clause-funs : goal.returns-clause-funs
returns-clause-funs c = λ f n names. fun_parts_of f n names _ refl
