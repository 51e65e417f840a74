use Rattle.js_tree.specs.Trees.{program_of}
use Rattle.script_check.proofs.Judged.{pass_text, pass_check, accepted_is}
use Rattle.script_check.proofs.judging.judge_script.Goals as goal

pub returns-in_err-tree-clause-refused : goal.returns-in_err-tree-clause-refused
returns-in_err-tree-clause-refused c = pass_text c.args.bytes.now c.args.scope.now c.from_residual.result c.in_err-tree.field-0.0 c.from_residual.ensures.1 c.in_err-tree.ensures.refused

pub returns-in_err-check-clause-refused : goal.returns-in_err-check-clause-refused
returns-in_err-check-clause-refused c = pass_check c.args.bytes.now c.args.scope.now (program_of c.in_ok-tree.tree) c.from_residual-in_err-check.result c.in_err-check.field-0.0 c.from_residual-in_err-check.ensures.1 c.in_ok-tree.ensures.read c.in_err-check.ensures.refuses

pub returns-clause-accepted : goal.returns-clause-accepted
returns-clause-accepted c = accepted_is c.args.bytes.now c.args.scope.now c.in_ok-tree.tree c.in_ok-check.field-0 c.in_ok-tree.ensures.read c.in_ok-check.ensures.accepts
