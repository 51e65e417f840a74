use Rattle.std.proofs.Common.{sym, subst}
use Rattle.std.specs.Prelude.{IfOk}
use Rattle.js_tree.specs.Trees.{program_of, trees}
use Rattle.page_load.specs.Opening.{IsHanded}
use Rattle.page_load.proofs.Handing.{none_of_program, one_statement}
use Rattle.page_load.proofs.opening.handed.Goals as goal

pub returns-then-program-ne1 : goal.returns-then-program-ne1
returns-then-program-ne1 c = none_of_program (trees c.args.tree.now) c.program-program.result.now (program_of c.args.tree.now) c.program-program.ensures.same c.if-program-ne1.true

pub returns : goal.returns
returns c = subst (λ p. IfOk c.handed_by_statement.result (IsHanded (trees c.args.tree.now) p)) (sym (one_statement (trees c.args.tree.now) c.program-program.result.now (program_of c.args.tree.now) _ c.program-program.ensures.same c.if-program-ne1.false)) c.handed_by_statement.ensures
