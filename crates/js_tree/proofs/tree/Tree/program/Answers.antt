use Rattle.js_tree.proofs.Arenas.{program_is_in}
use Rattle.js_tree.proofs.tree.Tree.program.Goals as goal

pub returns-clause-parts : goal.returns-clause-parts
returns-clause-parts c = let s = c.args.self.now in rw c.as_slice.ensures.value (program_is_in s.names.items s.births.items s.exprs.items s.stmts.items s.funs.items s.program.items s.arena)
