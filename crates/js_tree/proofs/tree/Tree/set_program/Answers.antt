use Rattle.js_tree.proofs.Arenas.{arena_program}
use Rattle.js_tree.proofs.tree.Tree.set_program.Goals as goal

pub invariant_of-self : goal.invariant_of-self
invariant_of-self c = let s = c.args.self.now in record { arena = arena_program s.names.items s.births.items s.exprs.items s.stmts.items s.funs.items s.program.items s.arena c.args.list.items c.requires }
