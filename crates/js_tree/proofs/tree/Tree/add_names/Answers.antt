use Rattle.std.proofs.Common.{ap, is_ok}
use Rattle.js_tree.specs.Forest.{stmts_at}
use Rattle.js_tree.specs.Arena.{forest}
use Rattle.js_tree.proofs.Arenas.{trees_if, arena_if}
use Rattle.js_tree.proofs.tree.Tree.add_names.Goals as goal

pub invariant_of-self : goal.invariant_of-self
invariant_of-self c = let s = c.args.self.now in rw c.extend_from_slice.ensures.items (record { arena = arena_if s.names.items s.births.items s.exprs.items s.stmts.items s.funs.items s.program.items s.arena (is_ok c.extend_from_slice.result) c.args.names.now })

pub returns-clause-nodes : goal.returns-clause-nodes
returns-clause-nodes c = let s = c.args.self.now in rw c.extend_from_slice.ensures.items (ap forest (trees_if s.names.items s.births.items s.exprs.items s.stmts.items s.funs.items s.program.items s.arena (is_ok c.extend_from_slice.result) c.args.names.now))

pub returns-clause-program : goal.returns-clause-program
returns-clause-program c = let s = c.args.self.now in rw c.extend_from_slice.ensures.items (ap (λ l. stmts_at (forest l) s.program.items) (trees_if s.names.items s.births.items s.exprs.items s.stmts.items s.funs.items s.program.items s.arena (is_ok c.extend_from_slice.result) c.args.names.now))
