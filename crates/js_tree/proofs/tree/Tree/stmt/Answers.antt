use Rattle.std.proofs.Common.{arith}
use Rattle.js_tree.proofs.Arenas.{stmt_in, stmt_reads, stmt_stands}
use Rattle.js_tree.proofs.tree.Tree.stmt.Goals as goal

pub index-requires : goal.index-requires
index-requires c = let s = c.args.self.now in omega (arith, s.stmts.ok.0, stmt_in s.names.items s.births.items s.exprs.items s.stmts.items s.funs.items s.program.items s.arena c.args.id c.requires)

pub returns-clause-same : goal.returns-clause-same
returns-clause-same c = let s = c.args.self.now in stmt_reads s.names.items s.births.items s.exprs.items s.stmts.items s.funs.items s.program.items s.arena c.args.id c.index.result.now c.requires c.index.ensures

pub returns-clause-parts : goal.returns-clause-parts
returns-clause-parts c = let s = c.args.self.now in (stmt_stands s.names.items s.births.items s.exprs.items s.stmts.items s.funs.items s.program.items s.arena c.args.id c.index.result.now c.requires c.index.ensures).parts
