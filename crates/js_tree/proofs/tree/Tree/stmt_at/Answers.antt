use Rattle.std.proofs.Common.{ap, arith}
use Rattle.js_tree.specs.Plain.{stmt_place}
use Rattle.js_tree.proofs.Arenas.{stmt_in, stmt_is}
use Rattle.js_tree.proofs.tree.Tree.stmt_at.Goals as goal

pub index-requires : goal.index-requires
index-requires c = let s = c.args.self.now in omega (arith, s.stmts.ok.0, stmt_in s.names.items s.births.items s.exprs.items s.stmts.items s.funs.items s.program.items s.arena c.args.id c.requires)

pub returns : goal.returns
returns c = let s = c.args.self.now in ap stmt_place (stmt_is s.names.items s.births.items s.exprs.items s.stmts.items s.funs.items s.program.items s.arena c.args.id c.index.result.now c.requires c.index.ensures)
