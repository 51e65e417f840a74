use Rattle.std.proofs.Common.{ap, arith}
use Rattle.js_tree.specs.Plain.{expr_place}
use Rattle.js_tree.proofs.Arenas.{expr_in, expr_is}
use Rattle.js_tree.proofs.tree.Tree.expr_at.Goals as goal

pub index-requires : goal.index-requires
index-requires c = let s = c.args.self.now in omega (arith, s.exprs.ok.0, expr_in s.names.items s.births.items s.exprs.items s.stmts.items s.funs.items s.program.items s.arena c.args.id c.requires)

pub returns : goal.returns
returns c = let s = c.args.self.now in ap expr_place (expr_is s.names.items s.births.items s.exprs.items s.stmts.items s.funs.items s.program.items s.arena c.args.id c.index.result.now c.requires c.index.ensures)
