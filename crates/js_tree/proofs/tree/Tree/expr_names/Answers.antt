use Rattle.std.proofs.Common.{arith, ap, ◌∙◌}
use Rattle.js_tree.specs.Plain.{expr_names}
use Rattle.js_tree.proofs.Arenas.{expr_in, expr_is, expr_within}
use Rattle.js_tree.proofs.tree.Tree.expr_names.Goals as goal

pub index-requires : goal.index-requires
index-requires c = let s = c.args.self.now in omega (arith, s.exprs.ok.0, expr_in s.names.items s.births.items s.exprs.items s.stmts.items s.funs.items s.program.items s.arena c.args.id c.requires)

pub names_in-requires : goal.names_in-requires
names_in-requires c = let s = c.args.self.now in expr_within s.names.items s.births.items s.exprs.items s.stmts.items s.funs.items s.program.items s.arena c.args.id c.index.result.now c.requires c.index.ensures

pub returns : goal.returns
returns c = let s = c.args.self.now in c.names_in.ensures ∙ ap expr_names (expr_is s.names.items s.births.items s.exprs.items s.stmts.items s.funs.items s.program.items s.arena c.args.id c.index.result.now c.requires c.index.ensures)
