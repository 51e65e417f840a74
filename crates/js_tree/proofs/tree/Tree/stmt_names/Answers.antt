use Rattle.std.proofs.Common.{arith, ap, ◌∙◌}
use Rattle.js_tree.specs.Plain.{stmt_names}
use Rattle.js_tree.proofs.Arenas.{stmt_in, stmt_is, stmt_within}
use Rattle.js_tree.proofs.tree.Tree.stmt_names.Goals as goal

pub index-requires : goal.index-requires
index-requires c = let s = c.args.self.now in omega (arith, s.stmts.ok.0, stmt_in s.names.items s.births.items s.exprs.items s.stmts.items s.funs.items s.program.items s.arena c.args.id c.requires)

pub names_in-requires : goal.names_in-requires
names_in-requires c = let s = c.args.self.now in stmt_within s.names.items s.births.items s.exprs.items s.stmts.items s.funs.items s.program.items s.arena c.args.id c.index.result.now c.requires c.index.ensures

pub returns : goal.returns
returns c = let s = c.args.self.now in c.names_in.ensures ∙ ap stmt_names (stmt_is s.names.items s.births.items s.exprs.items s.stmts.items s.funs.items s.program.items s.arena c.args.id c.index.result.now c.requires c.index.ensures)
