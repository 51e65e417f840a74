use Rattle.std.proofs.Common.{arith, ap, ◌∙◌}
use Rattle.js_tree.specs.Plain.{fun_names}
use Rattle.js_tree.proofs.Arenas.{fun_in, fun_is, fun_within}
use Rattle.js_tree.proofs.tree.Tree.fun_names.Goals as goal

pub index-requires : goal.index-requires
index-requires c = let s = c.args.self.now in omega (arith, s.funs.ok.0, fun_in s.names.items s.births.items s.exprs.items s.stmts.items s.funs.items s.program.items s.arena c.args.id c.requires)

pub names_in-requires : goal.names_in-requires
names_in-requires c = let s = c.args.self.now in fun_within s.names.items s.births.items s.exprs.items s.stmts.items s.funs.items s.program.items s.arena c.args.id c.index.result.now c.requires c.index.ensures

pub returns : goal.returns
returns c = let s = c.args.self.now in c.names_in.ensures ∙ ap fun_names (fun_is s.names.items s.births.items s.exprs.items s.stmts.items s.funs.items s.program.items s.arena c.args.id c.index.result.now c.requires c.index.ensures)
