use Rattle.std.proofs.Common.{◌≡◌, length, sym, ◌∙◌, subst, arith}
use Rattle.js_tree.specs.declared.tree.FunEntry.{FunEntry}
use Rattle.js_tree.specs.Forest.{AreFunParts}
use Rattle.js_tree.specs.Trees.{trees}
use Rattle.js_tree.proofs.Arenas.{funs_count, arena_fun, adds_one_fun, program_with_fun}
use Rattle.js_tree.proofs.tree.Tree.add_fun.Goals as goal

pub overflow_cast-id : goal.overflow_cast-id
overflow_cast-id c = let s = c.args.self.now in omega (arith, c.len-id.ensures, c.requires.room, funs_count s.names.items s.births.items s.exprs.items s.stmts.items s.funs.items s.program.items s.arena)

pub invariant_of-self-in-Ok : goal.invariant_of-self-in-Ok
invariant_of-self-in-Ok c =
    let t = c.add_names.new.self in
    let entry : FunEntry = record { node = c.args.node; names = c.in_ok-names.names } in
    let parts = subst (λ f. AreFunParts f c.args.node) (sym c.in_ok-names.ensures.nodes) c.requires.parts in
    rw (c.in-Ok.ensures.items, c.in_ok-push.ensures.items) (record { arena = arena_fun t.names.items t.births.items t.exprs.items t.stmts.items t.funs.items t.program.items t.arena entry parts c.in_ok-names.ensures.within })

pub returns-in-Ok-clause-added : goal.returns-in-Ok-clause-added
returns-in-Ok-clause-added c =
    let s = c.args.self.now in
    let t = c.add_names.new.self in
    let entry : FunEntry = record { node = c.args.node; names = c.in_ok-names.names } in
    let number : c.len-id.result ≡ length (trees s).funs = omega (arith, c.len-id.ensures, funs_count s.names.items s.births.items s.exprs.items s.stmts.items s.funs.items s.program.items s.arena) in
    rw (c.in-Ok.ensures.items, c.in_ok-push.ensures.items) (adds_one_fun t.names.items t.births.items t.exprs.items t.stmts.items t.funs.items t.program.items t.arena (trees s) entry c.args.names.items _ (sym c.in_ok-names.ensures.nodes) (sym (c.in_ok-names.ensures.added ∙ c.deref.ensures.value)) number)

pub returns-in-Ok-clause-program : goal.returns-in-Ok-clause-program
returns-in-Ok-clause-program c =
    let t = c.add_names.new.self in
    let entry : FunEntry = record { node = c.args.node; names = c.in_ok-names.names } in
    rw (c.in-Ok.ensures.items, c.in_ok-push.ensures.items) (program_with_fun t.names.items t.births.items t.exprs.items t.stmts.items t.funs.items t.program.items t.arena entry ∙ c.in_ok-names.ensures.program)
