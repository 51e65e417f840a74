use Rattle.std.proofs.Common.{rules}
use Rattle.object_store.proofs.Shown.{list_never, list_none, list_some}
use Rattle.object_store.proofs.store.Store.lists.Goals as goal

pub returns-then-not-is_listed : goal.returns-then-not-is_listed
returns-then-not-is_listed c =
    let s = c.self in
    list_never c.args.self.now s.inside.names s.inside.cells.items s.inside.kept.items s.view_is s.invariant c.args.cell c.cell-held.result.now c.cell-held.ensures c.args.name.now (search (rules, c.is_listed.ensures, c.if-not-is_listed.true))

pub returns-in-None : goal.returns-in-None
returns-in-None c =
    let s = c.self in
    list_none c.args.self.now s.inside.names s.inside.cells.items s.inside.kept.items s.view_is s.invariant c.args.cell c.cell-held.result.now c.cell-held.ensures c.args.name.now c.in-None.ensures.found

pub returns-in-Some : goal.returns-in-Some
returns-in-Some c =
    let s = c.self in
    list_some c.args.self.now s.inside.names s.inside.cells.items s.inside.kept.items s.view_is s.invariant c.args.cell c.cell-held.result.now c.cell-held.ensures c.args.name.now (search (rules, c.is_listed.ensures, c.if-not-is_listed.false)) c.in-Some.n c.in-Some.ensures.found.0 c.has.result c.has.ensures
