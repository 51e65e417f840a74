use Rattle.std.proofs.Common.{◌≡◌, ◌<◌, ◌≤◌, sym, ap, ◌∙◌, subst, arith, false}
use Rattle.store_cells.specs.Cells.{Cells, is_bunch_at, is_scope_at, prototypes}
use Rattle.store_cells.specs.Host.{AreHost, is_permitted_cell, host_count}
use Rattle.store_cells.proofs.Hosts.{place_within, place_permitted}
use Rattle.store_table.proofs.Protos.{host_chain, host_object, host_open}
use Rattle.object_store.proofs.store.Store.host.Goals as goal

pub returns-clause-place : goal.returns-clause-place
returns-clause-place c = c.place_of.ensures

pub returns-clause-within : goal.returns-clause-within
returns-clause-within c = ap is_permitted_cell c.place_of.ensures ∙ place_permitted c.args.entry

pub returns-clause-cell : goal.returns-clause-cell
returns-clause-cell c =
    let s = c.self in
    let h : AreHost c.args.self.now.cells = subst (λ (t : Cells). AreHost t.cells) s.view_is s.invariant.closed.host in
    h.same c.place_of.result (subst (λ n. n < host_count) (sym c.place_of.ensures) (place_within c.args.entry))

pub returns-clause-object : goal.returns-clause-object
returns-clause-object c =
    let s = c.self in
    let lt = subst (λ n. n < host_count) (sym c.place_of.ensures) (place_within c.args.entry) in
    subst (λ (t : Cells). is_scope_at t.cells c.place_of.result ≡ false) s.view_is (host_object s.inside.names s.inside.cells.items s.invariant.base.ordered s.invariant.closed.host c.place_of.result lt)

pub returns-clause-chain : goal.returns-clause-chain
returns-clause-chain c =
    let s = c.self in
    let lt = subst (λ n. n < host_count) (sym c.place_of.ensures) (place_within c.args.entry) in
    subst (λ (t : Cells). prototypes t.cells c.place_of.result ≤ 2) s.view_is (host_chain s.inside.names s.inside.cells.items s.invariant.base.ordered s.invariant.closed.host c.place_of.result lt)

pub returns-clause-born : goal.returns-clause-born
returns-clause-born c =
    let s = c.self in
    let h : AreHost c.args.self.now.cells = subst (λ (t : Cells). AreHost t.cells) s.view_is s.invariant.closed.host in
    omega (arith, h.enough, place_within c.args.entry, c.place_of.ensures)

pub returns-clause-unbunched : goal.returns-clause-unbunched
returns-clause-unbunched c =
    let s = c.self in
    let lt = subst (λ n. n < host_count) (sym c.place_of.ensures) (place_within c.args.entry) in
    subst (λ (t : Cells). is_bunch_at t.cells c.place_of.result ≡ false) s.view_is (host_open s.inside.names s.inside.cells.items s.invariant.base.ordered s.invariant.closed.host c.place_of.result lt)
