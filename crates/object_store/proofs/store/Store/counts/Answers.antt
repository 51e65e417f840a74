use Rattle.std.proofs.Common.{sym, subst, ◌∙◌, ap, length}
use Rattle.code_units.specs.declared.owner.Owner.{Owner}
use Rattle.code_units.specs.declared.owner.Owner.TheVariants as whose
use Rattle.store_cells.specs.Cells.{IsOwner}
use Rattle.object_store.specs.Calls.{cells_by}
use Rattle.store_cells.specs.Cells.{Cells}
use Rattle.object_store.proofs.Counted.{counts_exact, counts_within}
use Rattle.object_store.proofs.store.Store.counts.Goals as goal

pub returns-in-Widget-clause-exact : goal.returns-in-Widget-clause-exact
returns-in-Widget-clause-exact c =
    let s = c.self in
    counts_exact s.inside.names s.inside.cells.items s.inside.kept.items s.invariant c.in-Widget.w c.index.result.now (subst IsOwner c.in-Widget.is c.requires) c.index.ensures
    ∙ ap (λ (t : Cells). length (cells_by t.cells (whose.Widget c.in-Widget.w))) s.view_is ∙ ap (λ (o : Owner). length (cells_by c.args.self.now.cells o)) (sym c.in-Widget.is)

pub returns-in-Widget-clause-cells : goal.returns-in-Widget-clause-cells
returns-in-Widget-clause-cells c = let s = c.self in (counts_within s.inside.names s.inside.cells.items s.inside.kept.items s.invariant c.in-Widget.w c.index.result.now (subst IsOwner c.in-Widget.is c.requires) c.index.ensures).0

pub returns-in-Widget-clause-slots : goal.returns-in-Widget-clause-slots
returns-in-Widget-clause-slots c = let s = c.self in (counts_within s.inside.names s.inside.cells.items s.inside.kept.items s.invariant c.in-Widget.w c.index.result.now (subst IsOwner c.in-Widget.is c.requires) c.index.ensures).1

pub returns-in-Widget-clause-units : goal.returns-in-Widget-clause-units
returns-in-Widget-clause-units c = let s = c.self in (counts_within s.inside.names s.inside.cells.items s.inside.kept.items s.invariant c.in-Widget.w c.index.result.now (subst IsOwner c.in-Widget.is c.requires) c.index.ensures).2
