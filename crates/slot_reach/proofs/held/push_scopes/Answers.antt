use Rattle.std.proofs.Common.{◌++◌, ap, arith, length, ◌<◌, ◌∙◌}
use Rattle.std.proofs.lemmas.List.{take_all}
use Rattle.object_store.specs.Owned.{is_own_scope}
use Rattle.store_cells.specs.Cells.{PlainCell}
use Rattle.slot_reach.specs.Reads.{pair_refs, scope_refs}
use Rattle.slot_reach.proofs.Steps.{more_scopes}
use Rattle.slot_reach.proofs.held.push_scopes.Goals as goal

pub cells-preserved : goal.cells-preserved
cells-preserved c =
    let cells = c.args.store.now.cells in
    let within : c.cells.cell < length cells = omega (arith, c.cells-test.true, c.in_ok-cell-end.ensures) in
    more_scopes (is_own_scope c.args.w) (λ (x : PlainCell). pair_refs c.args.names.now cells x.pairs) cells c.cells.cell c.args.out.now.items c.cells.out.items c.push_if_scope.new.out.items within c.cells.invariant c.in_ok-push_if_scope.ensures

pub returns : goal.returns
returns c =
    let cells = c.args.store.now.cells in
    c.cells.invariant ∙ ap (λ l. c.args.out.now.items ++ scope_refs c.args.names.now cells c.args.w l) (take_all c.cells.cell cells (omega (arith, c.cells-test.false, c.in_ok-cell-end.ensures)))
