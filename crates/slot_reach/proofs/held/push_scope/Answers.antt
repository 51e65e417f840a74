use Rattle.std.proofs.Common.{slice_get}
use Rattle.slot_reach.specs.Reads.{value_refs}
use Rattle.slot_reach.proofs.Steps.{Pair, all_pairs, more_pairs, pair_of_value}
use Rattle.slot_reach.proofs.held.push_scope.Goals as goal

pub returns-in_default : goal.returns-in_default
returns-in_default c =
    let refs = value_refs c.args.names.now c.args.store.now.cells in
    all_pairs (λ (p : Pair). refs p.1) (slice_get c.args.store.now.cells c.args.scope) c.pairs.at c.args.out.now.items c.pairs.out.items c.in_default.ensures c.pairs.invariant

pub pairs-preserved : goal.pairs-preserved
pairs-preserved c =
    let refs = value_refs c.args.names.now c.args.store.now.cells in
    let cell = slice_get c.args.store.now.cells c.args.scope in
    more_pairs (λ (p : Pair). refs p.1) cell c.pairs.at c.in-Some.value.now c.args.out.now.items c.pairs.out.items c.push_value.new.out.items c.in-Some.ensures c.pairs.invariant
    (pair_of_value refs cell c.pairs.at c.in-Some.value.now c.pairs.out.items c.push_value.new.out.items c.in-Some.ensures c.in_ok-push_value.ensures)
