use Rattle.std.proofs.Common.{◌≡◌, ◌<◌, length, subst, arith, rules}
use Rattle.std.proofs.lemmas.Grind.{common_steps}
use Rattle.std.specs.Result.{IsErrOf}
use Rattle.json_shapes.specs.declared.fault.Misfit.TheVariants as misfit
use Rattle.trace_reader.proofs.TraceLemmas.{none_yet, so_far_length, fault_at, stops_at_swap, stops_at_item, so_far_more}
use Rattle.trace_reader.proofs.trace.read_items.Goals as goal

pub entries-init : goal.entries-init
entries-init c = none_yet c.args.version c.args.names.now c.args.entries.now c.new-items.result.items c.new-items.ensures.items

pub overflow_cast-item : goal.overflow_cast-item
overflow_cast-item c =
    let test = c.entries-test.true in
    let same : length c.entries.items.items ≡ c.entries.entry-index = so_far_length c.args.version c.args.names.now c.args.entries.now c.entries.entry-index c.entries.items.items c.entries.swaps (omega arith) c.entries.invariant in
    let place : c.len-item.result ≡ c.entries.entry-index = grind (arith, common_steps, same, c.len-item.ensures) in
    omega (arith, place, c.requires.few)

pub returns-then-swaps-gt-MOST_SWAPS-clause-err : goal.returns-then-swaps-gt-MOST_SWAPS-clause-err
returns-then-swaps-gt-MOST_SWAPS-clause-err c =
    let test = c.entries-test.true in
    let same : length c.entries.items.items ≡ c.entries.entry-index = so_far_length c.args.version c.args.names.now c.args.entries.now c.entries.entry-index c.entries.items.items c.entries.swaps (omega arith) c.entries.invariant in
    let place : c.len-item.result ≡ c.entries.entry-index = grind (arith, common_steps, same, c.len-item.ensures) in
    fault_at c.args.version c.args.names.now c.args.entries.now c.entries.entry-index c.len-item.result place test
    (stops_at_swap c.args.version c.args.names.now c.args.entries.now c.entries.entry-index c.entry-item.result c.entries.items.items c.entries.swaps test c.entry-item.is c.entries.invariant (subst (λ n. 4 < n) c.swaps_with-swaps.ensures c.if-swaps-gt-MOST_SWAPS.true))

pub returns-in-Err-Shape-clause-err : goal.returns-in-Err-Shape-clause-err
returns-in-Err-Shape-clause-err c =
    let test = c.entries-test.true in
    let same : length c.entries.items.items ≡ c.entries.entry-index = so_far_length c.args.version c.args.names.now c.args.entries.now c.entries.entry-index c.entries.items.items c.entries.swaps (omega arith) c.entries.invariant in
    let place : c.len-item.result ≡ c.entries.entry-index = grind (arith, common_steps, same, c.len-item.ensures) in
    let here : IsErrOf c.read_item.result misfit.Shape = search rules in
    fault_at c.args.version c.args.names.now c.args.entries.now c.entries.entry-index c.len-item.result place test
    (stops_at_item c.args.version c.args.names.now c.args.entries.now c.entries.entry-index c.entry-item.result c.entries.items.items c.entries.swaps test c.entry-item.is c.entries.invariant (c.read_item.ensures.misfit here))

pub entries-preserved : goal.entries-preserved
entries-preserved c =
    so_far_more c.args.version c.args.names.now c.args.entries.now c.entries.entry-index c.entry-item.result c.entries.items.items c.push.new.self.items c.in-Ok.read c.entries.swaps c.swaps_with-swaps.result c.entries-test.true c.entry-item.is c.entries.invariant c.in-Ok.ensures.ok c.swaps_with-swaps.ensures c.if-swaps-gt-MOST_SWAPS.false (grind (arith, common_steps, c.in_ok-push-in-Ok.ensures.items))
