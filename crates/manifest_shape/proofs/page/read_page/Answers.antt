use Rattle.std.proofs.Common.{◌≡◌, length, arith, rules}
use Rattle.std.proofs.lemmas.Grind.{common_steps}
use Rattle.std.specs.Result.{IsErrOf}
use Rattle.json_shapes.specs.declared.fault.Misfit.TheVariants as misfit
use Rattle.manifest_shape.proofs.PageLemmas.{no_entry_yet, page_length, page_fault_at, stops_at_entry, page_more, page_each, page_names}
use Rattle.manifest_shape.proofs.page.read_page.Goals as goal

pub entries-init : goal.entries-init
entries-init c = no_entry_yet c.args.version c.args.page.now c.new-entries.result.items c.new-names.result.items c.new-entries.ensures.items c.new-names.ensures.items

pub returns-in-Err-Shape-clause-err : goal.returns-in-Err-Shape-clause-err
returns-in-Err-Shape-clause-err c =
    let test = c.entries-test.true in
    let same : length c.entries.entries.items ≡ c.entries.value-index = page_length c.args.version c.args.page.now c.entries.value-index c.entries.entries.items c.entries.names.items (omega arith) c.entries.invariant in
    let place : c.len-item.result ≡ c.entries.value-index = grind (arith, common_steps, same, c.len-item.ensures) in
    let here : IsErrOf c.read_named.result misfit.Shape = search rules in
    page_fault_at c.args.version c.args.page.now c.entries.value-index c.len-item.result place test
    (stops_at_entry c.args.version c.args.page.now c.entries.value-index c.value-item.result c.entries.entries.items c.entries.names.items test c.value-item.is c.entries.invariant (c.read_named.ensures.misfit here))

pub entries-preserved : goal.entries-preserved
entries-preserved c =
    page_more c.args.version c.args.page.now c.entries.value-index c.value-item.result c.entries.entries.items c.push.new.self.items c.in-Ok.entry c.entries.names.items c.read_named.new.names.items c.entries-test.true c.value-item.is c.entries.invariant c.in-Ok.ensures.entry c.in-Ok.ensures.names c.in-Ok.ensures.slots (grind (arith, common_steps, c.in_ok-push-in-Ok.ensures.items))

pub returns-clause-each : goal.returns-clause-each
returns-clause-each c = page_each c.args.version c.args.page.now c.entries.value-index c.entries.entries.items c.entries.names.items c.entries-test.false c.entries.invariant

pub returns-clause-names : goal.returns-clause-names
returns-clause-names c = page_names c.args.version c.args.page.now c.entries.value-index c.entries.entries.items c.entries.names.items c.entries-test.false c.entries.invariant
