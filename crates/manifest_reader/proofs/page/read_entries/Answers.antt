use Rattle.std.proofs.Common.{◌≡◌, length, rules, arith}
use Rattle.std.proofs.lemmas.Grind.{common_steps}
use Rattle.std.specs.Result.{IsErrOf}
use Rattle.manifest_reader.specs.declared.html.HtmlFault.TheVariants as fault
use Rattle.manifest_reader.proofs.LoopLemmas.{no_entry_yet, entry_more, entry_stops, entries_whole}
use Rattle.manifest_reader.proofs.page.read_entries.Goals as goal

pub entries-init : goal.entries-init
entries-init c = no_entry_yet c.args.given c.args.entries.now c.new-read.result.items c.new-read.ensures.items

pub returns-in-Err-Bad-clause-err : goal.returns-in-Err-Bad-clause-err
returns-in-Err-Bad-clause-err c =
    let here : IsErrOf c.read_entry.result fault.Bad = search rules in
    let place : c.len-item.result ≡ length c.entries.read.items = grind (arith, common_steps, c.len-item.ensures) in
    entry_stops c.args.given c.args.entries.now c.entries.entry-index c.len-item.result c.entry-item.result c.entries.read.items c.entries.room c.entries-test.true c.entry-item.is c.entries.invariant place (c.read_entry.ensures.bad here)

pub entries-preserved : goal.entries-preserved
entries-preserved c =
    entry_more c.args.given c.args.entries.now c.entries.entry-index c.entry-item.result c.entries.read.items c.push.new.self.items c.in-Ok.next c.entries.room c.in-Ok.left c.entries-test.true c.entry-item.is c.entries.invariant c.in-Ok.ensures.entry c.in-Ok.ensures.room (grind (arith, common_steps, c.in_ok-push-in-Ok.ensures.items))

pub returns-clause-filled : goal.returns-clause-filled
returns-clause-filled c = entries_whole c.args.given c.args.entries.now c.entries.entry-index c.entries.read.items c.entries.room c.entries-test.false c.entries.invariant
