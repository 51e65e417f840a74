use Rattle.std.proofs.Common.{refl}
use Rattle.adhost_run.proofs.DemoPage.{slot_there, slot_accepted, short_more, short_all}
use Rattle.adhost_run.proofs.demos.push_short_lines.Goals as goal

pub line-requires-clause-housed : goal.line-requires-clause-housed
line-requires-clause-housed c = c.requires.told.1.housed

pub line-requires-clause-there : goal.line-requires-clause-there
line-requires-clause-there c = slot_there c.args.host.now c.args.names.now c.requires.told.0 c.names.i c.requires.told.1 c.names-test.true

pub line-requires-clause-accepted : goal.line-requires-clause-accepted
line-requires-clause-accepted c = slot_accepted c.args.host.now c.args.names.now c.requires.told.0 c.names.i c.requires.told.1 c.names-test.true

pub names-preserved : goal.names-preserved
names-preserved c = λ owns all. short_more c.args.host.now c.args.names.now owns c.names.i c.index-names-i.result c.in_ok-share.field-0 c.in_ok-line.line c.args.out.now.items c.names.out.items c.report_line.new.out.items _ all c.names-test.true c.index-names-i.is c.in_ok-share.ensures (c.names.invariant owns all) c.in_ok-report_line.ensures.ok c.in_ok-line.ensures.line (λ o is. c.run_text.ensures.short o is refl)

pub returns : goal.returns
returns c = λ owns all. short_all c.args.names.now owns c.names.i c.args.out.now.items c.names.out.items all.even c.names-test.false (c.names.invariant owns all)
