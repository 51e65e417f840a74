use Rattle.slot_check.specs.Verdicts.{sources_of}
use Rattle.slot_check.proofs.Written.{no_lines, lines_next}
use Rattle.slot_check.proofs.lines.slot_lines.Goals as goal

pub slots-init : goal.slots-init
slots-init c = record { lines = no_lines c.new-2.result.items c.new-2.ensures.items; judged = c.in_ok-judged.ensures }

pub slots-preserved : goal.slots-preserved
slots-preserved c = record {
  lines = lines_next (sources_of c.args.libs.now) c.args.names.now c.args.files.now c.slots.i c.index-names-i.result c.index-files-i.result c.slots.text.refused c.in_ok-line.line.refused c.append.new.text.refused c.slots.text.bytes.items c.in_ok-line.line.bytes.items c.append.new.text.bytes.items c.requires.paired c.slots-test.true c.index-names-i.is c.index-files-i.is c.slots.invariant.lines c.in_ok-line.ensures.line c.in_ok-append.ensures.refused c.in_ok-append.ensures.bytes;
  judged = c.in_ok-line.ensures.judged;
}
