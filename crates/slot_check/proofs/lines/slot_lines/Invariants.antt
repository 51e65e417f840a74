use Rattle.std.proofs.Common.{take}
use Rattle.slot_check.specs.Line.{AreSlotLines, slots_over}
use Rattle.slot_check.specs.Verdicts.{sources_of, AreJudged}
use Rattle.slot_check.proofs.lines.slot_lines.Given as goal

abbrev pub invariant-slots : goal.invariant-slots
invariant-slots l = record {
  lines : AreSlotLines (slots_over (sources_of l.libs) (take l.i l.names) (sources_of (take l.i l.files))) l.text.refused l.text.bytes.items;
  judged : AreJudged (sources_of l.libs) l.judged;
}
