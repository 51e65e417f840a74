use Rattle.std.proofs.Common.{take}
use Rattle.slot_check.specs.Line.{slots_over}
use Rattle.slot_check.specs.Verdicts.{sources_of, AreJudged}
use Rattle.explain_run.specs.Text.{AreSlotTexts}
use Rattle.explain_run.proofs.refusals.tell_slots.Given as goal

abbrev pub invariant-slots : goal.invariant-slots
invariant-slots l = record {
  texts : AreSlotTexts (slots_over (sources_of l.libs) (take l.i l.names) (sources_of (take l.i l.files))) l.refused l.bytes.items;
  judged : AreJudged (sources_of l.libs) l.judged;
}
