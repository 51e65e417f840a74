use Rattle.std.proofs.Common.{take}
use Rattle.slot_check.specs.Verdicts.{sources_of, AreNamedClean, AreJudged}
use Rattle.slot_check.proofs.parts.judge_named.Given as goal

abbrev pub invariant-names : goal.invariant-names
invariant-names l = record {
  clean : AreNamedClean (sources_of l.libs) (take l.name-index l.names) l.places.items;
  judged : AreJudged (sources_of l.libs) l.judged;
}
