use Rattle.std.proofs.Common.{List, length, map, take}
use Rattle.adsafe_rules.specs.declared.accepted.Accepted.{Accepted}
use Rattle.slot_check.specs.Verdicts.{sources_of}
use Rattle.page_plan.specs.Loadable.{AreLoadableSwaps}
use Rattle.page_check.specs.Judged.{JudgesOn, JudgesOver, key_of}
use Rattle.page_check.proofs.Swapped.{SwapsSoFar}
use Rattle.page_check.proofs.swaps.judge_swaps.Given as goal

abbrev pub invariant-swaps : goal.invariant-swaps
invariant-swaps l = record {
  swaps : (accepted : List Accepted) → JudgesOver (sources_of l.libs) accepted l.initial.later → SwapsSoFar accepted (sources_of l.libs) l.specs (take l.i l.slots) (sources_of (take l.i l.files)) l.contents.items l.refusals.items;
  loadable : (accepted : List Accepted) → JudgesOver (sources_of l.libs) accepted l.initial.later → AreLoadableSwaps (length accepted) (map key_of l.specs) (take l.i l.slots) l.contents.items;
  stays : JudgesOn (sources_of l.libs) l.initial.later l.later;
}
