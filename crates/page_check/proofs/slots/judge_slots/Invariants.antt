use Rattle.std.proofs.Common.{◌≡◌, All, List, length, map, take}
use Rattle.adsafe_rules.specs.declared.accepted.Accepted.{Accepted}
use Rattle.manifest_reader.specs.Page.{part_of}
use Rattle.slot_check.specs.Verdicts.{sources_of}
use Rattle.page_plan.specs.declared.SlotSpec.{SlotSpec}
use Rattle.page_plan.specs.Loadable.{IsSwapLoadable}
use Rattle.page_check.specs.Runs.{slots_named, runs_over}
use Rattle.page_check.specs.Judged.{JudgesOn, JudgesOver, name_of, AreJudgedSlots}
use Rattle.page_check.proofs.slots.judge_slots.Given as goal

abbrev pub invariant-entries : goal.invariant-entries
invariant-entries l = record {
  names : map name_of l.slots.items ≡ slots_named (map part_of (take l.entry-index l.entries));
  slots : (accepted : List Accepted) → JudgesOver (sources_of l.libs) accepted l.initial.later → AreJudgedSlots accepted (runs_over (sources_of l.libs) (map name_of l.slots.items) (sources_of l.files)) l.slots.items l.refusals.items;
  loadable : (accepted : List Accepted) → JudgesOver (sources_of l.libs) accepted l.initial.later → All (λ (s : SlotSpec). IsSwapLoadable (length accepted) s.name s.content) l.slots.items;
  stays : JudgesOn (sources_of l.libs) l.initial.later l.later;
}
