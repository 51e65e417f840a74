use Rattle.std.proofs.Common.{take}
use Rattle.std.specs.Prelude.{nat_eq}
use Rattle.std.specs.List.{list_any}
use Rattle.slot_picks.specs.life.Work.TheVariants as work
use Rattle.life_laws.specs.Chains.{last_life}
use Rattle.slot_picks.specs.Lives.{chains_of}
use Rattle.widget_host.specs.Feeding.{AreFed, AreSame}
use Rattle.widget_host.proofs.giving.feed_all.Given as goal

abbrev pub invariant-slots : goal.invariant-slots
invariant-slots l = record {
  fed : AreFed (λ v. list_any (λ c. nat_eq (last_life c) v) (take l.slot-index (chains_of l.slots))) (work.Advance l.ms) 0 l.initial.places.items l.places.items;
  same : AreSame l.initial.places.items l.places.items;
}
