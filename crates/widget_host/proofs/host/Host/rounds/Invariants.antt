use Rattle.std.proofs.Common.{◌≡◌, ◌-◌, [], true}
use Rattle.slot_picks.specs.Feeding.{sum_of}
use Rattle.widget_host.specs.Housed.{IsHoused, channels, marked, told}
use Rattle.widget_host.proofs.Ways.{OnWay}
use Rattle.widget_host.proofs.host.Host.rounds.Given as goal

abbrev pub invariant-rounds : goal.invariant-rounds
invariant-rounds g l = record {
  housed : IsHoused l.self;
  way : OnWay l.slice l.initial.self l.self;
  first : marked l.initial.self ≡ true → (l.self ≡ l.initial.self) × (l.chooser ≡ l.initial.chooser);
  only : channels l.initial.self ≡ [] → (l.self ≡ l.initial.self) × (l.chooser ≡ l.initial.chooser);
}

abbrev pub decreases-rounds : goal.decreases-rounds
decreases-rounds g l = 5120 - sum_of (told l.self)
