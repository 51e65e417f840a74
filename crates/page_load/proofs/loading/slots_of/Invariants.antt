use Rattle.std.proofs.Common.{◌≡◌, map, take}
use Rattle.slot_picks.specs.declared.slots.Slot.{Slot}
use Rattle.slot_picks.specs.Lives.{chains_of}
use Rattle.page_load.specs.Homes.{fuels_of, names_of}
use Rattle.page_load.specs.Loads.{HaveFewFuel, singles}
use Rattle.page_load.proofs.loading.slots_of.Given as goal

abbrev pub invariant-slots : goal.invariant-slots
invariant-slots l = record {
  names : map (λ (s : Slot). s.name) l.slots.items ≡ names_of (take l.w l.specs);
  fuels : map (λ (s : Slot). s.fuel) l.slots.items ≡ fuels_of (take l.w l.specs);
  few : HaveFewFuel l.slots.items;
  chains : chains_of l.slots.items ≡ singles 0 l.w;
}
