use Rattle.std.proofs.Common.{◌≡◌, ℕ, ◌≤◌, length, drop}
use Rattle.page_build.specs.Homes.{HaveRaws}
use Rattle.page_load.specs.Laying.{IsBare, IsUnused}
use Rattle.page_load.specs.Lives.{ArePlaces, HaveRoots, IsNobodys}
use Rattle.page_load.proofs.lives.places_of.Given as goal

abbrev pub invariant-places : goal.invariant-places
invariant-places l = record {
  made : length l.places.items ≡ l.w;
  few : l.w ≤ 20;
  left : l.starts.items ≡ drop l.w l.initial.starts.items;
  places : ArePlaces l.shared l.initial.starts.items l.places.items;
  roots : HaveRoots l.roots l.places.items;
  codes : l.shared.codes ≡ l.initial.shared.codes;
  page : l.shared.page ≡ l.initial.shared.page;
  raws : HaveRaws l.shared.store l.shared.page;
  unused : IsUnused l.shared.store l.w;
  others : (v : ℕ) → IsNobodys l.places.items v → IsBare v l.shared.store;
}
