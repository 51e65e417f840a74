use Rattle.std.proofs.Common.{◌≡◌, ℕ, ◌<◌, [], map, length, get_or, drop}
use Rattle.life_split.specs.Cut.{lives_of}
use Rattle.life_split.proofs.Cutting.{found}
use Rattle.life_split.proofs.cut.lives.Given as goal

abbrev pub invariant-items : goal.invariant-items
invariant-items l = record {
  slots : length l.lives.items ≡ l.slots;
  found : (w : ℕ) → w < l.slots → found w l.at (drop l.at l.items) (get_or (map (λ v. v.items) l.lives.items) w []) (length l.items) ≡ lives_of l.items w;
}
