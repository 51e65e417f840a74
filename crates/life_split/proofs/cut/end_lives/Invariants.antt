use Rattle.std.proofs.Common.{◌≡◌, map, take, drop}
use Rattle.life_split.specs.Steps.{with_last}
use Rattle.life_split.proofs.cut.end_lives.Given as goal

abbrev pub invariant-slots : goal.invariant-slots
invariant-slots l = record {
  ended : take l.list-index (map (λ v. v.items) l.lives) ≡ map (with_last l.end) (take l.list-index (map (λ v. v.items) l.fn.lives));
  left : drop l.list-index (map (λ v. v.items) l.lives) ≡ drop l.list-index (map (λ v. v.items) l.fn.lives);
}
