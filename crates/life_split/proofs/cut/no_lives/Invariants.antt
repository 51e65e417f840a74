use Rattle.std.proofs.Common.{◌≡◌, [], map, replicate}
use Rattle.life_split.proofs.cut.no_lives.Given as goal

abbrev pub invariant-slots : goal.invariant-slots
invariant-slots l = map (λ v. v.items) l.lives.items ≡ replicate l.counter []
