use Rattle.std.proofs.Common.{◌≡◌, ◌++◌, take}
use Rattle.std.specs.List.{flat_map}
use Rattle.adhost_run.proofs.demos.push_pieces.Given as goal

abbrev pub invariant-pieces : goal.invariant-pieces
invariant-pieces l = l.text.items ≡ l.initial.text.items ++ flat_map (λ p. p.now ++ l.name) (take l.piece-index l.pieces)
