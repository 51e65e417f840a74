use Rattle.std.proofs.Common.{◌≡◌, map, take}
use Rattle.slot_picks.specs.Lives.{chains_of}
use Rattle.slot_picks.specs.Posting.{fresh_of_lasts}
use Rattle.slot_picks.proofs.posting.all_fresh.Given as goal

abbrev pub invariant-slots : goal.invariant-slots
invariant-slots l = map (λ x. x.items) l.all.items ≡ fresh_of_lasts l.places (chains_of (take l.slot-index l.slots))
