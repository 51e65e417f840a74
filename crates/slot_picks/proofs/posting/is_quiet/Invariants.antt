use Rattle.std.proofs.Common.{◌≡◌, ◌<◌, ℕ, List, [], Some, map, true}
use Rattle.std.specs.Prelude.{slice_get, slice_index_or}
use Rattle.post_rounds.specs.Events.{values}
use Rattle.life_laws.specs.Chains.{last_life}
use Rattle.slot_picks.specs.Lives.{chains_of}
use Rattle.slot_picks.specs.Places.{is_accepted}
use Rattle.slot_picks.proofs.posting.is_quiet.Given as goal

abbrev pub invariant-slots : goal.invariant-slots
invariant-slots l = (w : ℕ) (c : List ℕ) → w < l.w → slice_get (chains_of l.slots) w ≡ Some c → is_accepted l.places (last_life c) ≡ true → slice_index_or (map (λ x. values x.items) l.events) w [] ≡ []
