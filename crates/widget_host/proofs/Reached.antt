-- The certificate of reach of a host.
use Rattle.std.proofs.Common.{List, [], ◌∷◌, arith, Option, Some, None}
use Rattle.life_laws.specs.Chains.{last_life}
use Rattle.slot_picks.specs.Lives.{chains_of}
use Rattle.slot_picks.specs.declared.slots.Slot.{Slot}
use Rattle.slot_reach.specs.Lasts.{AreFew, AreLast, IsLast}
use Rattle.widget_meaning.specs.OwnState.{OwnState}
use Rattle.widget_host.specs.declared.host.Host.{Host}
use Rattle.widget_host.specs.Housed.{AreShown, IsShown, IsWhole, accepts, seens}
use Rattle.widget_host.specs.Reached.{lasts}

-- what a life shows is what a certificate takes of it
shown_is : (h : Host) (s : Slot) (end : Option OwnState) → IsShown h (last_life s.lives.items) end → IsLast h.lives s end
unfolding accepts seens
shown_is h s None is = is
shown_is h s (Some own) is = is

pub shown_are : (h : Host) (ss : List Slot) (ends : List (Option OwnState)) → AreShown h (lasts (chains_of ss)) ends → AreLast h.lives ss ends
shown_are h [] [] are = tt
shown_are h [] (end ∷ ends) are = absurd are
shown_are h (s ∷ ss) [] are = absurd are
shown_are h (s ∷ ss) (end ∷ ends) are = (shown_is h s end are.0, shown_are h ss ends are.1)

-- it has few slots, and places for few lives
pub few_slots : (h : Host) → IsWhole h → AreFew h.lives h.slots.items
few_slots h whole = (omega (arith, whole.slots.lives.places), omega (arith, whole.slots.slots))
