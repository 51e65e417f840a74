-- Works that are put into the queues of lives.
use Rattle.std.specs.Prelude.{◌≡◌, ℕ, ◌+◌, ◌++◌, ◌&&◌, Bool, true, false, List, [], ◌∷◌}
use Rattle.slot_picks.specs.life.Work.{Work}
use Rattle.slot_picks.specs.life.Work.TheVariants as work
use Rattle.slot_picks.specs.declared.lives.Place.{Place}
use Rattle.widget_host.specs.declared.items.HostItem.{HostItem}
use Rattle.widget_host.specs.declared.items.HostItem.TheVariants as host

-- an item as it stands in a queue
abbrev pub work_of : HostItem → Work
work_of (host.Event to e) = work.Event e
work_of (host.Advance ms) = work.Advance ms

-- a life is as it was but for its queue
abbrev pub IsSame : Place → Place → Type 0
IsSame old new = new ≡ record old { life = record old.life { queue = new.life.queue } }

-- A life has this work more, behind all others in its queue.
pub record HasMore (x : Work) (old new : Place) : Type 0 where
  pub queue : new.life.queue.items ≡ old.life.queue.items ++ x ∷ []
  pub same : IsSame old new

-- so it is of one that is to have it, and another is as it was
abbrev pub IsFed : Bool → Work → Place → Place → Type 0
IsFed true x old new = HasMore x old new
IsFed false x old new = new ≡ old

-- of the lives from a number on those that are accepted and that this chooses have it
abbrev pub AreFed : (ℕ → Bool) → Work → ℕ → List Place → List Place → Type 0
AreFed chosen x v [] [] = Unit {0}
AreFed chosen x v (l ∷ ls) (m ∷ ms) = IsFed (l.life.accepted && chosen v) x l m × AreFed chosen x (v + 1) ls ms
AreFed chosen x v _ _ = ⊥

-- lives are as they were but for their queues
abbrev pub AreSame : List Place → List Place → Type 0
AreSame [] [] = Unit {0}
AreSame (l ∷ ls) (m ∷ ms) = IsSame l m × AreSame ls ms
AreSame _ _ = ⊥
