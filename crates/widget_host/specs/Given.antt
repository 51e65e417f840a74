-- What the lives of slots were given: the first ones of a page, with an item more, with a swap more, and in the end.
use Rattle.std.specs.Prelude.{◌≡◌, ◌<◌, ◌+◌, ◌++◌, ℕ, false, if◌then◌else◌, List, [], ◌∷◌, map, nat_eq, Option}
use Rattle.std.specs.Option.{option_map}
use Rattle.adsafe_rules.specs.declared.accepted.Accepted.{Accepted}
use Rattle.page_plan.specs.declared.SlotSpec.{SlotSpec}
use Rattle.page_plan.specs.Contents.{content_of}
use Rattle.life_laws.specs.Fed.{Fed}
use Rattle.life_laws.specs.Chains.{listed}
use Rattle.slot_picks.specs.Feeding.{IsLastFed, is_last}
use Rattle.slot_picks.specs.QueueLives.{event_of}
use Rattle.widget_meaning.specs.Alone.{Content}
use Rattle.widget_meaning.specs.Items.{Item, Occurs, Advance}
use Rattle.widget_meaning.specs.OwnState.{OwnState}
use Rattle.widget_host.specs.declared.host.Host.{Host}
use Rattle.widget_host.specs.declared.items.HostItem.{HostItem}
use Rattle.widget_host.specs.declared.items.HostItem.TheVariants as host
use Rattle.widget_host.specs.Housed.{IsShown, accepts, chains, newborn, seens, told}

-- ## Last lives

-- a life of this widget begins, with so much fuel a turn: it was given nothing yet. One whose file was refused never is
abbrev pub begins : ℕ → Option Content → Option Fed
begins fuel content = option_map (λ (c : Content). record { content = c; grant = fuel; items = []; told = 0 }) content

-- the first life of each of these slots
abbrev pub begun : List Accepted → List SlotSpec → List (Option Fed)
begun libs slots = map (λ (s : SlotSpec). begins s.fuel (content_of libs s.content)) slots

-- what an item gives to the slot with a number: an event to one of them, an advance to each
abbrev pub gives_to : HostItem → ℕ → List Item
gives_to (host.Event to e) w = if nat_eq to w then Occurs (event_of e) ∷ [] else []
gives_to (host.Advance ms) w = Advance ms ∷ []

-- a life that was given these more
abbrev pub with_items : List Item → Fed → Fed
with_items items f = record f { items = f.items ++ items }

-- the last lives of slots from a number on, with an item more
abbrev pub with_item : HostItem → ℕ → List (Option Fed) → List (Option Fed)
with_item i w [] = []
with_item i w (f ∷ fs) = option_map (with_items (gives_to i w)) f ∷ with_item i (w + 1) fs

-- with a swap more: from then on the last life of its slot is this
abbrev pub with_swap : ℕ → Option Fed → ℕ → List (Option Fed) → List (Option Fed)
with_swap to life w [] = []
with_swap to life w (f ∷ fs) = (if nat_eq to w then life else f) ∷ with_swap to life (w + 1) fs

-- ## Lives that swaps end

-- A life that a swap ends was given this, and is the last one of no slot; so nothing more is given to it.
pub record IsEnded (h : Host) (v : ℕ) (f : Option Fed) : Type 0 where
  pub born : v < newborn h
  pub out : is_last v (chains h) ≡ false
  pub fed : IsLastFed (accepts h) (seens h) (told h) v f

-- so it is of each of these lives
abbrev pub AreEnded : Host → List ℕ → List (Option Fed) → Type 0
AreEnded h [] [] = Unit {0}
AreEnded h (v ∷ vs) (f ∷ fs) = IsEnded h v f × AreEnded h vs fs
AreEnded h _ _ = ⊥

-- A life has ended: it is in no slot any more, and shows this own state, or none where its file was refused.
pub record IsRetired (h : Host) (v : ℕ) (own : Option OwnState) : Type 0 where
  pub out : listed v (chains h) ≡ false
  pub shown : IsShown h v own

-- so it is of each of these lives
abbrev pub AreRetired : Host → List ℕ → List (Option OwnState) → Type 0
AreRetired h [] [] = Unit {0}
AreRetired h (v ∷ vs) (own ∷ owns) = IsRetired h v own × AreRetired h vs owns
AreRetired h _ _ = ⊥
