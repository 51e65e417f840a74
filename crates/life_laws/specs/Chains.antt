-- The lives of all slots, and what is given to them.
use Rattle.std.specs.Prelude.{◌≡◌, ℕ, zero, suc, ◌+◌, ◌<◌, ◌≤◌, Bool, true, false, if◌then◌else◌, List, [], ◌∷◌, ◌++◌, map, length, slice_get, slice_set, Some}
use Rattle.widget_meaning.specs.OwnState.{OwnState}
use Rattle.widget_meaning.specs.Items as items
use Rattle.widget_meaning.specs.Items.{Event, item}
use Rattle.life_laws.specs.Life as todo
use Rattle.life_laws.specs.Life.{Seen, due, image, ready}
use Rattle.life_laws.specs.declared.entry.PickEntry.{PickEntry}
use Rattle.life_laws.specs.declared.entry.Picked.{Picked}
use Rattle.life_laws.specs.Journal.{queued, on_at}
use Rattle.life_laws.specs.Slots.{has, Each, Rising, PickedSlot}

-- The lives of a slot: there are some, in the order of birth, and they are born and of no other slot.
pub record IsChain (homes : List ℕ) (born w : ℕ) (vs : List ℕ) : Type 0 where
  pub some : 0 < length vs
  pub rising : Rising vs
  pub below : Each (λ v. v < born) vs
  pub home : Each (λ v. slice_get homes v ≡ Some w) vs

-- the lives of all slots
abbrev pub Chains : List ℕ → ℕ → ℕ → List (List ℕ) → Type 0
Chains homes born w [] = Unit {0}
Chains homes born w (c ∷ cs) = IsChain homes born w c × Chains homes born (w + 1) cs

-- the life is present somewhere, or its swap waits
abbrev pub listed : ℕ → List (List ℕ) → Bool
listed v [] = false
listed v (c ∷ cs) = if has v c then true else listed v cs

-- the last of a number and those behind it
abbrev pub last_from : ℕ → List ℕ → ℕ
last_from v [] = v
last_from v (x ∷ xs) = last_from x xs

-- the last life of a slot
abbrev pub last_life : List ℕ → ℕ
last_life [] = 0
last_life (v ∷ vs) = last_from v vs

-- the lives that are in no slot have done all
abbrev pub Rest : List (List ℕ) → List Seen → Type 0
Rest cs ss = (v : ℕ) (s : Seen) → listed v cs ≡ false → slice_get ss v ≡ Some s → ready s ≡ false

-- a life that is not born yet has spent nothing
abbrev pub Unspent : ℕ → List Seen → Type 0
Unspent born ss = (v : ℕ) (s : Seen) → born ≤ v → slice_get ss v ≡ Some s → (image s).spent ≡ 0

-- A pick of one of the slots.
pub record PickedIn (w k : ℕ) (r : Picked) (cs ds : List (List ℕ)) (old new : List Seen) (js ks : List PickEntry) : Type 0 where
  pub lives : List ℕ
  pub left : List ℕ
  pub at : slice_get cs w ≡ Some lives
  pub set : ds ≡ slice_set cs w left
  pub slot : PickedSlot k r lives old new js ks left

-- ## Giving

-- a work is queued for the last life of each of these slots
abbrev pub queued_along : List (List ℕ) → todo.Work → List Seen → List Seen
queued_along [] x ss = ss
queued_along (c ∷ cs) x ss = queued_along cs x (on_at (last_life c) (queued x) ss)

-- and what that does to what each life has still to come
abbrev pub along : List (List ℕ) → todo.Work → List OwnState → List OwnState
along [] x os = os
along (c ∷ cs) x os = along cs x (on_at (last_life c) (λ o. todo.work o x) os)

-- the last life of the slot with a number
abbrev pub last_at : ℕ → List (List ℕ) → ℕ
last_at w [] = 0
last_at zero (c ∷ cs) = last_life c
last_at (suc w) (c ∷ cs) = last_at w cs

-- what is given: an event to a slot, or an advance to all
pub data GivenTo : Type 0 where
  To : ℕ → Event → GivenTo
  ToAll : ℕ → GivenTo

-- what it does to what each life has still to come
abbrev pub after_given : List (List ℕ) → GivenTo → List OwnState → List OwnState
after_given cs (To w e) os = on_at (last_at w cs) (λ o. item o (items.Occurs e)) os
after_given cs (ToAll d) os = along cs (todo.Given (items.Advance d)) os

-- What a giving does: no image changes, and what is to come is that with the item.
pub record Gives (cs : List (List ℕ)) (i : GivenTo) (old new : List Seen) : Type 0 where
  pub dues : map due new ≡ after_given cs i (map due old)
  pub images : map image new ≡ map image old
  pub rest : Rest cs old → Rest cs new

-- one life more in a slot
abbrev pub joins : ℕ → List ℕ → List ℕ
joins v vs = vs ++ v ∷ []
