-- The lives of a slot: the present one first, then those whose swap waits.
use Rattle.std.specs.Prelude.{◌≡◌, ℕ, ◌+◌, ◌<◌, ◌≤◌, Bool, true, false, nat_eq, if◌then◌else◌, List, [], ◌∷◌, ◌++◌, map, length, slice_get, Option, Some, None}
use Rattle.life_laws.specs.Life.{Seen, Turn, due, ready, first, or_else, IsIdle}
use Rattle.life_laws.specs.declared.entry.Picked.{Picked}
use Rattle.life_laws.specs.declared.entry.Picked.TheVariants as picked
use Rattle.life_laws.specs.declared.entry.PickEntry.{PickEntry}
use Rattle.life_laws.specs.Picks.{Picks}
use Rattle.life_laws.specs.Journal.{weights, journal_after, entry_of, AllJoined}

-- whether a number stands in a list
abbrev pub has : ℕ → List ℕ → Bool
has v [] = false
has v (x ∷ xs) = if nat_eq x v then true else has v xs

-- each number of a list
abbrev pub Each : (ℕ → Type 0) → List ℕ → Type 0
Each P [] = Unit {0}
Each P (x ∷ xs) = P x × Each P xs

-- later ones are greater: each later life of a slot was born later
abbrev pub Rising : List ℕ → Type 0
Rising [] = Unit {0}
Rising (x ∷ xs) = Each (λ y. x < y) xs × Rising xs

-- The first lives of a slot have ended.
pub record IsTail (old new : List ℕ) : Type 0 where
  pub ended : List ℕ
  pub are : old ≡ ended ++ new

-- whether a life that may be there is ready
abbrev pub ready_of : Option Seen → Bool
ready_of None = false
ready_of (Some s) = ready s

-- a slot is ready where its present life is, or a swap waits
abbrev pub slot_ready : List Seen → List ℕ → Bool
slot_ready ss [] = false
slot_ready ss (v ∷ []) = ready_of (slice_get ss v)
slot_ready ss (v ∷ u ∷ us) = true

-- the turn that it begins, if there is one
abbrev pub first_in : Option Seen → Option Turn
first_in None = None
first_in (Some s) = first s

-- the first turn that the slot's lives begin, the present one first
abbrev pub first_along : List Seen → List ℕ → Option Turn
first_along ss [] = None
first_along ss (v ∷ vs) = or_else (first_in (slice_get ss v)) (first_along ss vs)

-- A life that has done all, and began nothing.
pub record IdleAt (old new : List Seen) (v : ℕ) : Type 0 where
  pub was : Seen
  pub is : Seen
  pub at : slice_get old v ≡ Some was
  pub now : slice_get new v ≡ Some is
  pub idle : IsIdle was is

-- These lives of a slot were ended, one after the other: each began nothing, and no other life changes.
pub record Passed (lives : List ℕ) (old new : List Seen) (js : List PickEntry) (left : List ℕ) : Type 0 where
  pub ended : List ℕ
  pub are : lives ≡ ended ++ left
  pub passed : Each (IdleAt old new) ended
  pub others : (v : ℕ) → has v ended ≡ false → slice_get new v ≡ slice_get old v
  pub dues : map due new ≡ map due old
  pub lighter : weights new ≤ weights old
  pub joined : AllJoined js old → AllJoined js new

-- A pick of a slot: the lives before one were ended, that one was picked, and those behind it wait still. No other life changes.
pub record PickedSlot (k : ℕ) (r : Picked) (lives : List ℕ) (old new : List Seen) (js ks : List PickEntry) (left : List ℕ) : Type 0 where
  pub ended : List ℕ
  pub life : ℕ
  pub waiting : List ℕ
  pub are : lives ≡ ended ++ life ∷ waiting
  pub left_is : left ≡ life ∷ waiting
  pub passed : Each (IdleAt old new) ended
  pub was : Seen
  pub is : Seen
  pub at : slice_get old life ≡ Some was
  pub now : slice_get new life ≡ Some is
  pub picks : Picks k r was is
  pub last : r ≡ picked.Idle → waiting ≡ []
  pub others : (v : ℕ) → has v (ended ++ life ∷ []) ≡ false → slice_get new v ≡ slice_get old v
  pub dues : map due new ≡ map due old
  pub journal : ks ≡ journal_after r (entry_of life k was is) js
  pub joined : AllJoined js old → AllJoined ks new
  pub lighter : slot_ready old lives ≡ true → weights new + length left < weights old + length lives
