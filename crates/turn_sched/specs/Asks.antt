-- What a chooser is asked, and what it answers.
use Rattle.std.specs.Prelude.{◌≡◌, ◌<◌, ℕ, Bool, false, List, [], ◌∷◌, ◌++◌, nat_eq, Some, slice_get, unwrap_or}
use Rattle.std.specs.List.{list_any}
use Rattle.code_units.specs.declared.owner.TheConstants.{WIDGETS}
use Rattle.turn_sched.specs.declared.chooser.Ask.{Ask}

-- this number was ready at the ask
abbrev pub is_ready : Ask → ℕ → Bool
is_ready ask w = unwrap_or (slice_get ask.ready w) false

-- the ask of a list of ready numbers, of which the one at this index was taken
pub record IsAsk (ready : List ℕ) (at : ℕ) (ask : Ask) : Type 0 where
  pub flags : (w : ℕ) → w < WIDGETS → is_ready ask w ≡ list_any (nat_eq w) ready
  pub taken : slice_get ready at ≡ Some ask.taken

-- one ask more was kept
pub record KeepsAsk (ready : List ℕ) (at : ℕ) (old new : List Ask) : Type 0 where
  pub ask : Ask
  pub asked : IsAsk ready at ask
  pub kept : new ≡ old ++ ask ∷ []
