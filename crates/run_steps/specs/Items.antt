-- The items of a trace, for a page with so many slots.
use Rattle.std.specs.Prelude.{◌≤◌, ◌<◌, ℕ, List, All, length}
use Rattle.trace_reader.specs.Items.{longest_advance, most_swaps}
use Rattle.trace_reader.specs.Said.{Said, an_event, an_advance, a_swap}
use Rattle.trace_reader.specs.Trace.{most_items}
use Rattle.run_steps.specs.Page.{files_swapped}

-- an item for a page with so many slots
abbrev pub IsFor : ℕ → Said → Type 0
IsFor slots (an_event to kind path value) = to < slots
IsFor slots (an_advance ms) = ms ≤ longest_advance
IsFor slots (a_swap to file) = to < slots

-- the items of a trace for them
pub record AreItems (slots : ℕ) (items : List Said) : Type 0 where
  pub few : length items ≤ most_items
  pub each : All (IsFor slots) items
  pub swaps : length (files_swapped items) ≤ most_swaps
