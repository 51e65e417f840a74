-- The slots of a page with what they run on.
use Rattle.std.specs.Prelude.{ℕ, ◌+◌, List, [], ◌∷◌, Option, option_map, filter_map, slice_get}
use Rattle.std.specs.List.{flat_map}
use Rattle.plain_tree.specs.Trees.{unmarked}
use Rattle.manifest_reader.specs.Page.{Part, Markup, Widget}
use Rattle.slot_check.specs.Sources.{Source, Slot}
use Rattle.page_plan.specs.Pages.{PagePiece, Trees, Place}

-- a slot with its files, and the fuel of each of its turns
pub record SlotRun : Type 0 where
  pub slot : Slot
  pub fuel : ℕ

-- the name and the fuel of a part that is a slot
abbrev pub named : Part → List (List ℕ × ℕ)
named (Markup trees) = []
named (Widget name file fuel) = (name, fuel) ∷ []

-- of the slots of a page, in order
abbrev pub slots_named : List Part → List (List ℕ × ℕ)
slots_named parts = flat_map named parts

-- slots of these names and this fuel with these files, over the same libraries
abbrev pub runs_over : List Source → List (List ℕ × ℕ) → List Source → List SlotRun
runs_over libs (n ∷ ns) (file ∷ files) =
    record { slot = record { name = n.0; file = file; libs = libs }; fuel = n.1 } ∷ runs_over libs ns files
runs_over libs _ _ = []

-- a slot with another file
abbrev pub with_file : SlotRun → Source → SlotRun
with_file run file =
    record { slot = record { name = run.slot.name; file = file; libs = run.slot.libs }; fuel = run.fuel }

-- the run of a swap, which has the number of its slot and its file: that slot with this file
abbrev pub swap_run : List SlotRun → ℕ × Source → Option SlotRun
swap_run runs swap = option_map (λ run. with_file run swap.1) (slice_get runs swap.0)

-- the runs of swaps, in order
abbrev pub swap_runs : List SlotRun → List (ℕ × Source) → List SlotRun
swap_runs runs swaps = filter_map (swap_run runs) swaps

-- the pieces of a page, its slots numbered from n on
abbrev pub pieces_from : ℕ → List Part → List PagePiece
pieces_from n [] = []
pieces_from n (Markup trees ∷ parts) = Trees (unmarked trees) ∷ pieces_from n parts
pieces_from n (Widget name file fuel ∷ parts) = Place n ∷ pieces_from (n + 1) parts

-- the pieces of a page
abbrev pub pieces : List Part → List PagePiece
pieces parts = pieces_from 0 parts
