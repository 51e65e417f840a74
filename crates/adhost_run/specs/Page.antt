-- The slots of a manifest as they run.
use Rattle.std.specs.Prelude.{ℕ, List, length, take, drop}
use Rattle.manifest_reader.specs.declared.entry.Manifest.{Manifest}
use Rattle.slot_check.specs.Sources.{Source}
use Rattle.page_check.specs.Runs.{SlotRun, slots_named, runs_over}
use Rattle.run_steps.specs.Page.{parts}

-- the slots of these names and this fuel with their files, which come first, and the libraries behind them
abbrev pub runs_with : List (List ℕ × ℕ) → List Source → List SlotRun
runs_with names sources = runs_over (drop (length names) sources) names (take (length names) sources)

-- the slots of a manifest with their fuel and the files that it names
abbrev pub runs_of : Manifest → List Source → List SlotRun
runs_of manifest sources = runs_with (slots_named (parts manifest)) sources
