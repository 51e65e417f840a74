use Rattle.std.proofs.Common.{◌≡◌, take}
use Rattle.run_steps.specs.Page.{texts, slot_files}
use Rattle.run_steps.proofs.steps.slot_files.Given as goal

abbrev pub invariant-entries : goal.invariant-entries
invariant-entries l = texts l.names.items ≡ slot_files (take l.entry-index l.entries)
