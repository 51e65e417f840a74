use Rattle.std.proofs.Common.{◌≡◌, take}
use Rattle.run_steps.specs.Page.{slot_names}
use Rattle.run_steps.proofs.steps.slot_names.Given as goal

abbrev pub invariant-entries : goal.invariant-entries
invariant-entries l = l.names.items ≡ slot_names (take l.entry-index l.entries)
