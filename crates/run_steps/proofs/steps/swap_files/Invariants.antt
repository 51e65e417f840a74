use Rattle.std.proofs.Common.{◌≡◌, take}
use Rattle.std.specs.List.{flat_map}
use Rattle.run_steps.specs.Page.{texts}
use Rattle.run_steps.proofs.Names.{swapped}
use Rattle.run_steps.proofs.steps.swap_files.Given as goal

abbrev pub invariant-items : goal.invariant-items
invariant-items l = texts l.names.items ≡ flat_map swapped (take l.item-index l.items)
