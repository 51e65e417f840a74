use Rattle.std.proofs.Common.{◌≡◌, ◌++◌, take}
use Rattle.run_steps.specs.Page.{texts}
use Rattle.run_steps.proofs.steps.push_names.Given as goal

abbrev pub invariant-more : goal.invariant-more
invariant-more l = texts l.names.items ≡ texts l.fn.names.items ++ texts (take l.name-index l.more)
