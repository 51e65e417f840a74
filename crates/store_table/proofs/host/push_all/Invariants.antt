use Rattle.std.proofs.Common.{◌≡◌, ◌++◌, map, take}
use Rattle.store_table.specs.Bare.{host_numbered}
use Rattle.store_table.proofs.host.push_all.Given as goal

abbrev pub invariant-loop-form : goal.invariant-loop-form
invariant-loop-form l = l.cells.items ≡ l.initial.cells.items ++ map (host_numbered l.up l.links) (take l.form-index l.forms)
