use Rattle.std.proofs.Common.{◌≡◌, ◌++◌, map, take, Some}
use Rattle.store_cells.specs.declared.kind.Form.TheVariants as form
use Rattle.store_table.specs.Bare.{host_numbered}
use Rattle.store_table.proofs.host.push_natives.Given as goal

abbrev pub invariant-loop-home : goal.invariant-loop-home
invariant-loop-home l = l.cells.items ≡ l.initial.cells.items ++ map (λ r. host_numbered (Some 4) 2 (form.Native r.2)) (take l._home-index l.rows)
