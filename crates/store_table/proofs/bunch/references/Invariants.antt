use Rattle.std.proofs.Common.{◌≡◌, map, take}
use Rattle.std.specs.Prelude.{nat_eq, unwrap_or}
use Rattle.std.specs.Map.{lookup}
use Rattle.store_cells.specs.declared.value.Value.TheVariants as value
use Rattle.store_table.proofs.bunch.references.Given as goal

abbrev pub invariant-loop-node : goal.invariant-loop-node
invariant-loop-node l = l.refs.items ≡ map value.Ref (map (λ n. unwrap_or (lookup (nat_eq n) l.raws.entries) 0) (take l.node-index l.nodes))
