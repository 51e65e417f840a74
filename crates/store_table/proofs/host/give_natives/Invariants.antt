use Rattle.std.proofs.Common.{◌≡◌, ◌+◌, take, map}
use Rattle.std.specs.List.{fold}
use Rattle.store_cells.specs.declared.value.Value.TheVariants as value
use Rattle.store_cells.specs.Numbered.{cells_of, heads}
use Rattle.store_cells.specs.Shape.{IsBase}
use Rattle.store_table.specs.Bare.{given, home_place}
use Rattle.store_cells.specs.Host.{first_native}
use Rattle.permitted_table.specs.Natives.{number_of}
use Rattle.store_table.proofs.host.give_natives.Given as goal

abbrev pub invariant-loop-home : goal.invariant-loop-home
invariant-loop-home l =
    (cells_of l.names l.cells.items ≡ fold given (cells_of l.initial.names l.initial.cells.items) (map (λ r. (home_place r.0, r.1.now, value.Ref (first_native + number_of r.2))) (take l.home-index l.rows)))
    × IsBase l.names l.cells.items
    × (heads l.cells.items ≡ heads l.initial.cells.items)
