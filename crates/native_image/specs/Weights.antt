-- What a widget has paid, as the meaning has it.
use Rattle.widget_meaning.specs.OwnState.{Amounts}
use Rattle.native_image.specs.declared.weighing.Due.{Due}

-- units, cells, slots and nodes
abbrev pub amounts : Due → Amounts
amounts d = record { units = d.units; cells = d.cells; slots = d.slots; nodes = d.nodes }
