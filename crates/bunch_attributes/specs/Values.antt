-- Arguments that may be absent.
use Rattle.std.specs.Prelude.{Bool, true, false}
use Rattle.store_cells.specs.declared.value.Value.{Value}
use Rattle.store_cells.specs.declared.value.Value.TheVariants as value

-- whether a value is `undefined`
abbrev pub is_undefined : Value → Bool
is_undefined value.Undefined = true
is_undefined v = false
