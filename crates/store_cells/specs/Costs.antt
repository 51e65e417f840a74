-- What calls cost, and when a widget cannot pay.
use Rattle.std.specs.Prelude.{◌≡◌, ℕ, ◌+◌, List, Option, None, Some, if◌then◌else◌, nat_lt, slice_get}
use Rattle.std.specs.Option.{option_map_or}
use Rattle.store_cells.specs.declared.counts.Counts.{Counts}
use Rattle.store_cells.specs.declared.counts.StoreFault.{StoreFault}
use Rattle.store_cells.specs.declared.counts.StoreFault.TheVariants as fault
use Rattle.store_cells.specs.declared.counts.TheConstants.{CELL_LIMIT, SLOT_LIMIT, UNIT_LIMIT}
use Rattle.store_cells.specs.Cells.{kept_cells}

-- Want of memory may come at any time, and each other fault exactly where the call's refusal says so.
abbrev pub Refuses : StoreFault → Option StoreFault → Type 0
Refuses fault.Memory r = Unit {0}
Refuses f r = r ≡ Some f

-- the slots that a widget has paid
abbrev pub kept_slots : List Counts → ℕ → ℕ
kept_slots kept w = option_map_or (λ k. k.slots) (slice_get kept w) 0

-- the text units that a widget has paid
abbrev pub kept_units : List Counts → ℕ → ℕ
kept_units kept w = option_map_or (λ k. k.units) (slice_get kept w) 0

-- counts after so many cells, slots and text units more were paid
abbrev pub paid : ℕ → ℕ → ℕ → Counts → Counts
paid c s u k = record { cells = k.cells + c; slots = k.slots + s; units = k.units + u }

-- whether a widget can pay: `Cells` before `Slots`, each exactly where the kept count plus the cost passes the limit
abbrev pub cost_refusal : List Counts → ℕ → ℕ → ℕ → Option StoreFault
cost_refusal kept w c s =
    if nat_lt CELL_LIMIT (kept_cells kept w + c) then Some (fault.Cells (kept_cells kept w))
    else (if nat_lt SLOT_LIMIT (kept_slots kept w + s) then Some (fault.Slots (kept_slots kept w)) else None)

-- whether a widget can pay a whole cost: the first of units, cells and slots that passes its limit
abbrev pub whole_refusal : List Counts → ℕ → Counts → Option StoreFault
whole_refusal kept w k =
    if nat_lt UNIT_LIMIT (kept_units kept w + k.units) then Some (fault.Units (kept_units kept w))
    else cost_refusal kept w k.cells k.slots

-- why `charge_units` is refused
abbrev pub units_refusal : List Counts → ℕ → ℕ → Option StoreFault
units_refusal kept w n =
    if nat_lt UNIT_LIMIT (kept_units kept w + n) then Some (fault.Units (kept_units kept w)) else None

-- why `charge_slots` is refused
abbrev pub slots_refusal : List Counts → ℕ → ℕ → Option StoreFault
slots_refusal kept w n =
    if nat_lt SLOT_LIMIT (kept_slots kept w + n) then Some (fault.Slots (kept_slots kept w)) else None
