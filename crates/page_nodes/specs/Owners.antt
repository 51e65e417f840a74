-- Owners, and the root of each.
use Rattle.std.specs.Prelude.{ℕ, List, Option, None, Bool, true, false, nat_lt, ◌==◌, slice_index_or}
use Rattle.code_units.specs.declared.owner.Owner.{Owner}
use Rattle.code_units.specs.declared.owner.Owner.TheVariants as owner

-- a widget's number is below 32
abbrev pub is_owner : Owner → Bool
is_owner owner.Host = true
is_owner (owner.Widget w) = nat_lt w 32

-- whether two owners are one
abbrev pub same_owner : Owner → Owner → Bool
same_owner owner.Host owner.Host = true
same_owner owner.Host (owner.Widget w) = false
same_owner (owner.Widget v) owner.Host = false
same_owner (owner.Widget v) (owner.Widget w) = v == w

-- the place of an owner in a table: the widgets by their numbers, and then the host
abbrev pub slot : Owner → ℕ
slot owner.Host = 32
slot (owner.Widget w) = w

-- the root of an owner in a table of roots
abbrev pub root_in : List (Option ℕ) → Owner → Option ℕ
root_in roots o = slice_index_or roots (slot o) None
