-- How many cells a line needs its widget to have, which tells whether it leaks before they are counted.
use Rattle.std.specs.Prelude.{ℕ, suc, ◌+◌, ◌^◌, max, List, [], ◌∷◌, if◌then◌else◌}
use Rattle.std.specs.Str.{bytes_eq}
use Rattle.reach_cert.specs.declared.cert.Ref.{Ref}
use Rattle.reach_cert.specs.declared.cert.Ref.TheVariants.{Host, Raw, Global, Cell}
use Rattle.reach_cert.specs.Certs.{Row}

-- so many cells that the reference does not leave the widget of this name; more than any has, where no number is enough
abbrev pub needed : List ℕ → Ref → ℕ
needed name Host = 0
needed name Raw = 2 ^ 32 + 1
needed name Global = 2 ^ 32 + 1
needed name (Cell other number) = if bytes_eq other name then suc number else 2 ^ 32 + 1

-- so many that none of the references does
abbrev pub all_needed : List ℕ → List Ref → ℕ
all_needed name [] = 0
all_needed name (ref ∷ refs) = max (needed name ref) (all_needed name refs)

-- so many that none of a line's references does
abbrev pub row_needed : List ℕ → Row → ℕ
row_needed name row = all_needed name row.refs
