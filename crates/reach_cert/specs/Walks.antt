-- What a certificate shows: where the walks over it lead, and when it is confined.
use Rattle.std.specs.Prelude.{◌≡◌, ℕ, suc, ◌<◌, Bool, true, false, ◌&&◌, not, List, [], ◌∷◌, ◌++◌, map, length, nat_lt, Option, Some, None, slice_get, if◌then◌else◌}
use Rattle.std.specs.List.{AllByRecursion, Contains, flat_map, list_any}
use Rattle.std.specs.Str.{bytes_eq}
use Rattle.reach_cert.specs.declared.cert.Ref.{Ref}
use Rattle.reach_cert.specs.declared.cert.Ref.TheVariants.{Host, Raw, Global, Cell}
use Rattle.reach_cert.specs.Certs.{Row, Slot, Refused, Shown}

-- ## Walks

-- the certificate has a widget of this name with these cells, which holds these references
abbrev pub HasWidget : List Slot → List ℕ → List Row → List Ref → Type 0
HasWidget slots name rows held = Contains slots (Shown name rows held)

-- `Leads slots name ref`: a walk from the `held` line of the widget `name` meets the reference
pub data Leads (slots : List Slot) : List ℕ → Ref → Type 0 where
  -- it begins at a reference of that line
  begins : {name : List ℕ} {rows : List Row} {held : List Ref} {ref : Ref} →
      HasWidget slots name rows held → Contains held ref → Leads slots name ref
  -- and goes on from `X:I` to a reference of line `I` of the widget `X`
  goes_on : {name other : List ℕ} {number : ℕ} {rows : List Row} {held : List Ref} {row : Row} {ref : Ref} →
      Leads slots name (Cell other number) →
      HasWidget slots other rows held → slice_get rows number ≡ Some row → Contains row.refs ref → Leads slots name ref

-- the widget has a cell of this number
pub record HasCell (slots : List Slot) (name : List ℕ) (number : ℕ) : Type 0 where
  pub rows : List Row
  pub held : List Ref
  pub there : HasWidget slots name rows held
  pub within : number < length rows

-- the reference leads to `host`, or to a cell of the widget itself
abbrev pub IsOwn : List Slot → List ℕ → Ref → Type 0
IsOwn slots name Host = Unit {0}
IsOwn slots name Raw = ⊥
IsOwn slots name Global = ⊥
IsOwn slots name (Cell other number) = (other ≡ name) × HasCell slots name number

-- ## Confinement

-- neither `host` nor one of the `count` cells of the widget
abbrev pub leaves : List ℕ → ℕ → Ref → Bool
leaves name count Host = false
leaves name count Raw = true
leaves name count Global = true
leaves name count (Cell other number) = not (bytes_eq other name && nat_lt number count)

abbrev pub some_leaves : List ℕ → ℕ → List Ref → Bool
some_leaves name count refs = list_any (leaves name count) refs

-- of each line of a slot, whether it has a reference that leaves the widget
abbrev pub slot_leaks : Slot → List Bool
slot_leaks (Refused name) = false ∷ []
slot_leaks (Shown name rows held) =
    false ∷ (map (λ row. some_leaves name (length rows) row.refs) rows ++ some_leaves name (length rows) held ∷ [])

-- of each line of a certificate
abbrev pub leaks : List Slot → List Bool
leaks slots = false ∷ (flat_map slot_leaks slots ++ false ∷ [])

-- the first line with one, counted from a number
abbrev pub first_from : ℕ → List Bool → Option ℕ
first_from n [] = None
first_from n (leak ∷ more) = if leak then Some n else first_from (suc n) more

-- the first line of a certificate with one, counted from 1
unfoldable pub first_leak : List Slot → Option ℕ
first_leak slots = first_from 1 (leaks slots)

-- no line has one
abbrev pub IsConfined : List Slot → Type 0
IsConfined slots = first_leak slots ≡ None

-- no line of the slot has one
abbrev pub KeepsIn : Slot → Type 0
KeepsIn (Refused name) = Unit {0}
KeepsIn (Shown name rows held) =
    AllByRecursion (λ row. some_leaves name (length rows) row.refs ≡ false) rows × (some_leaves name (length rows) held ≡ false)
