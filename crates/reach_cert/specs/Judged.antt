-- What is known of lines that were judged, and of which no data were kept.
use Rattle.std.specs.Prelude.{◌≡◌, ℕ, ◌+◌, Bool, List, [], ◌∷◌, ◌++◌, map, length, Option, None}
use Rattle.reach_cert.specs.declared.cert.Ref.{Ref}
use Rattle.reach_cert.specs.Certs.{Row, Slot, Shown}
use Rattle.reach_cert.specs.Machine.{Between, Inside, goes, cell_text, Ahead, Later, Fewer}
use Rattle.reach_cert.specs.Needs.{all_needed, row_needed}
use Rattle.reach_cert.specs.Walks.{first_from}

-- of lines from a number on, to before another one, the first that leaks
pub record IsLeak (first after : ℕ) (leaks : List Bool) (leak : Option ℕ) : Type 0 where
  pub leak_is : leak ≡ first_from first leaks
  pub after_is : after ≡ first + length leaks

-- the lines of cells of a widget were read, with what each needs
pub record AreCells (name : List ℕ) (old new : Ahead) (needs : List ℕ) : Type 0 where
  pub rows : List Row
  pub needs_are : needs ≡ map (row_needed name) rows
  pub read : (slots : List Slot) → goes (Inside slots name []) old.lines ≡ goes (Inside slots name rows) new.lines
  pub place : new.number ≡ old.number + length needs
  pub later : Later old new

-- the line of what it holds
pub record IsHeld (name : List ℕ) (old new : Ahead) (need : ℕ) : Type 0 where
  pub held : List Ref
  pub need_is : need ≡ all_needed name held
  pub read : (slots : List Slot) (rows : List Row) → cell_text (length rows) old.lines ≡ None →
      goes (Inside slots name rows) old.lines ≡ goes (Between (slots ++ Shown name rows held ∷ [])) new.lines
  pub place : new.number ≡ old.number + 1
  pub fewer : Fewer old new
