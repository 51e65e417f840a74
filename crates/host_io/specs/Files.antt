-- What the clauses of files cite. A name is the bytes of its text.
use Rattle.std.specs.Prelude.{◌≡◌, ℕ, ◌^◌, ◌-◌, ◌<◌, List, take, Option, Some, None, IsSome}

-- the bytes of the files, by name
abbrev pub FileMap : Type 0
FileMap = List ℕ → Option (List ℕ)

-- the first n bytes of a file, or all where it has fewer; there is such a file
abbrev pub IsStart : Option (List ℕ) → ℕ → List ℕ → Type 0
IsStart None n bytes = ⊥
IsStart (Some file) n bytes = bytes ≡ take n file

-- the files are told, and this name is among them
abbrev pub IsThere : Option FileMap → List ℕ → Type 0
IsThere None name = ⊥
IsThere (Some files) name = IsSome (files name)

-- a count of faults rose; one at its last value stays there
abbrev pub Rose : ℕ → ℕ → Type 0
Rose before now = before < 2 ^ 64 - 1 → before < now
