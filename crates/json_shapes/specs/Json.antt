-- The value of a JSON text, and its version.
use Rattle.std.specs.Prelude.{◌≡◌, ⊤, ℕ, Bool, IsUtf8, List, codes, Some, unwrap_or, nat_eq, ◌||◌, if◌then◌else◌}
use Rattle.serde_json.specs.Data.{Data}
use Rattle.serde_json.specs.Read.{read}
use Rattle.json_shapes.specs.Look.{number_at}
use Rattle.json_shapes.specs.declared.fault.ShapeFault.{ShapeFault}
use Rattle.json_shapes.specs.declared.fault.ShapeFault.TheVariants.{NotJson, BadShape, TooMany, Memory}

-- the bytes are this JSON value, as `serde_json` reads them
pub record IsJson (bytes : List ℕ) (d : Data) : Type 0 where
  pub utf8 : IsUtf8 bytes
  pub value : read bytes ≡ Some d

-- why bytes are no JSON
abbrev pub IsJsonFault : List ℕ → ShapeFault → Type 0
IsJsonFault bytes NotJson = (d : Data) → ¬ IsJson bytes d
IsJsonFault bytes (BadShape item) = ⊥
IsJsonFault bytes (TooMany items) = ⊥
IsJsonFault bytes Memory = ⊤

-- the number under `version`, 0 where there is none
abbrev pub version_of : Data → ℕ
version_of d = unwrap_or (number_at (codes "version") d) 0

-- it is 1 or 2
abbrev pub has_version : Data → Bool
has_version d = nat_eq (version_of d) 1 || nat_eq (version_of d) 2

-- the version by which entries are judged: 1 where it is neither
abbrev pub judged_version : Data → ℕ
judged_version d = if nat_eq (version_of d) 2 then 2 else 1
