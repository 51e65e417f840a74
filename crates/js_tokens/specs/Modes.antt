-- The digits before leave room for those to come.
use Rattle.std.specs.Prelude.{ℕ, ◌<◌, nat_eq, if◌then◌else◌}
use Rattle.js_tokens.specs.declared.value.Mode.{Mode}
use Rattle.js_tokens.specs.declared.value.Mode.TheVariants as mode

-- the least value that is too large before this digit and `more` others
abbrev pub room : ℕ → ℕ
room more = if nat_eq more 0 then 4096 else (if nat_eq more 1 then 256 else (if nat_eq more 2 then 16 else (if nat_eq more 3 then 1 else 0)))

abbrev pub IsFit : Mode → Type 0
IsFit (mode.Digits more value) = value < room more
IsFit _ = Unit {0}
