-- The two versions of a manifest.
use Rattle.std.specs.Prelude.{ℕ, codes}
use Rattle.serde_json.specs.Data.{Data, null, boolean, number, string, array, object, unsigned, put}

-- the same object with another version
abbrev pub with_version : ℕ → Data → Data
with_version version null = null
with_version version (boolean b) = boolean b
with_version version (number n) = number n
with_version version (string s) = string s
with_version version (array ds) = array ds
with_version version (object ms) = object (put (codes "version") (number (unsigned version)) ms)
