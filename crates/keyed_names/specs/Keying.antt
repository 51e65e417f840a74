-- The keys of a table's hashers, from everything that was read.
use Rattle.std.specs.Prelude.{◌≡◌, ℕ, ◌<◌, ◌^◌, List, ◌++◌, length}
use Rattle.std.specs.List.{flat_map}
use Rattle.std.specs.Hash as fed
use Rattle.std.specs.Hash.DefaultHasher as sip
use Rattle.sha2.specs.Sha256.{sha256}
use Rattle.keyed_names.specs.declared.keys.Keys.{Keys}

-- a file with its length before it
abbrev pub framed : List ℕ → List ℕ
framed file = fed.le_bytes 8 (length file) ++ file

-- the message of a list of files; no other list has it (`one_message`)
abbrev pub message : List (List ℕ) → List ℕ
message files = flat_map framed files

-- a file of a machine
abbrev pub IsShort : List ℕ → Type 0
IsShort file = length file < 2 ^ 64

-- the digest of a list of files
unfoldable pub digest_of : List (List ℕ) → List ℕ
digest_of files = sha256 (message files)

-- the hashers were fed with the digest of the files first
abbrev pub AreKeysOf : List (List ℕ) → Keys → Type 0
AreKeysOf files keys = keys.fed ≡ sip.write sip.initial (digest_of files)
