-- The keys of an object.
use Rattle.std.specs.Prelude.{ℕ, List, Bool, true, false, ◌&&◌}
use Rattle.std.specs.List.{list_any}
use Rattle.std.specs.Str.{bytes_eq}
use Rattle.serde_json.specs.Data.{Data, null, boolean, number, string, array, object, Members, no_members, member}

-- a key is one of these
abbrev pub is_key : List (List ℕ) → List ℕ → Bool
is_key keys key = list_any (λ listed. bytes_eq listed key) keys

-- each key of these members is one of these
abbrev pub members_only : List (List ℕ) → Members → Bool
members_only keys no_members = true
members_only keys (member key d ms) = is_key keys key && members_only keys ms

-- the value is an object that has no other keys
abbrev pub has_only : List (List ℕ) → Data → Bool
has_only keys null = false
has_only keys (boolean b) = false
has_only keys (number n) = false
has_only keys (string s) = false
has_only keys (array ds) = false
has_only keys (object ms) = members_only keys ms
