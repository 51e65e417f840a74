-- Texts that the rules name.
use Rattle.std.specs.Prelude.{ℕ, Bool, List, [], ◌∷◌, ◌||◌, ◌&&◌, not, codes, length, nat_le, slice_index}
use Rattle.std.specs.List.{list_any, list_all}
use Rattle.std.specs.Str.{bytes_eq}
use Rattle.code_units.specs.Permitted.{is_banned}

-- the names that stand for the host's own values
unfoldable pub is_global : List ℕ → Bool
is_global name = list_any (bytes_eq name) (
    codes "ADSAFE" ∷ codes "Boolean" ∷ codes "isFinite" ∷ codes "isNaN" ∷ codes "Math"
    ∷ codes "Number" ∷ codes "parseInt" ∷ codes "String" ∷ codes "undefined" ∷ codes "NaN" ∷ [])

-- the names of `ADSAFE` that a script may call
unfoldable pub is_callable : List ℕ → Bool
is_callable name = list_any (bytes_eq name) (
    codes "create" ∷ codes "fromJson" ∷ codes "get" ∷ codes "has" ∷ codes "isArray" ∷ codes "keys"
    ∷ codes "later" ∷ codes "log" ∷ codes "post" ∷ codes "remove" ∷ codes "set" ∷ codes "toJson" ∷ [])

-- the two names that would reach a function's own workings
unfoldable pub is_reaching : List ℕ → Bool
is_reaching name = bytes_eq name (codes "arguments") || bytes_eq name (codes "eval")

-- an ASCII letter
unfoldable pub is_letter : ℕ → Bool
is_letter u = (nat_le 65 u && nat_le u 90) || (nat_le 97 u && nat_le u 122)

-- an ASCII digit
unfoldable pub is_digit : ℕ → Bool
is_digit u = nat_le 48 u && nat_le u 57

-- 1 to 64 ASCII letters and digits, first a letter, and not banned
unfoldable pub is_library_name : List ℕ → Bool
is_library_name name =
    nat_le 1 (length name) && nat_le (length name) 64 && is_letter (slice_index name 0)
    && list_all (λ u. is_letter u || is_digit u) name && not (is_banned name)
