-- Which names a script may use.
use Rattle.std.specs.Prelude.{ℕ, Bool, List, [], ◌∷◌, nat_eq, ◌&&◌, ◌||◌, not, codes, IsTrue}
use Rattle.std.specs.List.{list_any, starts_with, ends_with}
use Rattle.std.specs.Str.{bytes_eq}

-- the ten names that reach out of a script's own values
abbrev pub banned_names : List (List ℕ)
banned_names =
    codes "arguments" ∷ codes "callee" ∷ codes "caller" ∷ codes "constructor" ∷ codes "eval"
    ∷ codes "prototype" ∷ codes "stack" ∷ codes "unwatch" ∷ codes "valueOf" ∷ codes "watch" ∷ []

unfoldable pub is_banned : List ℕ → Bool
is_banned name = list_any (bytes_eq name) banned_names

-- the name begins or ends with `_`
unfoldable pub has_edge_underscore : List ℕ → Bool
has_edge_underscore name = starts_with nat_eq name (codes "_") || ends_with nat_eq name (codes "_")

-- it is not banned and neither begins nor ends with `_`
abbrev pub is_permitted : List ℕ → Bool
is_permitted name = not (is_banned name) && not (has_edge_underscore name)

abbrev pub IsPermitted : List ℕ → Type 0
IsPermitted name = IsTrue (is_permitted name)
