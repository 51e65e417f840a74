-- A name keeps its number.
use Rattle.std.proofs.Common.{◌≡◌, ℕ, List, [], ◌∷◌, ◌++◌, ap, ◌∙◌, Some, true, false, Bool, if◌then◌else◌, slice_get}
use Rattle.std.specs.List.{list_any}
use Rattle.std.specs.Str.{bytes_eq}
use Rattle.std.proofs.lemmas.Option.{slice_get_within}
use Rattle.keyed_names.specs.Interned.{interned}
use Rattle.store_cells.proofs.Lists.{get_older}

pub found_stays : (old new : List (List ℕ)) (name : List ℕ) → new ≡ interned old name → (k : ℕ) (t : List ℕ) → slice_get old k ≡ Some t → slice_get new k ≡ Some t
found_stays old new name is k t at = ap (λ l. slice_get l k) is ∙ by (list_any (bytes_eq name) old)
  where
    by : (b : Bool) → slice_get (if b then old else old ++ name ∷ []) k ≡ Some t
    by true = at
    by false = get_older old name k (slice_get_within old k t at) ∙ at
