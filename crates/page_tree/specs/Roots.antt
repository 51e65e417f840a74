-- The roots of the owners.
use Rattle.std.specs.Prelude.{◌≡◌, ℕ, ◌<◌, List, Option, Some, true, false, length}
use Rattle.code_units.specs.declared.owner.Owner.{Owner}
use Rattle.code_units.specs.declared.owner.Owner.TheVariants as owner
use Rattle.page_nodes.specs.Owners.{is_owner, same_owner, root_in}
use Rattle.page_nodes.specs.Entries.{Entry, at, body}

-- An owner's root is its own and stands under `body` or has no parent. What stands under `body` is the host's or its owner's root.
pub record IsRooted (k : List Entry) (roots : List (Option ℕ)) : Type 0 where
  pub host : root_in roots owner.Host ≡ Some body
  pub owners : (n : ℕ) → is_owner (at k n).owner ≡ true
  pub is_in : (o : Owner) (r : ℕ) → is_owner o ≡ true → root_in roots o ≡ Some r → r < length k
  pub own : (o : Owner) (r : ℕ) → is_owner o ≡ true → root_in roots o ≡ Some r → same_owner (at k r).owner o ≡ true
  pub high : (o : Owner) (r p : ℕ) → is_owner o ≡ true → root_in roots o ≡ Some r → (at k r).parent ≡ Some p → p ≡ body
  pub under : (n : ℕ) → (at k n).parent ≡ Some body → same_owner (at k n).owner owner.Host ≡ false → root_in roots (at k n).owner ≡ Some n
