-- How many nodes an owner has.
use Rattle.std.specs.Prelude.{◌≡◌, ℕ, ◌+◌, ◌≤◌, List, [], ◌∷◌, length, slice_index_or, true, if◌then◌else◌}
use Rattle.code_units.specs.declared.owner.Owner.{Owner}
use Rattle.code_units.specs.declared.owner.Owner.TheVariants as owner
use Rattle.page_nodes.specs.Owners.{is_owner, same_owner, slot}
use Rattle.page_nodes.specs.Entries.{Entry}

-- the nodes that an owner ever made
abbrev pub count_of : Owner → List Entry → ℕ
count_of o [] = 0
count_of o (e ∷ k) = (if same_owner e.owner o then 1 else 0) + count_of o k

-- the most that it may make
abbrev pub most_of : Owner → ℕ
most_of owner.Host = 300000
most_of (owner.Widget w) = 16384

-- the table of counts is right, and no count is over its limit
pub record IsCounted (k : List Entry) (made : List ℕ) : Type 0 where
  pub long : length made ≡ 33
  pub counts : (o : Owner) → is_owner o ≡ true → slice_index_or made (slot o) 0 ≡ count_of o k
  pub most : (o : Owner) → is_owner o ≡ true → count_of o k ≤ most_of o
