-- The names in a JSON value.
use Rattle.std.specs.Prelude.{◌≡◌, Bool, true, false, ◌&&◌, ℕ, List, Some}
use denote.Ref.{Bor}
use Rattle.std.specs.BTreeSet.{BTreeSet, contains}
use Rattle.std.specs.Cmp.Lexicographic.{slice_cmp}
use Rattle.std.specs.declared.cmp.Ordering.{Ordering}
use Rattle.std.specs.Ordering.{nat_cmp}
use Rattle.code_units.specs.Permitted.{is_permitted}
use Rattle.code_units.specs.Utf8.{units_of}
use Rattle.serde_json.specs.Data as json
use Rattle.serde_json.specs.Find.{get_member}

abbrev mutual
  -- whether all names of its objects are permitted
  pub has_names : json.Data → Bool
  has_names json.null = true
  has_names (json.boolean b) = true
  has_names (json.number x) = true
  has_names (json.string bs) = true
  has_names (json.array ds) = items_have_names ds
  has_names (json.object ms) = members_have_names ms

  -- the same of items
  pub items_have_names : json.Items → Bool
  items_have_names json.no_items = true
  items_have_names (json.item d ds) = has_names d && items_have_names ds

  -- the same of members
  pub members_have_names : json.Members → Bool
  members_have_names json.no_members = true
  members_have_names (json.member k d ms) = (is_permitted (units_of k) && has_names d) && members_have_names ms

-- The value at a name has a name that is not permitted.
pub record HasRefused (k : List ℕ) (ms : json.Members) : Type 0 where
  pub value : json.Data
  pub found : get_member k ms ≡ Some value
  pub names : has_names value ≡ false

-- the order of texts
abbrev pub by_text : Bor (List ℕ) → Bor (List ℕ) → Ordering
by_text x y = slice_cmp nat_cmp x.now y.now

-- the values at these names have names that are not permitted
abbrev pub AreRefused : BTreeSet (Bor (List ℕ)) → json.Members → Type 0
AreRefused held ms = (k : Bor (List ℕ)) → contains by_text held k ≡ true → HasRefused k.now ms
