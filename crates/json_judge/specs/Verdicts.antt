-- What is known of a JSON text before its value is made.
use Rattle.std.specs.Prelude.{◌≡◌, ⊤, ℕ, Bool, true, false, List, [], ◌∷◌, length, Some, None}
use Rattle.code_units.specs.Utf8.{utf8_of}
use Rattle.json.specs.Token.{Token}
use Rattle.json.specs.Json.{items, members, value}
use Rattle.serde_json.specs.Data.{Data, Items, Members, no_members}
use Rattle.serde_json.specs.Read.{converted, of_items, of_json, of_members, read}
use Rattle.json_judge.specs.Names.{has_names, items_have_names, members_have_names}
use Rattle.json_judge.specs.declared.judging.Verdict.{Verdict}
use Rattle.json_judge.specs.declared.judging.Verdict.TheVariants as verdict

-- The value of a text has a name that is not permitted.
pub record IsRefused (text : List ℕ) : Type 0 where
  pub value : Data
  pub read : read text ≡ Some value
  pub names : has_names value ≡ false

-- A text is JSON.
pub record IsJson (text : List ℕ) : Type 0 where
  pub value : Data
  pub read : read text ≡ Some value

-- what a verdict tells of a text
abbrev pub Tells : List ℕ → Verdict → Type 0
Tells text verdict.NotJson = read text ≡ None
Tells text verdict.Refused = IsRefused text
Tells text verdict.Passed = IsJson text

-- each text stands beside a verdict that tells of it
abbrev pub AreTold : List (List ℕ) → List Verdict → Type 0
AreTold [] [] = ⊤
AreTold (text ∷ texts) (v ∷ vs) = Tells (utf8_of text) v × AreTold texts vs
AreTold _ _ = ⊥

-- A value was passed, and if a refused name was found, it has one.
pub record PassesValue (depth : ℕ) (old new : List Token) (refused : Bool) : Type 0 where
  pub given : Data
  pub read : converted of_json (value depth old) ≡ Some (given, new)
  pub names : refused ≡ true → has_names given ≡ false

-- The same of the elements of an array, and its closing bracket.
pub record PassesItems (depth : ℕ) (old new : List Token) (refused : Bool) : Type 0 where
  pub given : Items
  pub read : converted of_items (items (value depth) (length old) old) ≡ Some (given, new)
  pub names : refused ≡ true → items_have_names given ≡ false

-- The same of the members of an object, and its closing brace.
pub record PassesMembers (depth : ℕ) (old new : List Token) (refused : Bool) : Type 0 where
  pub given : Members
  pub read : converted (λ ms. of_members ms no_members) (members (value depth) (length old) old) ≡ Some (given, new)
  pub names : refused ≡ true → members_have_names given ≡ false
