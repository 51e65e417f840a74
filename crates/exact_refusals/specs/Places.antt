-- Where a text is refused, for any grammar.
-- A token stands with its depth: the number of links (brackets, operands, blocks ..) in which it is.
-- `Is ts tree` says that these tokens, at these depths, are a whole text and spell the tree.
use Rattle.std.specs.Prelude.{◌≡◌, ℕ, suc, ◌<◌, ◌≤◌, List, [], ◌∷◌, ◌++◌, length, take, slice_index}

-- the tokens without their depths
abbrev pub signs : {Token : Type 0} → List (Token × ℕ) → List Token
signs [] = []
signs (t ∷ ts) = t.0 ∷ signs ts

-- the depths alone
abbrev pub depths : {Token : Type 0} → List (Token × ℕ) → List ℕ
depths [] = []
depths (t ∷ ts) = t.1 ∷ depths ts

-- no token is deeper than the limit
abbrev pub Within : {Token : Type 0} → ℕ → List (Token × ℕ) → Type 0
Within limit [] = Unit {0}
Within limit (t ∷ ts) = (t.1 ≤ limit) × Within limit ts

-- both begin with the same n tokens
abbrev pub Agree : {Token : Type 0} → ℕ → List (Token × ℕ) → List Token → Type 0
Agree n ts input = take n (signs ts) ≡ take n input

-- The input spells the tree, with no token deeper than the limit.
pub record HasTree {Token Tree : Type 0} (Is : List (Token × ℕ) → Tree → Type 0) (limit : ℕ) (input : List Token) (tree : Tree) : Type 0 where
  pub tokens : List (Token × ℕ)
  pub same : signs tokens ≡ input
  pub within : Within limit tokens
  pub spelled : Is tokens tree

-- The tokens before `at` begin a text, with none of them deeper than the limit.
-- No text of any depth begins with these and the token `at`. (The end of the input counts as a token: where `at` is its length, the input itself is no text.)
pub record IsSyntaxAt {Token Tree : Type 0} (Is : List (Token × ℕ) → Tree → Type 0) (limit : ℕ) (input : List Token) (at : ℕ) : Type 0 where
  pub front : List (Token × ℕ)
  pub more : List (Token × ℕ)
  pub tree : Tree
  pub begins : Is (front ++ more) tree
  pub taken : signs front ≡ take at input
  pub within : Within limit front
  pub inside : at ≤ length input
  pub refused : (ts : List (Token × ℕ)) (p : Tree) → Is ts p → Agree (suc at) ts input → ⊥

-- The tokens up to and with `at` begin a text, with none before `at` deeper than the limit.
-- In each text that begins so, the token `at` stands in one link more than the limit.
pub record IsTooDeepAt {Token Tree : Type 0} (Is : List (Token × ℕ) → Tree → Type 0) (limit : ℕ) (input : List Token) (at : ℕ) : Type 0 where
  pub front : List (Token × ℕ)
  pub token : Token × ℕ
  pub more : List (Token × ℕ)
  pub tree : Tree
  pub begins : Is (front ++ token ∷ more) tree
  pub taken : signs (front ++ token ∷ []) ≡ take (suc at) input
  pub within : Within limit front
  pub inside : at < length input
  pub deeper : (ts : List (Token × ℕ)) (p : Tree) → Is ts p → Agree (suc at) ts input → slice_index (depths ts) at ≡ suc limit
