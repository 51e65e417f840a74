-- The printed form of styles, and what is appended.
use Rattle.std.specs.Prelude.{◌≡◌, ℕ, List, ◌++◌}
use Rattle.style_text.specs.Styles.{Pair, StyleSpells, print_style}
use Rattle.plain_tree.specs.Trees.{PlainTrees, Attribute}
use Rattle.plain_tree.specs.Print.{opening, printed, printed_attribute}

-- `style` gives a list of styles in its one spelling, and what is no such list as it stands.
pub record IsStyleForm (style : List ℕ → List ℕ) : Type 0 where
  pub spelled : (us : List ℕ) (pairs : List Pair) → StyleSpells us pairs → style us ≡ print_style pairs
  pub other : (us : List ℕ) → ((pairs : List Pair) → StyleSpells us pairs → ⊥) → style us ≡ us

-- `PrintMarkup`: the printed text of plain trees stands behind the bytes.
abbrev pub Prints : PlainTrees → List ℕ → List ℕ → Type 0
Prints ts old new = (style : List ℕ → List ℕ) → IsStyleForm style → new ≡ old ++ printed style ts

-- the same of one attribute
abbrev pub PrintsAttribute : Attribute → List ℕ → List ℕ → Type 0
PrintsAttribute a old new = (style : List ℕ → List ℕ) → IsStyleForm style → new ≡ old ++ printed_attribute style a

-- the same of a start tag
abbrev pub PrintsOpening : List ℕ → List Attribute → List ℕ → List ℕ → Type 0
PrintsOpening tag attrs old new = (style : List ℕ → List ℕ) → IsStyleForm style → new ≡ old ++ opening style tag attrs

-- a text without a rest of it stands behind the bytes
pub record AppendsBut (text rest old new : List ℕ) : Type 0 where
  pub part : List ℕ
  pub whole : text ≡ part ++ rest
  pub appended : new ≡ old ++ part

-- a beginning of a text stands behind the bytes
abbrev pub AppendsPart : List ℕ → List ℕ → List ℕ → Type 0
AppendsPart text old new = (rest : List ℕ) × AppendsBut text rest old new

-- the same of the printed text of plain trees
abbrev pub PrintsPart : PlainTrees → List ℕ → List ℕ → Type 0
PrintsPart ts old new = (style : List ℕ → List ℕ) → IsStyleForm style → AppendsPart (printed style ts) old new
