-- The texts of a script's names and numbers, of which the same are kept once.
use Rattle.std.specs.Prelude.{◌≡◌, ℕ, ◌<◌, List, [], ◌++◌, length, get_or, Option, Some, None}
use Rattle.js_tokens.specs.declared.token.Token.{Token as Lexed}
use Rattle.js_tokens.specs.declared.token.TokenKind.{TokenKind}
use Rattle.js_tokens.specs.declared.token.TokenKind.TheVariants as kind
use Rattle.js_tokens.specs.Value.{text_of}

-- tokens of this kind stand for their own bytes
abbrev pub IsSpelled : TokenKind → Type 0
IsSpelled kind.Name = Unit {0}
IsSpelled kind.Number = Unit {0}
IsSpelled _ = ⊥

-- the text at this place has these units
pub record HasText (texts : List (List ℕ)) (place : ℕ) (units : List ℕ) : Type 0 where
  pub inside : place < length texts
  pub same : get_or texts place [] ≡ units

-- the text at the place, where there is one, has these units
abbrev pub IsKept : List (List ℕ) → Option ℕ → List ℕ → Type 0
IsKept texts None units = Unit {0}
IsKept texts (Some place) units = HasText texts place units

-- texts are added, or none, and then the one at the place, where there is one, has these units
pub record AddsText (old new : List (List ℕ)) (place : Option ℕ) (units : List ℕ) : Type 0 where
  pub more : List (List ℕ)
  pub grown : new ≡ old ++ more
  pub told : IsKept new place units

-- the text at the place of each token, where it has one, is its own
pub record AreTexts (bytes : List ℕ) (ts : List Lexed) (places : List (Option ℕ)) (texts : List (List ℕ)) : Type 0 where
  pub long : length places ≡ length ts
  pub told : (i : ℕ) (t : Lexed) → i < length ts → t ≡ get_or ts i t → IsKept texts (get_or places i None) (text_of bytes t)
