-- What the parts of the scanner answer.
use Rattle.std.specs.Prelude.{◌≡◌, ℕ, ◌<◌, List, true, false, Option, Some, None}
use Rattle.js_tokens.specs.declared.string.StringEnd.{StringEnd}
use Rattle.js_tokens.specs.declared.string.StringEnd.TheVariants as ending
use Rattle.js_tokens.specs.declared.piece.Piece.{Piece}
use Rattle.js_tokens.specs.declared.piece.Piece.TheVariants as piece
use Rattle.js_tokens.specs.declared.token.TokenFault.{TokenFault}
use Rattle.js_tokens.specs.declared.token.TokenFault.TheVariants as fault
use Rattle.js_tokens.specs.Cursor.{from, IsPlace}
use Rattle.js_tokens.specs.Lexes.{FirstBad}
use Rattle.js_tokens.specs.Scan as scan
use Rattle.js_tokens.specs.Scan.{after_string, first_bad, Found}

-- behind the character after a backslash the string goes on; none at the end and before a line end
abbrev pub IsPairEnd : List ℕ → ℕ → Option ℕ → Type 0
IsPairEnd text at None = (quote : ℕ) → after_string quote true (from text at) ≡ None
IsPairEnd text at (Some next) = (at < next) × IsPlace text next
    × ((quote : ℕ) → after_string quote true (from text at) ≡ after_string quote false (from text next))
    × ((quote : ℕ) → first_bad quote true (from text at) ≡ first_bad quote false (from text next))

-- where a string ends, from what is found of it
abbrev pub IsStringEnd : List ℕ → ℕ → Option (List ℕ) → Option (List ℕ) → StringEnd → Type 0
IsStringEnd text at rest bad ending.Open = rest ≡ None
IsStringEnd text at rest bad (ending.Closed next) = (rest ≡ Some (from text next)) × (bad ≡ None) × (at < next) × IsPlace text next
IsStringEnd text at rest bad (ending.Bad place) = ((next : ℕ) × (rest ≡ Some (from text next))) × (bad ≡ Some (from text place)) × IsPlace text place

-- the piece is what is found
abbrev pub IsPiece : List ℕ → ℕ → Found → Piece → Type 0
IsPiece text at f piece.End = f ≡ scan.End
IsPiece text at f (piece.Gap next) = (f ≡ scan.Gap (from text next)) × (at < next) × IsPlace text next
IsPiece text at f (piece.Token k next) = (f ≡ scan.Token k (from text next)) × (at < next) × IsPlace text next
IsPiece text at f (piece.Bad place) = (f ≡ scan.Bad (from text place)) × IsPlace text place

-- what an error of the scanner says, in a text that is UTF-8
abbrev pub IsScanFault : List ℕ → TokenFault → Type 0
IsScanFault text (fault.BadToken at) = IsPlace text at × FirstBad (from text 0) (from text at)
IsScanFault text fault.Memory = Unit {0}
