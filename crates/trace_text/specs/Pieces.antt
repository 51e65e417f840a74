-- Pieces of a line.
use Rattle.std.specs.Prelude.{ℕ, List, decimal}
use Rattle.trace_text.specs.declared.pieces.Piece.{Piece}
use Rattle.trace_text.specs.declared.pieces.Piece.TheVariants.{Plain, Escaped, Units, Texts, Until, Number}
use Rattle.trace_text.specs.Report.{escaped, text_inside, quoted_list, until_member}

-- what a piece appends
abbrev pub piece_text : Piece → List ℕ
piece_text (Plain text) = text.now
piece_text (Escaped bytes) = escaped bytes.now
piece_text (Units text) = text_inside text.now
piece_text (Texts texts) = quoted_list texts.now
piece_text (Until until) = until_member until
piece_text (Number n) = decimal n
