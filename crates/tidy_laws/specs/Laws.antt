-- What the tidied text of a tree spells.
use Rattle.std.specs.Prelude.{◌≡◌, ℕ, List, [], ◌∷◌, ◌++◌, map}
use Rattle.exact_refusals.specs.Places.{HasTree}
use Rattle.js_grammar.specs.declared.Sign.{Sign}
use Rattle.js_grammar.specs.declared.Sign.TheVariants as sign
use Rattle.js_grammar.specs.Grammar.{Deep, Spells, Statements, IsProgram}
use Rattle.js_grammar.specs.Unplaced.{spellings, unplaced_stmts}
use Rattle.js_parser.specs.Signs.{sign_of, input}
use Rattle.js_print.specs.Tidy.{stmts_tokens, tidy}
use Rattle.js_tokens.specs.declared.token.Token.{Token as Lexed}
use Rattle.js_tokens.specs.Lexes.{Lexes}
use Rattle.js_tokens.specs.Value.{text_of}
use Rattle.js_tree.specs.Plain.{Stmts}
use Rattle.tidy_laws.specs.Told.{Written}

-- the end of a text
abbrev pub the_end : List Deep
the_end = ((sign.End, record { text = []; at = 0 }), 0) ∷ []

-- Tokens that have the bytes of the tidied text spell the program, apart from places; each has an allowed depth and a fit text.
pub record Respells (Allowed : ℕ → Type 0) (Fit : Sign → List ℕ → Type 0) (p : Stmts) : Type 0 where
  pub tokens : List Deep
  pub tree : Stmts
  pub spells : Spells (Statements tree) 0 tokens the_end
  pub same : unplaced_stmts tree ≡ unplaced_stmts p
  pub written : Written Allowed Fit (stmts_tokens p) tokens the_end

-- The bytes are read as the tokens of ts before rest, as the grammar sees them.
pub record IsReadAs (bytes : List ℕ) (ts rest : List Deep) : Type 0 where
  pub lexed : List Lexed
  pub lexes : Lexes bytes lexed
  pub same : spellings ts ≡ map (λ t. (sign_of bytes t, text_of bytes t)) lexed ++ spellings rest

-- The tidied text is read as a program with no token deeper than the limit, and that is this program, apart from places.
pub record IsTidied (limit : ℕ) (p : Stmts) : Type 0 where
  pub lexed : List Lexed
  pub lexes : Lexes (tidy p) lexed
  pub tree : Stmts
  pub parsed : HasTree IsProgram limit (input (tidy p) lexed) tree
  pub same : unplaced_stmts tree ≡ unplaced_stmts p
