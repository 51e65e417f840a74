-- What a parse answers.
use Rattle.std.specs.Prelude.{◌≡◌, ℕ, ◌<◌, List, length}
use Rattle.exact_refusals.specs.Judge.Outcome.{Refused, Deeper}
use Rattle.exact_refusals.specs.Places.{IsSyntaxAt, IsTooDeepAt}
use Rattle.js_grammar.specs.Grammar.{Token, IsProgram}
use Rattle.js_grammar.specs.Machine.{begin}
use Rattle.js_parser.specs.declared.ParseFault.{ParseFault}
use Rattle.js_parser.specs.declared.ParseFault.TheVariants as fault
use Rattle.js_cursor.specs.declared.refusal.Refusal.{Refusal}
use Rattle.js_cursor.specs.declared.refusal.Refusal.TheVariants as refusal
use Rattle.js_cursor.specs.Reads.{from, goes, lexeme_at}

-- Where the text is refused, and why: the fault gives the byte at which the refused token begins, or the length at the end of the text.
abbrev pub IsRefusal : List Token → ParseFault → Type 0
IsRefusal input (fault.Syntax at) = (token : ℕ) × (at ≡ (lexeme_at input token).at) × (token < length input) × IsSyntaxAt IsProgram 200 input token
IsRefusal input (fault.TooDeep at) = (token : ℕ) × (at ≡ (lexeme_at input token).at) × (token < length input) × IsTooDeepAt IsProgram 200 input token
IsRefusal input fault.Memory = Unit {0}

-- the refused token is one of the script
abbrev pub IsPlaced : List Token → Refusal → Type 0
IsPlaced input (refusal.Syntax token) = token < length input
IsPlaced input (refusal.TooDeep token) = token < length input
IsPlaced input refusal.Memory = Unit {0}

-- the fault says the refusal, with the byte of its token
abbrev pub IsSaid : List Token → Refusal → ParseFault → Type 0
IsSaid input (refusal.Syntax token) e = e ≡ fault.Syntax (lexeme_at input token).at
IsSaid input (refusal.TooDeep token) e = e ≡ fault.TooDeep (lexeme_at input token).at
IsSaid input refusal.Memory e = e ≡ fault.Memory

-- the machine refuses the whole text there
abbrev pub Stops : List Token → Refusal → Type 0
Stops ts (refusal.Syntax place) = (place < length ts) × (goes ts begin 0 ≡ Refused (length (from ts place)))
Stops ts (refusal.TooDeep place) = (place < length ts) × (goes ts begin 0 ≡ Deeper (length (from ts place)))
Stops ts refusal.Memory = Unit {0}
