-- The first rule that a script breaks.
use Rattle.std.specs.Prelude.{ℕ, List}
use Rattle.exact_refusals.specs.Places.{HasTree, IsSyntaxAt, IsTooDeepAt}
use Rattle.js_tokens.specs.declared.token.Token.{Token as Lexed}
use Rattle.js_tokens.specs.Lexes.{Lexes, BadPlace}
use Rattle.js_tree.specs.Plain.{Stmts}
use Rattle.js_grammar.specs.Grammar.{IsProgram}
use Rattle.js_parser.specs.Signs.{input}
use Rattle.js_parser.specs.Reads.{lexeme_at}
use Rattle.node_rules.specs.declared.rule_numbers.TheConstants.{A01, A20}
use Rattle.adsafe_rules.specs.declared.scope.Scope.{Scope}
use Rattle.adsafe_rules.specs.declared.scope.Scope.TheVariants as scope
use Rattle.adsafe_rules.specs.Program.{First, IsClean}

-- the bytes are these tokens, which are this program, at most 200 links deep
pub record Reads (bytes : List ℕ) (tokens : List Lexed) (program : Stmts) : Type 0 where
  pub lexes : Lexes bytes tokens
  pub spells : HasTree IsProgram 200 (input bytes tokens) program

-- the rule that a text without a program breaks, and the byte where
pub data TextFirst (bytes : List ℕ) : ℕ → ℕ → Type 0 where
  -- A01: there is a bad token
  bad_token : {at : ℕ} → BadPlace bytes at → TextFirst bytes A01 at
  -- A01: no program begins with the tokens up to one of them
  syntax : {tokens : List Lexed} {i : ℕ} → Lexes bytes tokens → IsSyntaxAt IsProgram 200 (input bytes tokens) i → TextFirst bytes A01 (lexeme_at (input bytes tokens) i).at
  -- A20: a token opens the 201st link
  too_deep : {tokens : List Lexed} {i : ℕ} → Lexes bytes tokens → IsTooDeepAt IsProgram 200 (input bytes tokens) i → TextFirst bytes A20 (lexeme_at (input bytes tokens) i).at

-- the first rule that a script at its position breaks, and the byte where
pub data ScriptFirst (bytes : List ℕ) (scope : Scope) : ℕ → ℕ → Type 0 where
  -- A01 and A20
  unread : {rule at : ℕ} → TextFirst bytes rule at → ScriptFirst bytes scope rule at
  -- A02 to A19: the first that its program breaks
  broken : {tokens : List Lexed} {program : Stmts} {rule at : ℕ} → Reads bytes tokens program → First program scope rule at → ScriptFirst bytes scope rule at

-- the script is this program, which breaks no rule at its position
pub record IsScript (bytes : List ℕ) (scope : Scope) (program : Stmts) : Type 0 where
  pub tokens : List Lexed
  pub reads : Reads bytes tokens program
  pub clean : IsClean program scope

-- the script breaks no rule at its position
pub record IsCleanScript (bytes : List ℕ) (scope : Scope) : Type 0 where
  pub program : Stmts
  pub script : IsScript bytes scope program

-- LibFirst: the first rule that a library breaks
abbrev pub LibFirst : List ℕ → ℕ → ℕ → Type 0
LibFirst bytes rule at = ScriptFirst bytes scope.Lib rule at
