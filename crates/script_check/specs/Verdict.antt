-- What the verdict on a script says.
use Rattle.std.specs.Prelude.{◌≡◌, ℕ, List}
use Rattle.js_tokens.specs.declared.token.Token.{Token as Lexed}
use Rattle.js_tree.specs.Plain.{Stmts}
use Rattle.js_tree.specs.Trees.{program_of}
use Rattle.adsafe_rules.specs.declared.scope.Scope.{Scope}
use Rattle.adsafe_rules.specs.declared.accepted.Accepted.{Accepted}
use Rattle.adsafe_rules.specs.Accepting.{IsJudged}
use Rattle.adsafe_rules.specs.Accepts.{tree_of, scope_of, fun_of, lib_name_of}
use Rattle.script_check.specs.declared.fault.ScriptFault.{ScriptFault}
use Rattle.script_check.specs.declared.fault.ScriptFault.TheVariants as fault
use Rattle.script_check.specs.Script.{Reads, TextFirst, ScriptFirst}

-- the bytes have this program
pub record HasProgram (bytes : List ℕ) (program : Stmts) : Type 0 where
  pub tokens : List Lexed
  pub reads : Reads bytes tokens program

-- what was accepted is this program at the position, and breaks no rule there; its function and its name are those that the position asks for
pub record Holds (program : Stmts) (scope : Scope) (a : Accepted) : Type 0 where
  pub same : program_of (tree_of a) ≡ program
  pub positioned : scope_of a ≡ scope
  pub judged : IsJudged (tree_of a) scope (fun_of a) (lib_name_of a)

-- what was accepted is the program of the bytes
pub record IsAccepted (bytes : List ℕ) (scope : Scope) (a : Accepted) : Type 0 where
  pub program : Stmts
  pub has : HasProgram bytes program
  pub holds : Holds program scope a

-- a text without a program: the rule that it breaks, or memory ran out
abbrev pub IsTextFault : List ℕ → ScriptFault → Type 0
IsTextFault bytes (fault.Broken b) = TextFirst bytes b.rule b.at
IsTextFault bytes fault.Memory = Unit {0}

-- a script at its position: its first broken rule, or memory ran out
abbrev pub IsScriptFault : List ℕ → Scope → ScriptFault → Type 0
IsScriptFault bytes scope (fault.Broken b) = ScriptFirst bytes scope b.rule b.at
IsScriptFault bytes scope fault.Memory = Unit {0}
