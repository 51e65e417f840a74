-- From what the judges answer to the verdict on a script.
use Rattle.std.proofs.Common.{◌≡◌, ℕ, List, Result, Ok, Err, IfErr, sym, ap, subst}
use Rattle.std.specs.Result.{IsErrAnd}
use Rattle.js_tokens.specs.declared.token.Token.{Token as Lexed}
use Rattle.js_tokens.specs.declared.token.TokenFault.{TokenFault}
use Rattle.js_tokens.specs.declared.token.TokenFault.TheVariants as token_fault
use Rattle.js_tokens.specs.Lexes.{Lexes, IsFault}
use Rattle.js_tree.specs.Plain.{Stmts}
use Rattle.js_tree.specs.declared.tree.Tree.{Tree}
use Rattle.js_tree.specs.Trees.{program_of}
use Rattle.js_parser.specs.declared.ParseFault.{ParseFault}
use Rattle.js_parser.specs.declared.ParseFault.TheVariants as parse_fault
use Rattle.js_parser.specs.Signs.{input}
use Rattle.js_parser.specs.Parse.{IsRefusal}
use Rattle.adsafe_rules.specs.declared.accepted.Accepted.{Accepted}
use Rattle.adsafe_rules.specs.declared.scope.Scope.{Scope}
use Rattle.adsafe_rules.specs.declared.scope.CheckFault.{CheckFault}
use Rattle.adsafe_rules.specs.declared.scope.CheckFault.TheVariants as check_fault
use Rattle.adsafe_rules.specs.Accepting as rules
use Rattle.adsafe_rules.specs.Accepts.{Accepts, fun_of, lib_name_of}
use Rattle.script_check.specs.declared.fault.ScriptFault.{ScriptFault}
use Rattle.script_check.specs.declared.fault.ScriptFault.TheVariants as fault
use Rattle.script_check.specs.Script.{TextFirst, bad_token, syntax, too_deep, unread, broken}
use Rattle.script_check.specs.Faults.{fault_of_tokens, fault_of_parse, fault_of_check}
use Rattle.script_check.specs.Verdict.{HasProgram, IsAccepted, IsTextFault, IsScriptFault}

-- the faults of the tokens, of the grammar and of the rules
token_fault_is : (bytes : List ℕ) (f : TokenFault) → IsFault bytes f → IsTextFault bytes (fault_of_tokens f)
token_fault_is bytes (token_fault.BadToken at) bad = bad_token bad
token_fault_is bytes token_fault.Memory bad = tt

parse_fault_is : (bytes : List ℕ) (ts : List Lexed) (f : ParseFault) → Lexes bytes ts → IsRefusal (input bytes ts) f → IsTextFault bytes (fault_of_parse f)
parse_fault_is bytes ts (parse_fault.Syntax at) lexes refused = subst (TextFirst bytes 1) (sym refused.1) (syntax lexes refused.3)
parse_fault_is bytes ts (parse_fault.TooDeep at) lexes refused = subst (TextFirst bytes 20) (sym refused.1) (too_deep lexes refused.3)
parse_fault_is bytes ts parse_fault.Memory lexes refused = tt

text_fault_is : (bytes : List ℕ) (scope : Scope) (f : ScriptFault) → IsTextFault bytes f → IsScriptFault bytes scope f
text_fault_is bytes scope (fault.Broken b) first = unread first
text_fault_is bytes scope fault.Memory first = tt

check_fault_is : (bytes : List ℕ) (scope : Scope) (program : Stmts) (f : CheckFault) → HasProgram bytes program → rules.IsFault program scope f → IsScriptFault bytes scope (fault_of_check f)
check_fault_is bytes scope program (check_fault.Broken rule at) has first = broken has.reads first
check_fault_is bytes scope program check_fault.Memory has first = tt

-- what is handed on of each
pub pass_tokens : {X : Type 0} (bytes : List ℕ) (r : Result X ScriptFault) (f : TokenFault) → IsErrAnd r (λ e. e ≡ fault_of_tokens f) → IsFault bytes f → IfErr r (IsTextFault bytes)
pass_tokens bytes (Ok x) f is bad = absurd is
pass_tokens bytes (Err e) f is bad = subst (IsTextFault bytes) (sym is) (token_fault_is bytes f bad)

pub pass_parse : {X : Type 0} (bytes : List ℕ) (ts : List Lexed) (r : Result X ScriptFault) (f : ParseFault) → IsErrAnd r (λ e. e ≡ fault_of_parse f) → Lexes bytes ts → IsRefusal (input bytes ts) f → IfErr r (IsTextFault bytes)
pass_parse bytes ts (Ok x) f is lexes refused = absurd is
pass_parse bytes ts (Err e) f is lexes refused = subst (IsTextFault bytes) (sym is) (parse_fault_is bytes ts f lexes refused)

pub pass_text : {X : Type 0} (bytes : List ℕ) (scope : Scope) (r : Result X ScriptFault) (f : ScriptFault) → IsErrAnd r (λ e. e ≡ f) → IsTextFault bytes f → IfErr r (IsScriptFault bytes scope)
pass_text bytes scope (Ok x) f is first = absurd is
pass_text bytes scope (Err e) f is first = subst (IsScriptFault bytes scope) (sym is) (text_fault_is bytes scope f first)

pub pass_check : {X : Type 0} (bytes : List ℕ) (scope : Scope) (program : Stmts) (r : Result X ScriptFault) (f : CheckFault) → IsErrAnd r (λ e. e ≡ fault_of_check f) → HasProgram bytes program → rules.IsFault program scope f → IfErr r (IsScriptFault bytes scope)
pass_check bytes scope program (Ok x) f is has first = absurd is
pass_check bytes scope program (Err e) f is has first = subst (IsScriptFault bytes scope) (sym is) (check_fault_is bytes scope program f has first)

-- a tree that is accepted is the program of the bytes
pub accepted_is : (bytes : List ℕ) (scope : Scope) (tree : Tree) (a : Accepted) → HasProgram bytes (program_of tree) → Accepts tree scope a → IsAccepted bytes scope a
accepted_is bytes scope tree a has is = record {
  program = program_of tree;
  has = has;
  holds = record {
    same = ap program_of is.holds;
    positioned = is.positioned;
    judged = subst (λ t. rules.IsJudged t scope (fun_of a) (lib_name_of a)) (sym is.holds) is.judged;
  };
}
