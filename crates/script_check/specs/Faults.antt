-- The faults of the tokens, of the grammar and of the rules as faults of a script.
use Rattle.js_tokens.specs.declared.token.TokenFault.{TokenFault}
use Rattle.js_tokens.specs.declared.token.TokenFault.TheVariants as tokens
use Rattle.js_parser.specs.declared.ParseFault.{ParseFault}
use Rattle.js_parser.specs.declared.ParseFault.TheVariants as parse
use Rattle.node_rules.specs.declared.rule_numbers.TheConstants.{A01, A20}
use Rattle.adsafe_rules.specs.declared.scope.CheckFault.{CheckFault}
use Rattle.adsafe_rules.specs.declared.scope.CheckFault.TheVariants as check
use Rattle.script_check.specs.declared.fault.ScriptFault.{ScriptFault}
use Rattle.script_check.specs.declared.fault.ScriptFault.TheVariants as fault

-- A01: there is a bad token
abbrev pub fault_of_tokens : TokenFault → ScriptFault
fault_of_tokens (tokens.BadToken at) = fault.Broken (record { rule = A01; at = at })
fault_of_tokens tokens.Memory = fault.Memory

-- A01: the tokens are no program; A20: they are nested too deep
abbrev pub fault_of_parse : ParseFault → ScriptFault
fault_of_parse (parse.Syntax at) = fault.Broken (record { rule = A01; at = at })
fault_of_parse (parse.TooDeep at) = fault.Broken (record { rule = A20; at = at })
fault_of_parse parse.Memory = fault.Memory

-- A02 to A19
abbrev pub fault_of_check : CheckFault → ScriptFault
fault_of_check (check.Broken rule at) = fault.Broken (record { rule = rule; at = at })
fault_of_check check.Memory = fault.Memory
