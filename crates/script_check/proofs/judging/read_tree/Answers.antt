use Rattle.std.proofs.Common.{sym, subst}
use Rattle.js_tokens.specs.Lexes.{Lexes}
use Rattle.script_check.proofs.Judged.{pass_tokens, pass_parse}
use Rattle.script_check.proofs.judging.read_tree.Goals as goal

pub returns-in_err-lexed-clause-refused : goal.returns-in_err-lexed-clause-refused
returns-in_err-lexed-clause-refused c = pass_tokens c.args.bytes.now c.from_residual.result c.in_err-lexed.field-0.0 c.from_residual.ensures.1 c.in_err-lexed.ensures.place

pub returns-in_err-parse-clause-refused : goal.returns-in_err-parse-clause-refused
returns-in_err-parse-clause-refused c = pass_parse c.args.bytes.now c.deref.result.now c.from_residual-in_err-parse.result c.in_err-parse.field-0.0 c.from_residual-in_err-parse.ensures.1 (subst (Lexes c.args.bytes.now) (sym c.deref.ensures.value) c.in_ok-lexed.ensures.found) c.in_err-parse.ensures.place
