use Rattle.std.proofs.Common.{sym, ◌∙◌}
use Rattle.explain_run.specs.Request.{library, page}
use Rattle.explain_run.proofs.request.parse_one.Goals as goal

pub returns-then-is_script_name : goal.returns-then-is_script_name
returns-then-is_script_name c = library (sym c.is_script_name.ensures ∙ c.if-is_script_name.true)

pub returns : goal.returns
returns c = page (sym c.is_script_name.ensures ∙ c.if-is_script_name.false)
