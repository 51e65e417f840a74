use Rattle.std.proofs.Common.{ap, ◌∙◌}
use Rattle.slot_check.specs.Sources.{script_text}
use Rattle.slot_check.proofs.Refusals.{span_refused}
use Rattle.slot_check.proofs.parts.judge_span.Goals as goal

pub returns-in-Err-Broken-clause-broken : goal.returns-in-Err-Broken-clause-broken
returns-in-Err-Broken-clause-broken c = span_refused c.args.file.now c.args.span c.args.scope.now c.script_text.result.now c.in-Err-Broken.field-0 c.in-Err-Broken.breach c.saturating_add-at.result c.broken_in.result c.requires (c.script_text.ensures ∙ ap (λ b. script_text b c.args.span) c.deref.ensures.value) c.in-Err-Broken.ensures.refused c.in-Err-Broken.field-0-is c.saturating_add-at.ensures c.broken_in.ensures
