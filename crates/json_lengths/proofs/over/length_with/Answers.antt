use Rattle.std.proofs.Common.{Err, ap, ◌∙◌}
use Rattle.json_lengths.proofs.Found.{has_some_length, no_json}
use Rattle.json_lengths.proofs.over.length_with.Goals as goal

pub returns-in-Ok-clause-ok : goal.returns-in-Ok-clause-ok
returns-in-Ok-clause-ok c = has_some_length c.args.text.now c.args.key.now _ c.in-Ok.ensures.ok.0 _ c.length_in.ensures

pub returns-in-Err-Invalid-clause-err : goal.returns-in-Err-Invalid-clause-err
returns-in-Err-Invalid-clause-err c = no_json c.args.text.now (c.parse.ensures.invalid (c.in-Err-Invalid.is ∙ ap Err c.in-Err-Invalid.field-0-is))
