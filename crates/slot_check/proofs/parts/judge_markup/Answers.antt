use Rattle.slot_check.proofs.Refusals.{markup_refused}
use Rattle.slot_check.proofs.parts.judge_markup.Goals as goal

pub returns-in-Err-Broken-clause-broken : goal.returns-in-Err-Broken-clause-broken
returns-in-Err-Broken-clause-broken c = markup_refused c.args.name.now c.args.keys.now c.args.file.now c.deref.result.now c.in-Err-Broken.field-0 c.in-Err-Broken.rule c.in-Err-Broken.at c.broken_in.result c.deref.ensures.value c.in-Err-Broken.ensures.first c.in-Err-Broken.field-0-is c.broken_in.ensures
