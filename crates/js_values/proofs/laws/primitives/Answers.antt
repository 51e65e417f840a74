use Rattle.js_values.proofs.Plain.{plain_fine, seen_plain}
use Rattle.js_values.proofs.laws.primitives.Goals as goal

pub returns-clause-seen : goal.returns-clause-seen
returns-clause-seen c = seen_plain

pub returns-clause-fine : goal.returns-clause-fine
returns-clause-fine c = plain_fine
