use Rattle.js_tokens.proofs.Answer.{one_reading}
use Rattle.js_tokens.proofs.laws.one_reading.Goals as goal

pub returns : goal.returns
returns c = one_reading
