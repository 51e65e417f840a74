use Rattle.js_tokens.proofs.Answer.{one_place, no_reading}
use Rattle.js_tokens.proofs.laws.one_bad_place.Goals as goal

pub returns : goal.returns
returns c = record { one = one_place; no_reading = no_reading }
