use Rattle.js_tokens.proofs.Stands.{one_value}
use Rattle.js_tokens.proofs.Lies.{said_string}
use Rattle.js_tokens.proofs.laws.one_value.Goals as goal

pub returns : goal.returns
returns c = record { one = one_value; found = said_string }
