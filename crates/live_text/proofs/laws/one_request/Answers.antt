use Rattle.live_text.proofs.OneRequest.{one_request, one_fault, refused}
use Rattle.live_text.proofs.laws.one_request.Goals as goal

pub returns : goal.returns
returns c = record { request = one_request; fault = one_fault; refused = refused }
