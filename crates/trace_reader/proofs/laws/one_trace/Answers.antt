use Rattle.trace_reader.proofs.OneTrace.{one_trace, one_fault, refused}
use Rattle.trace_reader.proofs.laws.one_trace.Goals as goal

pub returns : goal.returns
returns c = record { items = one_trace; fault = one_fault; refused = refused }
