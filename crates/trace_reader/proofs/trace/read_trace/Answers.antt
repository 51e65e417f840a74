use Rattle.std.proofs.Common.{codes, subst}
use Rattle.std.specs.Prelude.{IfSome}
use Rattle.json_lengths.specs.Lengths.{HasLengthOver}
use Rattle.trace_reader.proofs.TraceLemmas.{too_many}
use Rattle.trace_reader.proofs.trace.read_trace.Goals as goal

pub returns-in-Some-clause-err : goal.returns-in-Some-clause-err
returns-in-Some-clause-err c =
    let over = subst (λ o. IfSome o (HasLengthOver c.args.bytes.now (codes "items") 4096)) c.in-Some.is c.in_ok-items.ensures.ok in
    too_many c.args.bytes.now c.args.names.now c.in-Some.items over
