use Rattle.std.proofs.Common.{map, arith}
use Rattle.trace_reader.specs.Said.{said}
use Rattle.page_play.specs.Findings.{found_refused}
use Rattle.adhost_run.specs.Page.{runs_of}
use Rattle.adhost_run.proofs.Plays.{certified_ran, long_ran}
use Rattle.adhost_run.proofs.playing.certificate_of.Goals as goal

pub certificate-requires-clause-housed : goal.certificate-requires-clause-housed
certificate-requires-clause-housed c = c.requires.is.played.housed

pub certificate-requires-clause-quiet : goal.certificate-requires-clause-quiet
certificate-requires-clause-quiet c = c.requires.is.played.quiet

pub returns-then-len-gt-CERT_LIMIT-clause-stop : goal.returns-then-len-gt-CERT_LIMIT-clause-stop
returns-then-len-gt-CERT_LIMIT-clause-stop c = λ m ss xs fs k is. long_ran m ss xs fs k c.args.ran.now is (found_refused c.args.ran.now.findings) c.in_ok-bytes.bytes.items
    (c.in_ok-bytes.ensures.audit is.spec is.swaps (map said xs) (runs_of m ss) fs c.args.ran.now.findings is.played is.found) (omega (arith, c.if-len-gt-CERT_LIMIT.true, c.len.ensures))

pub returns-clause-answer : goal.returns-clause-answer
returns-clause-answer c = λ m ss xs fs k is. certified_ran m ss xs fs k c.args.ran.now is (found_refused c.args.ran.now.findings) c.in_ok-bytes.bytes.items
    (c.in_ok-bytes.ensures.audit is.spec is.swaps (map said xs) (runs_of m ss) fs c.args.ran.now.findings is.played is.found) (omega (arith, c.if-len-gt-CERT_LIMIT.false, c.len.ensures))

pub returns-clause-confined : goal.returns-clause-confined
returns-clause-confined c = let is = c.in_ok-bytes.ensures.confined in record { slots = is.0; text = is.1; confined = is.2 }
