use Rattle.std.proofs.Common.{arith}
use Rattle.part_cases.proofs.certificates.verdict_of.Goals as goal

pub read_cert-requires : goal.read_cert-requires
read_cert-requires c = omega (arith, c.if-bytes-gt-MOST_BYTES.false)

pub verdict_on-requires : goal.verdict_on-requires
verdict_on-requires c = omega (arith, c.if-bytes-gt-MOST_BYTES.false, c.in-Ok.ensures.lines)
