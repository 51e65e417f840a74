use Rattle.std.proofs.Common.{◌≢◌, rules}
use Rattle.std.proofs.lemmas.List.Elements.{All-more}
use Rattle.host_io.proofs.cuts.line_len.Goals as goal

pub bytes-preserved : goal.bytes-preserved
bytes-preserved c = (search rules, All-more (λ b. b ≢ 10) _ _ 0 (search rules) c.bytes.invariant.1 (search rules))
