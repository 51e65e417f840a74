use Rattle.std.proofs.Common.{sym, arith}
use Rattle.query_text.proofs.Cuts.{name_is}
use Rattle.query_text.proofs.parts.name_at.Goals as goal

pub returns : goal.returns
returns c = name_is _ _ _ _ (omega arith) (sym c.if-not-is_lower.ensures) c.run_end-end.ensures c.in_ok-text_of.ensures
