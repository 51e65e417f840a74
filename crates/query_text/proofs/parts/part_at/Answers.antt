use Rattle.query_text.proofs.Cuts.{word_is}
use Rattle.query_text.proofs.parts.part_at.Goals as goal

pub returns : goal.returns
returns c = word_is _ _ _ _ c.run_end-end.ensures c.if-end-at.false c.part_of.ensures
