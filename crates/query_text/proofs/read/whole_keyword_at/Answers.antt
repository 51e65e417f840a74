use Rattle.std.proofs.Common.{◌∙◌, sym, arith}
use Rattle.query_text.proofs.Reading.{keyword_whole}
use Rattle.query_text.proofs.read.whole_keyword_at.Goals as goal

pub returns : goal.returns
returns c = keyword_whole _ _ _ (omega (arith, c.run_end-end.ensures.order)) c.run_end-end.ensures.inside _ (sym c.keyword_of.ensures ∙ c.in_ok-filter.was)
