use Rattle.std.proofs.Common.{sym, ◌∙◌}
use Rattle.query_text.proofs.Reading.{keyword_begins, keyword_further, keyword_found, keyword_stuck, keyword_cut}
use Rattle.query_text.proofs.read.keyword_by_units.Goals as goal

pub keyword-init : goal.keyword-init
keyword-init c = keyword_begins _ _ c.requires

pub returns-in-Some : goal.returns-in-Some
returns-in-Some c = keyword_found _ _ _ c.keyword.invariant c.keyword-test.true _ (sym c.keyword_of.ensures ∙ c.in-Some.is)

pub returns-then-not-fits : goal.returns-then-not-fits
returns-then-not-fits c = keyword_stuck _ _ _ c.keyword.invariant c.keyword-test.true (sym c.keyword_of.ensures ∙ c.in_default.is) (sym c.if-not-fits.ensures)

pub keyword-preserved : goal.keyword-preserved
keyword-preserved c = keyword_further _ _ _ c.keyword.invariant c.keyword-test.true (sym c.keyword_of.ensures ∙ c.in_default.is) (sym c.if-not-fits.ensures)

pub returns : goal.returns
returns c = keyword_cut _ _ _ c.keyword.invariant c.keyword-test.false
