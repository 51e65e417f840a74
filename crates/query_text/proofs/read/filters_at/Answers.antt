use Rattle.query_text.proofs.Reading.{text_filters, text_filters_at}
use Rattle.query_text.proofs.read.filters_at.Goals as goal

pub of-requires-clause-filters : goal.of-requires-clause-filters
of-requires-clause-filters c = text_filters c.args.text.now c.args.units.now c.args.at c.in-Ok.end c.requires.same (rw c.in-Ok.is at c.filters_end.ensures)

pub returns-in_ok-of-in-Ok : goal.returns-in_ok-of-in-Ok
returns-in_ok-of-in-Ok c = text_filters_at c.args.text.now c.args.units.now c.args.at c.in-Ok.end _ c.requires.same (rw c.in-Ok.is at c.filters_end.ensures) c.in_ok-of-in-Ok.ensures
