use Rattle.query_grammar.proofs.Thinned.{keeps_same}
use Rattle.query_grammar.proofs.laws.filters_once.Goals as goal

pub returns : goal.returns
returns c = keeps_same
