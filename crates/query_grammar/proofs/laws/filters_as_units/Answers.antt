use Rattle.query_grammar.proofs.Spelled.{filters_are, spelled_alone, first_is}
use Rattle.query_grammar.proofs.laws.filters_as_units.Goals as goal

pub returns : goal.returns
returns c = record { are = filters_are; alone = spelled_alone; first = first_is }
