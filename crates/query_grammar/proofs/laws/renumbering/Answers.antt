use Rattle.query_grammar.proofs.Renumbered.{finds_mapped}
use Rattle.query_grammar.proofs.laws.renumbering.Goals as goal

pub returns : goal.returns
returns c = λ s t f starts query whole re st. finds_mapped s t f whole re starts query st
