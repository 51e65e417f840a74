use Rattle.markup_grammar.proofs.Answers as laws
use Rattle.markup_grammar.proofs.cut_short.Goals as goal

pub returns : goal.returns
returns c = laws.cut_short
