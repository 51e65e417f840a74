use Rattle.js_grammar.proofs.Fronts.{cut_short}
use Rattle.js_grammar.proofs.cut_short.Goals as goal

pub returns : goal.returns
returns c = cut_short
