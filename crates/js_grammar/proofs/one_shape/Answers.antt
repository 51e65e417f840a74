use Rattle.js_grammar.proofs.Shapes.{one_shape}
use Rattle.js_grammar.proofs.one_shape.Goals as goal

pub returns : goal.returns
returns c = one_shape
