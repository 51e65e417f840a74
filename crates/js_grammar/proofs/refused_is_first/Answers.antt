use Rattle.js_grammar.proofs.Fronts.{syntax_begins, syntax_ends, deep_begins}
use Rattle.js_grammar.proofs.refused_is_first.Goals as goal

pub returns : goal.returns
returns c = record { begins = syntax_begins; ends = syntax_ends; deep = deep_begins }
