use Rattle.markup_grammar.specs.Judge.{Bad}
use Rattle.markup_grammar.proofs.Broken.{broken_judged}
use Rattle.markup_grammar.proofs.broken_bytes_are_exact.Goals as goal

pub returns : goal.returns
returns c = λ bytes n at v e. broken_judged bytes n v (Bad at) e
