use Rattle.js_grammar.proofs.Laws.{read_means, tree_means, refused_means, deeper_means}
use Rattle.js_grammar.proofs.machine_is_exact.Goals as goal

pub returns : goal.returns
returns c = record { tree = λ limit input p. (read_means limit input p, tree_means limit input p); syntax = refused_means; too_deep = deeper_means }
