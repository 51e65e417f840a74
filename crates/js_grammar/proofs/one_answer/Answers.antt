use Rattle.js_grammar.proofs.Laws.{one_syntax, one_deep, one_cause, no_tree, no_flat_tree}
use Rattle.js_grammar.proofs.Fronts.{answer}
use Rattle.js_grammar.proofs.one_answer.Goals as goal

pub returns : goal.returns
returns c = record { some = answer; one_place = one_syntax; one_deep = one_deep; one_cause = one_cause; no_tree = no_tree; no_flat_tree = no_flat_tree }
