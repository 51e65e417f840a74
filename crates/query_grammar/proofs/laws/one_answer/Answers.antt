use Rattle.query_grammar.proofs.Answered.{answer}
use Rattle.query_grammar.proofs.Exact.{one_query, one_place, no_query}
use Rattle.query_grammar.proofs.laws.one_answer.Goals as goal

pub returns : goal.returns
returns c = record { some = answer; one_query = one_query; one_place = one_place; no_query = no_query }
