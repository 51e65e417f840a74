use Rattle.query_grammar.proofs.Answered.{refuses}
use Rattle.query_grammar.proofs.Complete.{complete}
use Rattle.query_grammar.proofs.Exact.{refused_is}
use Rattle.query_grammar.proofs.Sound.{sound}
use Rattle.query_grammar.proofs.laws.machine_is_exact.Goals as goal

pub returns : goal.returns
returns c = record {
  query = λ us steps. (sound us steps, complete us steps);
  refused = λ us left at place. (λ is. refused_is us left at is place, refuses us left at place);
}
