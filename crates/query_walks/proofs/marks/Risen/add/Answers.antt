use Rattle.std.proofs.Common.{ap, ◌∙◌, ◌||◌, eqb}
use Rattle.query_grammar.specs.Finds.{has_number}
use Rattle.query_walks.proofs.Rising.{inserted}
use Rattle.query_walks.proofs.marks.Risen.add.Goals as goal

pub returns : goal.returns
returns c = λ n. ap (λ l. has_number l n) c.in_ok-insert.ensures.keys ∙ inserted c.self.inside.set.keys c.args.node n ∙ ap (λ l. eqb n c.args.node || has_number l n) c.self.view_is
