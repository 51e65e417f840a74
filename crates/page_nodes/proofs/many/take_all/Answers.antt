use Rattle.std.proofs.Common.{arith, get_or}
use Rattle.std.proofs.lemmas.List.{get_or_default}
use Rattle.page_nodes.specs.Entries.{entries}
use Rattle.page_nodes.proofs.AtOnce.{cut_of}
use Rattle.page_nodes.proofs.Raised.{one_only}
use Rattle.page_nodes.proofs.many.take_all.Goals as goal

pub returns-then-nodes-eq1-clause-links : goal.returns-then-nodes-eq1-clause-links
returns-then-nodes-eq1-clause-links c =
    let ns = c.args.nodes.now in
    cut_of (entries c.args.rows.now.items) _ ns _ (one_only ns (get_or ns 0 0) c.if-nodes-eq1.true (get_or_default ns 0 0 (get_or ns 0 0) (omega (arith, c.if-nodes-eq1.true)))) c.take_one.ensures.links
