use Rattle.std.proofs.Common.{◌∙◌, ap}
use Rattle.code_units.specs.declared.owner.Owner.TheVariants as owner
use Rattle.page_nodes.specs.Owners.{root_in}
use Rattle.page_tree.proofs.Start.{no_root_first, rooted_start}
use Rattle.page_tree.proofs.Counts.{counted_start}
use Rattle.page_nodes.proofs.Indexing.{index_start}
use Rattle.page_tree.proofs.page.Page.new.Goals as goal

pub invariant_of-result : goal.invariant_of-result
invariant_of-result c = record { rooted = rooted_start _ _ c.in_ok-arena.ensures c.first_roots.ensures; counted = counted_start _ _ c.in_ok-arena.ensures c.first_counts.ensures; indexed = index_start _ _ c.in_ok-arena.ensures c.in_ok-ids.ensures }

pub returns-clause-roots : goal.returns-clause-roots
returns-clause-roots c = λ w lt. ap (λ roots. root_in roots (owner.Widget w)) c.first_roots.ensures ∙ no_root_first w lt
