use Rattle.page_nodes.proofs.Start.{first_made, sound_start}
use Rattle.page_nodes.proofs.arena.Arena.new.Goals as goal

pub invariant_of-result : goal.invariant_of-result
invariant_of-result c = record { sound = sound_start _ (first_made _ _ _ _ c.in_ok-push_node.ensures c.new-rows.ensures.items c.in-Ok.ensures.ok.1 c.new.ensures.items) }

pub returns : goal.returns
returns c = first_made _ _ _ _ c.in_ok-push_node.ensures c.new-rows.ensures.items c.in-Ok.ensures.ok.1 c.new.ensures.items
