use Rattle.std.proofs.Common.{subst, sym, ◌∙◌}
use Rattle.page_nodes.specs.Arenas.{nodes_in}
use Rattle.page_nodes.specs.Entries.{IsSound}
use Rattle.page_nodes.specs.Index.{IsIndex}
use Rattle.page_nodes.proofs.Adds.{taken_back}
use Rattle.page_nodes.proofs.index.add.Goals as goal

pub truncate-requires : goal.truncate-requires
truncate-requires c = subst IsSound (sym (taken_back (nodes_in c.args.arena.now) _ _ c.len-len.ensures c.in-Err.ensures.nodes)) c.args.arena.now.sound

pub returns-in-Err-clause-nodes : goal.returns-in-Err-clause-nodes
returns-in-Err-clause-nodes c = c.truncate.ensures ∙ taken_back (nodes_in c.args.arena.now) _ _ c.len-len.ensures c.in-Err.ensures.nodes

pub returns-in-Err-clause-index : goal.returns-in-Err-clause-index
returns-in-Err-clause-index c = subst (λ k. IsIndex k c.add_entered.new.ids) (sym (c.truncate.ensures ∙ taken_back (nodes_in c.args.arena.now) _ _ c.len-len.ensures c.in-Err.ensures.nodes)) c.in-Err.ensures.index
