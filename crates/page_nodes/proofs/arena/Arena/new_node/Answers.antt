use Rattle.std.proofs.Common.{arith, sym, subst}
use Rattle.page_nodes.specs.Entries.{IsSound}
use Rattle.page_nodes.specs.Arenas.{nodes_in}
use Rattle.page_nodes.proofs.Lists.{entries_long, match_either}
use Rattle.page_nodes.proofs.Adds.{node_written}
use Rattle.page_nodes.proofs.arena.Arena.new_node.Goals as goal

pub invariant_of-self : goal.invariant_of-self
invariant_of-self c = record {
  sound = match_either c.push_node.result _ _ _
      (λ e. (node_written (nodes_in c.args.self.now) _ c.args.owner _ c.len-id.result c.args.self.now.sound (omega (arith, c.len-id.ensures, c.args.self.now.rows.ok.0, entries_long c.args.self.now.rows.items)) (omega (arith, c.if-id-ge-MOST.false)) e).0)
      (λ e. subst IsSound (sym e) c.args.self.now.sound)
      c.push_node.ensures;
}

pub returns : goal.returns
returns c = (node_written (nodes_in c.args.self.now) _ c.args.owner _ c.len-id.result c.args.self.now.sound (omega (arith, c.len-id.ensures, c.args.self.now.rows.ok.0, entries_long c.args.self.now.rows.items)) (omega (arith, c.if-id-ge-MOST.false)) c.in_ok-push_node.ensures).1
