use Rattle.std.proofs.Common.{sym, ◌∙◌, get_or}
use Rattle.std.specs.List.{list_any}
use Rattle.page_nodes.specs.Arenas.{nodes_in}
use Rattle.page_nodes.specs.Entries.{tree}
use Rattle.tree_ops.specs.Trees.{has}
use Rattle.page_nodes.proofs.Walk.{any_more, any_found, any_none, parent_apart}
use Rattle.page_nodes.proofs.arena.Arena.some_in_any.Goals as goal

pub each-preserved : goal.each-preserved
each-preserved c =
    let k = nodes_in c.args.self.now in
    let one = sym c.is_in_ordered.ensures ∙ c.if-is_in_ordered.false in
    record {
      none = any_more (λ n. list_any (λ t. has n (tree k t)) c.args.tops.now) c.args.nodes.now c.each.node-index c.each-test.true c.each.invariant.none one;
      apart = λ a u. parent_apart k c.args.self.now.sound (get_or c.args.nodes.now c.each.node-index 0) a c.args.tops.now (sym c.parent_of-apart.ensures ∙ u) one;
    }

pub returns-then-is_in_ordered : goal.returns-then-is_in_ordered
returns-then-is_in_ordered c = any_found (λ n. list_any (λ t. has n (tree (nodes_in c.args.self.now) t)) c.args.tops.now) c.args.nodes.now c.each.node-index c.each-test.true (sym c.is_in_ordered.ensures ∙ c.if-is_in_ordered.true)

pub returns : goal.returns
returns c = any_none (λ n. list_any (λ t. has n (tree (nodes_in c.args.self.now) t)) c.args.tops.now) c.args.nodes.now c.each.node-index c.each-test.false c.each.invariant.none
