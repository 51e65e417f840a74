use Rattle.std.proofs.Common.{◌≡◌, drop, ◌≤◌, length}
use Rattle.std.specs.List.{list_any}
use Rattle.first_breach.specs.Breaches.{Nothing}
use Rattle.first_breach.specs.Narrowing.{Narrows}
use Rattle.plain_tree.specs.Plains.{placed_all}
use Rattle.markup_rules.specs.Elements.{items}
use Rattle.markup_rules.specs.Rows.{Followed, is_content}
use Rattle.markup_rules.proofs.items.followed.Given as goal

abbrev pub invariant-nodes : goal.invariant-nodes
invariant-nodes l = record {
  inside : l.i ≤ length l.nodes;
  content : l.content_behind ≡ list_any is_content (items (placed_all (drop l.i l.nodes)));
  found : Narrows (Followed (items (placed_all (drop l.i l.nodes)))) l.fn.best Nothing l.least;
}

abbrev pub decreases-nodes : goal.decreases-nodes
decreases-nodes l = l.i
