use Rattle.std.proofs.Common.{refl, None}
use Rattle.page_nodes.specs.Arenas.{nodes_in}
use Rattle.page_nodes.specs.Index.{IsIndex}
use Rattle.page_nodes.specs.Moves.{ArePut}
use Rattle.page_nodes.proofs.Indexing.{index_after}
use Rattle.page_tree.specs.Counts.{IsCounted}
use Rattle.page_tree.specs.Pages.{nodes}
use Rattle.page_tree.specs.Roots.{IsRooted}
use Rattle.page_tree.proofs.Counts.{counted_after}
use Rattle.page_tree.proofs.Refusals.{either_way}
use Rattle.page_tree.proofs.RootsKept.{rooted_put_same}
use Rattle.page_tree.proofs.page.Page.append.Goals as goal

pub put_all-requires-clause-away : goal.put_all-requires-clause-away
put_all-requires-clause-away c = λ i lt. refl

pub invariant_of-self : goal.invariant_of-self
invariant_of-self c =
    let k = nodes c.args.self.now in
    let m = nodes_in c.put_all.new.self in
    let r = c.put_all.result in
    let done = ArePut k m c.args.target None c.args.news.now in
    record {
      rooted = either_way r (λ y. IsRooted y c.args.self.now.roots) done k m c.args.self.now.rooted (λ h. rooted_put_same k k m c.args.self.now.roots c.args.target None c.args.news.now refl c.args.self.now.arena.sound c.args.self.now.rooted c.in_ok-may_append.ensures h) c.put_all.ensures.links c.put_all.ensures.unchanged;
      counted = either_way r (λ y. IsCounted y c.args.self.now.made) done k m c.args.self.now.counted (λ h. counted_after k k m c.args.self.now.made refl h.kept c.args.self.now.counted) c.put_all.ensures.links c.put_all.ensures.unchanged;
      indexed = either_way r (λ y. IsIndex y c.args.self.now.ids) done k m c.args.self.now.indexed (λ h. index_after k k m c.args.self.now.ids refl h.kept c.args.self.now.indexed) c.put_all.ensures.links c.put_all.ensures.unchanged;
    }
