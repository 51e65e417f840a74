use Rattle.page_tree.specs.Pages.{nodes}
use Rattle.page_tree.proofs.Agree.{apart, is_root, under_body}
use Rattle.page_nodes.proofs.Put.{owner_below}
use Rattle.page_nodes.proofs.Shows.{tree_lower}
use Rattle.page_tree.proofs.page.Page.links_agree.Goals as goal

pub returns : goal.returns
returns c =
    let s = c.args.self.now.arena.sound in
    record {
      down = s.down;
      upward = s.upward;
      once = s.once;
      owned = λ n p u other. owner_below (nodes c.args.self.now) s n p u other;
      apart = apart (nodes c.args.self.now) s;
      low = tree_lower (nodes c.args.self.now) s;
      roots = is_root (nodes c.args.self.now) c.args.self.now.roots c.args.self.now.rooted;
      under = under_body (nodes c.args.self.now) c.args.self.now.roots c.args.self.now.rooted;
    }
