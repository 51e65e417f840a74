use Rattle.std.proofs.Common.{sym, ◌∙◌}
use Rattle.page_tree.specs.Pages.{nodes}
use Rattle.page_nodes.proofs.Upward.{parent_in}
use Rattle.page_nodes.proofs.Walk.{nearer}
use Rattle.query_walks.specs.Walks.{below_any}
use Rattle.query_walks.proofs.Downward.{sound}
use Rattle.query_walks.proofs.WithId.{up_on, up_found, up_none}
use Rattle.query_walks.proofs.named.is_below.Goals as goal

pub up-preserved : goal.up-preserved
up-preserved c =
    let p = c.args.page.now in
    let u = sym c.parent.ensures ∙ c.in-Some.is in
    record {
      is_in = parent_in (nodes p) (sound p) c.up.place c.in-Some.parent u;
      same = up_on p c.args.starts.now c.up.place c.in-Some.parent (below_any (nodes p) c.args.starts.now c.args.node) u (sym c.has.ensures ∙ c.if-has.false) c.up.invariant.same;
    }

pub up-smaller : goal.up-smaller
up-smaller c = nearer (nodes c.args.page.now) (sound c.args.page.now) c.up.place c.in-Some.parent (sym c.parent.ensures ∙ c.in-Some.is)

pub returns-then-has : goal.returns-then-has
returns-then-has c = up_found c.args.page.now c.args.starts.now c.up.place c.in-Some.parent (below_any (nodes c.args.page.now) c.args.starts.now c.args.node) (sym c.parent.ensures ∙ c.in-Some.is) (sym c.has.ensures ∙ c.if-has.true) c.up.invariant.same

pub returns : goal.returns
returns c = up_none c.args.page.now c.args.starts.now c.up.place (below_any (nodes c.args.page.now) c.args.starts.now c.args.node) (sym c.parent.ensures ∙ c.in_default.is) c.up.invariant.same
