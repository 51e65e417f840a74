use Rattle.std.proofs.Common.{sym, ap, ◌∙◌, not}
use Rattle.page_nodes.specs.Entries.{entries}
use Rattle.page_nodes.proofs.AtOnce.{added_one, no_some}
use Rattle.page_nodes.proofs.Put.{hung}
use Rattle.page_nodes.proofs.many.hang_one.Goals as goal

pub returns-then-is_none-clause-links : goal.returns-then-is_none-clause-links
returns-then-is_none-clause-links c = added_one (entries c.args.rows.now.items) _ c.args.target c.args.node c.requires.target c.requires.node
    (sym c.parent_of.ensures ∙ no_some _ (c.is_none.ensures ∙ ap not c.if-is_none.true))
    (c.set_parent.ensures.links ∙ ap (λ k. hung k c.args.target c.args.node) c.add_child.ensures.links)
