use Rattle.std.proofs.Common.{map, sym, ap, ◌∙◌}
use Rattle.widget_meaning.specs.Trees.{subtrees}
use Rattle.page_image.specs.Image.{number, forest}
use Rattle.page_image.proofs.Looks.{children_at, tops_at, child_owned}
use Rattle.page_image.proofs.Pages.{is_node}
use Rattle.page_image.proofs.reads.children.Goals as goal

pub children-requires : goal.children-requires
children-requires c = is_node c.args.page.now c.args.widget c.args.node c.requires

pub returns-clause-image : goal.returns-clause-image
returns-clause-image c = children_at c.args.page.now c.args.widget c.args.node c.requires ∙ ap (λ l. subtrees (map (number c.args.page.now c.args.widget) l) (forest c.args.page.now c.args.widget)) (sym c.children.ensures)

pub returns-clause-tops : goal.returns-clause-tops
returns-clause-tops c = tops_at c.args.page.now c.args.widget c.args.node c.requires ∙ ap (map (number c.args.page.now c.args.widget)) (sym c.children.ensures)

pub returns-clause-own : goal.returns-clause-own
returns-clause-own c = child_owned c.args.page.now c.args.widget c.args.node c.requires c.children.result.now c.children.ensures
