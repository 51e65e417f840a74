use Rattle.std.proofs.Common.{refl, sym, ap, ◌∙◌}
use Rattle.std.specs.List.{fold}
use Rattle.page_nodes.specs.Entries.{at}
use Rattle.page_tree.specs.Pages.{nodes}
use Rattle.widget_meaning.specs.Trees.{detached}
use Rattle.page_image.specs.Image.{forest}
use Rattle.page_image.proofs.Detaching.{all_image, all_keeps, all_others, others_of_one}
use Rattle.page_image.proofs.Looks.{child_owned, child_not_root, not_the_body, tops_at}
use Rattle.page_image.proofs.Pages.{is_node, owner_is}
use Rattle.page_image.proofs.Hosting.{empty_host}
use Rattle.page_image.proofs.changes.empty.Goals as goal

pub empty-requires-clause-node : goal.empty-requires-clause-node
empty-requires-clause-node c = is_node c.args.page.now c.args.widget c.args.node c.requires.own

pub empty-requires-clause-below : goal.empty-requires-clause-below
empty-requires-clause-below c = not_the_body c.args.page.now c.args.widget c.args.node c.requires.own

pub returns-clause-image : goal.returns-clause-image
returns-clause-image c =
    let old = c.args.page.now in
    let w = c.args.widget in
    let n = c.args.node in
    all_image old c.empty.new.self c.empty.ensures.roots w (at (nodes old) n).children c.empty.ensures.steps c.requires.home (owner_is old w n c.requires.own) (child_owned old w n c.requires.own (at (nodes old) n).children refl) (child_not_root old w n c.requires.home c.requires.own)
    ∙ ap (fold detached (forest old w)) (sym (tops_at old w n c.requires.own))

pub returns-clause-kept : goal.returns-clause-kept
returns-clause-kept c = all_keeps c.args.page.now c.empty.new.self c.empty.ensures.roots c.args.widget (at (nodes c.args.page.now) c.args.node).children c.empty.ensures.steps

pub returns-clause-others : goal.returns-clause-others
returns-clause-others c =
    let old = c.args.page.now in
    let w = c.args.widget in
    let n = c.args.node in
    all_others old c.empty.new.self c.empty.ensures.roots w (at (nodes old) n).children c.empty.ensures.steps c.requires.home (owner_is old w n c.requires.own) (child_owned old w n c.requires.own (at (nodes old) n).children refl) (others_of_one old c.empty.new.self w n c.requires.own c.empty.ensures.others)

pub returns-clause-host : goal.returns-clause-host
returns-clause-host c = empty_host c.args.page.now c.empty.new.self c.args.widget c.args.node c.requires.own c.empty.ensures.steps c.empty.ensures.others
