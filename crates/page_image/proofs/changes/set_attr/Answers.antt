use Rattle.std.proofs.Common.{◌≡◌, false}
use Rattle.tree_ops.specs.Labels.{with_attribute}
use Rattle.page_nodes.specs.Entries.{at}
use Rattle.page_nodes.specs.Moves.{IsRelabelled}
use Rattle.page_tree.specs.Pages.{nodes}
use Rattle.page_image.specs.Image.{number, forest, relabel_in}
use Rattle.page_image.proofs.Calls.{is_text_there, label_either, label_others_either}
use Rattle.page_image.proofs.Pages.{is_node, label_image, all_stay, below_32}
use Rattle.page_image.proofs.Results.{ok_then, err_then}
use Rattle.page_image.proofs.Hosting.{label_host_either}
use Rattle.page_image.proofs.changes.set_attr.Goals as goal

pub set_attr-requires-clause-node : goal.set_attr-requires-clause-node
set_attr-requires-clause-node c = is_node c.args.page.now c.args.widget c.args.node c.requires.own

pub set_attr-requires-clause-element : goal.set_attr-requires-clause-element
set_attr-requires-clause-element c = is_text_there c.args.page.now c.args.widget c.args.node false c.requires.own c.requires.element

pub returns-clause-image : goal.returns-clause-image
returns-clause-image c =
    let old = c.args.page.now in
    let new = c.set_attr.new.self in
    let change = with_attribute c.args.name.now c.args.value in
    ok_then c.set_attr.result (IsRelabelled (nodes old) (nodes new) c.args.node (change (at (nodes old) c.args.node).label)) (forest new c.args.widget ≡ relabel_in change (forest old c.args.widget) (number old c.args.widget c.args.node))
    (λ h. label_image old new c.set_attr.ensures.roots c.args.widget c.requires.home c.args.node change c.requires.own h) c.set_attr.ensures.done

pub returns-clause-unchanged : goal.returns-clause-unchanged
returns-clause-unchanged c =
    let old = c.args.page.now in
    let new = c.set_attr.new.self in
    err_then c.set_attr.result (nodes new ≡ nodes old) (forest new c.args.widget ≡ forest old c.args.widget) (λ e. all_stay old new c.set_attr.ensures.roots e c.args.widget (below_32 old c.args.widget c.args.node c.requires.own)) c.set_attr.ensures.unchanged

pub returns-clause-kept : goal.returns-clause-kept
returns-clause-kept c = label_either c.args.page.now c.set_attr.new.self c.set_attr.ensures.roots c.args.widget c.args.node c.requires.own c.set_attr.result (with_attribute c.args.name.now c.args.value (at (nodes c.args.page.now) c.args.node).label) c.set_attr.ensures.done c.set_attr.ensures.unchanged

pub returns-clause-others : goal.returns-clause-others
returns-clause-others c = label_others_either c.args.page.now c.set_attr.new.self c.set_attr.ensures.roots c.args.widget c.args.node c.requires.own c.set_attr.result (with_attribute c.args.name.now c.args.value (at (nodes c.args.page.now) c.args.node).label) c.set_attr.ensures.done c.set_attr.ensures.unchanged c.set_attr.ensures.others

pub returns-clause-host : goal.returns-clause-host
returns-clause-host c = label_host_either c.args.page.now c.set_attr.new.self c.args.widget c.args.node c.requires.own c.set_attr.result (with_attribute c.args.name.now c.args.value (at (nodes c.args.page.now) c.args.node).label) c.set_attr.ensures.done c.set_attr.ensures.unchanged c.set_attr.ensures.others
