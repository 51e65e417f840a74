use Rattle.std.proofs.Common.{◌∙◌, ap, sym}
use Rattle.std.specs.List.{flat_map}
use Rattle.page_nodes.proofs.Lists.{ok_equal}
use Rattle.page_tree.specs.Pages.{nodes, root}
use Rattle.query_walks.specs.Nodes.{is_element}
use Rattle.query_walks.specs.Finds.{is_tagged, hunted, in_order}
use Rattle.query_walks.proofs.OneStart.{one_below, one_children}
use Rattle.query_walks.proofs.hunt.hunt_from_one.Goals as goal

pub returns-in-Tag : goal.returns-in-Tag
returns-in-Tag c =
    let p = c.args.page.now in
    let o = c.args.owner in
    ok_equal c.all_below.result (λ v. v.items) _ _
    (one_below p o c.requires.owner (is_tagged (nodes p) c.in-Tag.tag) c.args.starts.now c.requires.nodes c.requires.one
    ∙ ap (λ h. in_order (nodes p) (root p o) o (flat_map (hunted (nodes p) (root p o) h) c.args.starts.now)) (sym c.in-Tag.is))
    c.all_below.ensures

pub returns-in-Child : goal.returns-in-Child
returns-in-Child c =
    let p = c.args.page.now in
    let o = c.args.owner in
    ok_equal c.all_children.result (λ v. v.items) _ _
    (one_children p o c.requires.owner (is_tagged (nodes p) c.in-Child.tag) c.args.starts.now c.requires.nodes c.requires.one
    ∙ ap (λ h. in_order (nodes p) (root p o) o (flat_map (hunted (nodes p) (root p o) h) c.args.starts.now)) (sym c.in-Child.is))
    c.all_children.ensures

pub returns-in-Children : goal.returns-in-Children
returns-in-Children c =
    let p = c.args.page.now in
    let o = c.args.owner in
    ok_equal c.all_children-in-Children.result (λ v. v.items) _ _
    (one_children p o c.requires.owner (is_element (nodes p)) c.args.starts.now c.requires.nodes c.requires.one
    ∙ ap (λ h. in_order (nodes p) (root p o) o (flat_map (hunted (nodes p) (root p o) h) c.args.starts.now)) (sym c.in-Children.is))
    c.all_children-in-Children.ensures

pub returns-in-All : goal.returns-in-All
returns-in-All c =
    let p = c.args.page.now in
    let o = c.args.owner in
    ok_equal c.all_below-in-All.result (λ v. v.items) _ _
    (one_below p o c.requires.owner (is_element (nodes p)) c.args.starts.now c.requires.nodes c.requires.one
    ∙ ap (λ h. in_order (nodes p) (root p o) o (flat_map (hunted (nodes p) (root p o) h) c.args.starts.now)) (sym c.in-All.is))
    c.all_below-in-All.ensures
