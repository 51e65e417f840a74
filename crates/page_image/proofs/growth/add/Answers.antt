use Rattle.std.proofs.Common.{◌≡◌, refl, true, length}
use Rattle.code_units.specs.declared.owner.Owner.TheVariants as owner
use Rattle.page_nodes.specs.Adds.{IsAdded}
use Rattle.page_tree.specs.Pages.{nodes, RefusesAdd}
use Rattle.plain_tree.specs.Plains.{unplaced}
use Rattle.plain_tree.specs.Trees.{beside, size}
use Rattle.tree_ops.specs.Trees.{numbered}
use Rattle.page_image.specs.Image.{owns, number, own, forest}
use Rattle.page_image.specs.Refusals.{RefusesTree}
use Rattle.page_image.specs.Stays.{HostStays, KeepsNodes, GrowsBy, OthersStay}
use Rattle.page_image.proofs.Growing.{added_image, added_number, added_owned, added_grows, added_others, added_refused, range_long}
use Rattle.page_image.proofs.Pages.{is_widget, all_keep, all_stay}
use Rattle.page_image.proofs.Results.{if_ok_then, if_err_then, err_then, if_ok_on, if_either}
use Rattle.page_image.proofs.Hosting.{added_host, host_same}
use Rattle.page_image.proofs.growth.add.Goals as goal

pub add-requires-clause-owner : goal.add-requires-clause-owner
add-requires-clause-owner c = is_widget c.args.widget c.requires

pub add-requires-clause-host : goal.add-requires-clause-host
add-requires-clause-host c = λ e. cc

pub returns-clause-image : goal.returns-clause-image
returns-clause-image c =
    let old = c.args.page.now in
    let new = c.add.new.self in
    let p = unplaced c.args.plain.now in
    if_ok_on c.add.result (λ id. IsAdded (nodes old) (nodes new) id (owner.Widget c.args.widget) p) (forest new c.args.widget ≡ beside (forest old c.args.widget) (numbered (length (own old c.args.widget)) p))
    (λ id h. added_image old new c.add.ensures.roots c.args.widget c.requires id p h) c.add.ensures.done

pub returns-clause-number : goal.returns-clause-number
returns-clause-number c =
    let old = c.args.page.now in
    let new = c.add.new.self in
    let p = unplaced c.args.plain.now in
    if_ok_then c.add.result (λ id. IsAdded (nodes old) (nodes new) id (owner.Widget c.args.widget) p) (λ id. number new c.args.widget id ≡ length (own old c.args.widget))
    (λ id h. added_number old new c.add.ensures.roots c.args.widget c.requires id p h) c.add.ensures.done

pub returns-clause-own : goal.returns-clause-own
returns-clause-own c =
    let old = c.args.page.now in
    let new = c.add.new.self in
    let p = unplaced c.args.plain.now in
    if_ok_then c.add.result (λ id. IsAdded (nodes old) (nodes new) id (owner.Widget c.args.widget) p) (λ id. owns new c.args.widget id ≡ true)
    (λ id h. added_owned old new c.add.ensures.roots c.args.widget c.requires id p h) c.add.ensures.done

pub returns-clause-grows : goal.returns-clause-grows
returns-clause-grows c =
    let old = c.args.page.now in
    let new = c.add.new.self in
    let p = unplaced c.args.plain.now in
    if_ok_on c.add.result (λ id. IsAdded (nodes old) (nodes new) id (owner.Widget c.args.widget) p) (GrowsBy old new c.args.widget (size p))
    (λ id h. (_, range_long (size p) _, added_grows old new c.add.ensures.roots c.args.widget c.requires id p h)) c.add.ensures.done

pub returns-clause-refused : goal.returns-clause-refused
returns-clause-refused c =
    let old = c.args.page.now in
    let p = unplaced c.args.plain.now in
    if_err_then c.add.result (RefusesAdd (nodes old) (owner.Widget c.args.widget) p) (RefusesTree (length (own old c.args.widget)) p) (added_refused old c.args.widget p) c.add.ensures.refused

pub returns-clause-unchanged : goal.returns-clause-unchanged
returns-clause-unchanged c =
    let old = c.args.page.now in
    let new = c.add.new.self in
    err_then c.add.result (nodes new ≡ nodes old) (forest new c.args.widget ≡ forest old c.args.widget) (λ e. all_stay old new c.add.ensures.roots e c.args.widget c.requires) c.add.ensures.unchanged

pub returns-clause-others : goal.returns-clause-others
returns-clause-others c =
    let old = c.args.page.now in
    let new = c.add.new.self in
    let p = unplaced c.args.plain.now in
    if_either c.add.result (λ id. IsAdded (nodes old) (nodes new) id (owner.Widget c.args.widget) p) (nodes new ≡ nodes old) (OthersStay old new c.args.widget)
    (λ id h. added_others old new c.add.ensures.roots c.args.widget c.requires id p h) (λ e v lt ne. all_stay old new c.add.ensures.roots e v lt) c.add.ensures.done c.add.ensures.unchanged

pub returns-clause-kept : goal.returns-clause-kept
returns-clause-kept c = err_then c.add.result (nodes c.add.new.self ≡ nodes c.args.page.now) (KeepsNodes c.args.page.now c.add.new.self) (all_keep c.args.page.now c.add.new.self c.add.ensures.roots) c.add.ensures.unchanged

pub returns-clause-host : goal.returns-clause-host
returns-clause-host c =
    let old = c.args.page.now in
    let new = c.add.new.self in
    let p = unplaced c.args.plain.now in
    if_either c.add.result (λ id. IsAdded (nodes old) (nodes new) id (owner.Widget c.args.widget) p) (nodes new ≡ nodes old) (HostStays old new)
    (λ id h. added_host old new id (owner.Widget c.args.widget) p refl h) (host_same old new) c.add.ensures.done c.add.ensures.unchanged
