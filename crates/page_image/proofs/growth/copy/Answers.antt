use Rattle.std.proofs.Common.{◌≡◌, true, length, ap, ◌∙◌}
use Rattle.page_nodes.specs.Adds.{IsAdded}
use Rattle.page_nodes.specs.Entries.{at}
use Rattle.page_tree.specs.Pages as page
use Rattle.page_tree.specs.Pages.{nodes, copy_of}
use Rattle.plain_tree.specs.Trees.{beside, size}
use Rattle.tree_ops.specs.Trees.{numbered, copied, subtree}
use Rattle.page_image.specs.Image.{owns, number, own, forest}
use Rattle.page_image.specs.Refusals.{RefusesCopy}
use Rattle.page_image.specs.Stays.{HostStays, KeepsNodes, GrowsBy, OthersStay}
use Rattle.page_image.proofs.Growing.{added_image, added_number, added_owned, added_grows, added_others, copy_refused, copy_added, copy_size, copied_image, no_host, range_long}
use Rattle.page_image.proofs.Pages.{is_node, below_32, all_keep, all_stay}
use Rattle.page_image.proofs.Results.{if_ok_then, if_err_then, err_then, if_ok_on, if_either}
use Rattle.page_image.proofs.Hosting.{added_host, host_same}
use Rattle.page_image.proofs.growth.copy.Goals as goal

pub copy-requires-clause-node : goal.copy-requires-clause-node
copy-requires-clause-node c = is_node c.args.page.now c.args.widget c.args.node c.requires

pub copy-requires-clause-widget : goal.copy-requires-clause-widget
copy-requires-clause-widget c = no_host c.args.page.now c.args.widget c.args.node c.requires

pub returns-clause-image : goal.returns-clause-image
returns-clause-image c =
    let old = c.args.page.now in
    let new = c.copy.new.self in
    let w = c.args.widget in
    let n = c.args.node in
    if_ok_on c.copy.result (λ id. IsAdded (nodes old) (nodes new) id (at (nodes old) n).owner (copy_of (nodes old) n)) (forest new w ≡ beside (forest old w) (numbered (length (own old w)) (copied (subtree (number old w n) (forest old w)))))
    (λ id h. added_image old new c.copy.ensures.roots w (below_32 old w n c.requires) id (copy_of (nodes old) n) (copy_added old new w n id c.requires h) ∙ ap (beside (forest old w)) (copied_image old w n (length (own old w)) c.requires)) c.copy.ensures.done

pub returns-clause-number : goal.returns-clause-number
returns-clause-number c =
    let old = c.args.page.now in
    let new = c.copy.new.self in
    let w = c.args.widget in
    let n = c.args.node in
    if_ok_then c.copy.result (λ id. IsAdded (nodes old) (nodes new) id (at (nodes old) n).owner (copy_of (nodes old) n)) (λ id. number new w id ≡ length (own old w))
    (λ id h. added_number old new c.copy.ensures.roots w (below_32 old w n c.requires) id (copy_of (nodes old) n) (copy_added old new w n id c.requires h)) c.copy.ensures.done

pub returns-clause-own : goal.returns-clause-own
returns-clause-own c =
    let old = c.args.page.now in
    let new = c.copy.new.self in
    let w = c.args.widget in
    let n = c.args.node in
    if_ok_then c.copy.result (λ id. IsAdded (nodes old) (nodes new) id (at (nodes old) n).owner (copy_of (nodes old) n)) (λ id. owns new w id ≡ true)
    (λ id h. added_owned old new c.copy.ensures.roots w (below_32 old w n c.requires) id (copy_of (nodes old) n) (copy_added old new w n id c.requires h)) c.copy.ensures.done

pub returns-clause-grows : goal.returns-clause-grows
returns-clause-grows c =
    let old = c.args.page.now in
    let new = c.copy.new.self in
    let w = c.args.widget in
    let n = c.args.node in
    if_ok_on c.copy.result (λ id. IsAdded (nodes old) (nodes new) id (at (nodes old) n).owner (copy_of (nodes old) n)) (GrowsBy old new w (size (subtree (number old w n) (forest old w))))
    (λ id h. (_, range_long (size (copy_of (nodes old) n)) _ ∙ copy_size old w n c.requires, added_grows old new c.copy.ensures.roots w (below_32 old w n c.requires) id (copy_of (nodes old) n) (copy_added old new w n id c.requires h))) c.copy.ensures.done

pub returns-clause-refused : goal.returns-clause-refused
returns-clause-refused c =
    let old = c.args.page.now in
    let w = c.args.widget in
    let n = c.args.node in
    if_err_then c.copy.result (page.RefusesCopy (nodes old) (at (nodes old) n).owner (copy_of (nodes old) n)) (RefusesCopy (length (own old w)) (size (subtree (number old w n) (forest old w)))) (copy_refused old w n c.requires) c.copy.ensures.refused

pub returns-clause-unchanged : goal.returns-clause-unchanged
returns-clause-unchanged c =
    let old = c.args.page.now in
    let new = c.copy.new.self in
    err_then c.copy.result (nodes new ≡ nodes old) (forest new c.args.widget ≡ forest old c.args.widget) (λ e. all_stay old new c.copy.ensures.roots e c.args.widget (below_32 old c.args.widget c.args.node c.requires)) c.copy.ensures.unchanged

pub returns-clause-others : goal.returns-clause-others
returns-clause-others c =
    let old = c.args.page.now in
    let new = c.copy.new.self in
    let w = c.args.widget in
    let n = c.args.node in
    if_either c.copy.result (λ id. IsAdded (nodes old) (nodes new) id (at (nodes old) n).owner (copy_of (nodes old) n)) (nodes new ≡ nodes old) (OthersStay old new w)
    (λ id h. added_others old new c.copy.ensures.roots w (below_32 old w n c.requires) id (copy_of (nodes old) n) (copy_added old new w n id c.requires h)) (λ e v lt ne. all_stay old new c.copy.ensures.roots e v lt) c.copy.ensures.done c.copy.ensures.unchanged

pub returns-clause-kept : goal.returns-clause-kept
returns-clause-kept c = err_then c.copy.result (nodes c.copy.new.self ≡ nodes c.args.page.now) (KeepsNodes c.args.page.now c.copy.new.self) (all_keep c.args.page.now c.copy.new.self c.copy.ensures.roots) c.copy.ensures.unchanged

pub returns-clause-host : goal.returns-clause-host
returns-clause-host c =
    let old = c.args.page.now in
    let new = c.copy.new.self in
    let n = c.args.node in
    if_either c.copy.result (λ id. IsAdded (nodes old) (nodes new) id (at (nodes old) n).owner (copy_of (nodes old) n)) (nodes new ≡ nodes old) (HostStays old new)
    (λ id h. added_host old new id (at (nodes old) n).owner (copy_of (nodes old) n) (no_host old c.args.widget n c.requires) h) (host_same old new) c.copy.ensures.done c.copy.ensures.unchanged
